use Rattle.std.proofs.Common.{◌<◌, length}
use Rattle.test_matcher.proofs.tests.tables.check_refusals.Given as goal

abbrev pub invariant-refusals : goal.invariant-refusals
invariant-refusals g l = record {
  first : l.first.0 < length l.patterns;
  last : l.last.0 < length l.patterns;
}
