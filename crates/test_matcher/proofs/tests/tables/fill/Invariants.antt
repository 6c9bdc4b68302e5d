use Rattle.std.proofs.Common.{◌<◌, length}
use Rattle.test_matcher.proofs.tests.tables.fill.Given as goal

abbrev pub invariant-loop-node : goal.invariant-loop-node
invariant-loop-node l = record {
  first : l.first.0 < length l.patterns;
  deepest : l.deepest.0 < length l.patterns;
}
