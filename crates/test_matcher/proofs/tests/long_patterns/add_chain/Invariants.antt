use Rattle.std.proofs.Common.{◌<◌, length}
use Rattle.test_matcher.proofs.tests.long_patterns.add_chain.Given as goal

abbrev pub invariant-loop-part : goal.invariant-loop-part
invariant-loop-part l = record {
  null : l.null.0 < length l.table;
  chain : l.chain.0 < length l.table;
}
