use Rattle.std.proofs.Common.{arith}
use Rattle.sno_pattern.specs.Table.{tree}
use Rattle.sno_match.proofs.StartLaws.{more_fails}
use Rattle.sno_match.proofs.heads.head_of.Goals as goal

pub chain-preserved : goal.chain-preserved
chain-preserved c =
    let nodes = c.args.patterns.now in
    record {
      known = omega (arith, c.in-Some.ensures.below, c.chain.invariant.known);
      fails = more_fails (tree nodes c.args.pattern.0) (tree nodes c.chain.head.id.0) (tree nodes c.in-Some.first.0)
          c.chain.head.above c.chain.invariant.fails c.in-Some.ensures.fails;
      near = omega arith;
    }
