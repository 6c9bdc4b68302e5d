use Rattle.std.proofs.Common.{◌≡◌, ◌+◌, arith}
use Rattle.sno_pattern.specs.inner.Kinds.{nodes_of}
use Rattle.sno_pattern.specs.Table.{tree}
use Rattle.sno_pattern.proofs.FirstByteLaws.{begins-more}
use Rattle.sno_pattern.proofs.first_bytes.add_both.Goals as goal

pub returns : goal.returns
returns c =
    let sum : c.in_ok-steps.steps ≡ c.in_ok-before.before + c.in_ok-behind.behind + 2 = omega (arith, c.in_ok-both.ensures.1, c.in_ok-steps.ensures.1) in (
      c.in_ok-before.before,
      c.in_ok-behind.behind,
      sum,
      begins-more c.add_beginning.new.set c.add_beginning-2.new.set c.add_beginning-2.ensures.grows (tree (nodes_of c.args.entries.now) c.args.first.0)
          c.in_ok-before.before c.in_ok-before.ensures.begins,
      c.in_ok-behind.ensures.begins,
    )
