use Rattle.std.proofs.Common.{◌+◌, length}
use Rattle.sno_pattern.specs.Table.{tree}
use Rattle.sno_match.proofs.ArbPassLaws.{primitive_jumps, choice_jumps}
use Rattle.sno_match.proofs.arb.jump_of.Goals as goal

pub returns-else-is_arb-clause-jumps : goal.returns-else-is_arb-clause-jumps
returns-else-is_arb-clause-jumps c =
    let nodes = c.args.patterns.now in
    let s = c.args.subject.now in
    let behind = c.in_ok-behind.behind in
    let head = c.in_ok-head.head in (
      c.in_ok-at.field-0,
      behind,
      1 + head.above,
      c.in_ok-at.was,
      c.in_ok-behind.ensures.behind,
      primitive_jumps (tree nodes behind.id.0) (tree nodes head.id.0) s head.above behind.closes c.in_ok-at.field-0 c.args.left (length s)
          c.jump_to_primitive-jump.result c.in_ok-head.ensures.fails c.in-Primitive.ensures c.jump_to_primitive-jump.ensures.jumps,
    )

pub returns-in_ok-begins-in-Alt-clause-jumps : goal.returns-in_ok-begins-in-Alt-clause-jumps
returns-in_ok-begins-in-Alt-clause-jumps c =
    let nodes = c.args.patterns.now in
    let s = c.args.subject.now in
    let behind = c.in_ok-behind.behind in
    let head = c.in_ok-head.head in
    let begins = c.in_ok-begins-in-Alt.begins in (
      c.in_ok-at.field-0,
      behind,
      begins.steps + head.above,
      c.in_ok-at.was,
      c.in_ok-behind.ensures.behind,
      choice_jumps (tree nodes behind.id.0) (tree nodes head.id.0) s head.above behind.closes c.in_ok-at.field-0 c.args.left (length s)
          c.jump_to_choice-jump.result c.in_ok-head.ensures.fails begins.set begins.steps c.in_ok-begins-in-Alt.ensures c.jump_to_choice-jump.ensures.jumps,
    )
