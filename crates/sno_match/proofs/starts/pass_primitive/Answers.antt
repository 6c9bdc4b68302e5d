use Rattle.std.proofs.Common.{◌-◌, arith}
use Rattle.sno_pattern.specs.Table.{tree}
use Rattle.sno_match.proofs.StartLaws.{heads_pass}
use Rattle.sno_match.proofs.starts.pass_primitive.Goals as goal

pub returns-clause-passes : goal.returns-clause-passes
returns-clause-passes c =
    let nodes = c.args.patterns.now in
    let next = c.look_for_place-next in
    heads_pass (tree nodes c.args.pattern.0) (tree nodes c.args.head.id.0) c.args.subject.now c.args.start c.args.head.above
    c.requires.primitive
    c.requires.fails (next.result - c.args.start - 1) _ _ (omega arith) (λ place low high. next.ensures.place.none place low (omega (arith, low, high)))
    c.passed_before.ensures.start c.passed_before.ensures.steps
