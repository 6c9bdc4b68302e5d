use Rattle.std.proofs.Common.{◌-◌, arith}
use Rattle.sno_pattern.specs.Table.{tree}
use Rattle.sno_match.proofs.StartLaws.{heads_pass}
use Rattle.sno_match.proofs.starts.pass_near.Goals as goal

pub returns-in_ok-next-in-Primitive-clause-passes : goal.returns-in_ok-next-in-Primitive-clause-passes
returns-in_ok-next-in-Primitive-clause-passes c =
    let nodes = c.args.patterns.now in
    let place = c.in_ok-next-in-Primitive in
    heads_pass (tree nodes c.args.pattern.0) (tree nodes c.in_ok-head.head.id.0) c.args.subject.now c.args.start c.in_ok-head.head.above
    c.in-Primitive.ensures c.in_ok-head.ensures.fails (place.next - c.args.start - 1) _ _ (omega (arith, place.ensures.behind, place.ensures.before, c.room_for.ensures.inside))
    (λ at low high. place.ensures.none at low (omega (arith, low, high))) c.passed_before.ensures.start c.passed_before.ensures.steps
