use Rattle.std.proofs.Common.{◌-◌, false, arith}
use Rattle.sno_match.proofs.StartLaws.{choices_pass, passes_none}
use Rattle.sno_match.proofs.starts.pass_others.Goals as goal

pub returns-then-start-subject-clause-passes : goal.returns-then-start-subject-clause-passes
returns-then-start-subject-clause-passes c = λ p fails. passes_none false p c.args.subject.now c.args.start

pub returns-clause-passes : goal.returns-clause-passes
returns-clause-passes c =
    let next = c.place_in_set-next in
    λ p fails. choices_pass p c.args.set.now c.args.subject.now c.args.start c.args.steps fails
    (next.result - c.args.start - 1) _ _ (omega arith) (λ place low high. next.ensures.none place low (omega (arith, low, high)))
    c.passed_before.ensures.start c.passed_before.ensures.steps
