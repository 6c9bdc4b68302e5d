use Rattle.std.proofs.Common.{refl}
use Rattle.sno_match.proofs.DirectLaws.{arb_alone, arb_begins, arb_first}
use Rattle.sno_match.proofs.direct.pass_arb.Goals as goal

pub returns-in_default-clause-comes : goal.returns-in_default-clause-comes
returns-in_default-clause-comes c = λ goals fails. arb_begins c.args.subject.now goals c.args.left c.args.way.now c.requires.inside

pub returns-then-passed-subject-clause-comes : goal.returns-then-passed-subject-clause-comes
returns-then-passed-subject-clause-comes c = λ goals fails.
    let passed = c.in-Some in
    let old = c.args.way.now in
    arb_alone c.args.subject.now goals c.args.left passed.passed.steps passed.passed.start old (record old { end = passed.passed.start })
    passed.ensures.inside passed.ensures.enough (passed.ensures.vain goals fails) refl refl c.if-passed-subject.true

pub returns-else-passed-subject-clause-comes : goal.returns-else-passed-subject-clause-comes
returns-else-passed-subject-clause-comes c = λ goals fails.
    let passed = c.in-Some in
    let old = c.args.way.now in
    arb_first c.args.subject.now goals c.args.left passed.passed.steps passed.passed.start old (record old { end = passed.passed.start })
    passed.ensures.inside passed.ensures.enough (passed.ensures.vain goals fails) refl refl
