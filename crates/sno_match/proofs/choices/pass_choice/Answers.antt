use Rattle.sno_pattern.specs.Table.{tree}
use Rattle.sno_match.proofs.StartLaws.{begins_outside, outside_under}
use Rattle.sno_match.proofs.choices.pass_choice.Goals as goal

pub returns-then-passed-subject-clause-passes : goal.returns-then-passed-subject-clause-passes
returns-then-passed-subject-clause-passes c =
    let p = tree c.args.patterns.now c.args.pattern.0 in
    let head = tree c.args.patterns.now c.args.head.id.0 in
    let begins = c.in-Some.begins in
    c.pass_others-passed.ensures.passes p (outside_under p head begins.set begins.steps c.args.head.above c.requires.fails
    (begins_outside begins.set head begins.steps c.in-Some.ensures))

pub returns-in_default-choice_in_vain-clause-passes : goal.returns-in_default-choice_in_vain-clause-passes
returns-in_default-choice_in_vain-clause-passes c =
    let p = tree c.args.patterns.now c.args.pattern.0 in
    let head = tree c.args.patterns.now c.args.head.id.0 in
    let begins = c.in-Some.begins in
    c.pass_others-passed.ensures.passes p (outside_under p head begins.set begins.steps c.args.head.above c.requires.fails
    (begins_outside begins.set head begins.steps c.in-Some.ensures))

pub pass_sides-passed-requires-clause-passes : goal.pass_sides-passed-requires-clause-passes
pass_sides-passed-requires-clause-passes c =
    let p = tree c.args.patterns.now c.args.pattern.0 in
    let head = tree c.args.patterns.now c.args.head.id.0 in
    let begins = c.in-Some.begins in
    c.pass_others-passed.ensures.passes p (outside_under p head begins.set begins.steps c.args.head.above c.requires.fails
    (begins_outside begins.set head begins.steps c.in-Some.ensures))
