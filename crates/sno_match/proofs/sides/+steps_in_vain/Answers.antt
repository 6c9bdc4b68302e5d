use Rattle.sno_pattern.specs.Table.{tree}
use Rattle.sno_match.proofs.StartLaws.{primitive_vain, choice_vain, first_fails, cond_body_fails, imm_body_fails}
use Rattle.sno_match.proofs.sides.+steps_in_vain.Goals as goal

pub returns-else-not-fails_at-clause-fails : goal.returns-else-not-fails_at-clause-fails
returns-else-not-fails_at-clause-fails t c =
    primitive_vain (tree c.args.patterns.now c.args.id.0) c.args.subject.now c.args.at c.in-Primitive.ensures (c.fails_at.ensures c.if-not-fails_at.false)

pub returns-in_ok-behind-in-Alt-clause-fails : goal.returns-in_ok-behind-in-Alt-clause-fails
returns-in_ok-behind-in-Alt-clause-fails t c =
    let nodes = c.args.patterns.now in
    choice_vain (tree nodes c.args.id.0) (tree nodes c.in-Alt.first.0) (tree nodes c.in-Alt.second.0) c.args.subject.now
    c.in_ok-before-in-Alt.before c.in_ok-behind-in-Alt.behind c.args.at c.in-Alt.ensures.2 c.in_ok-before-in-Alt.ensures.fails
    c.in_ok-behind-in-Alt.ensures.fails

pub returns-in_ok-steps-in-Cat-clause-fails : goal.returns-in_ok-steps-in-Cat-clause-fails
returns-in_ok-steps-in-Cat-clause-fails t c =
    let nodes = c.args.patterns.now in
    let whole = first_fails (tree nodes c.args.id.0) (tree nodes c.in-Cat.part.0) (tree nodes c.in-Cat._second.0) c.in-Cat.ensures.2 in
    whole.vain c.args.subject.now c.in_ok-steps-in-Cat.steps c.args.at c.in_ok-steps-in-Cat.ensures.fails

pub returns-in_ok-steps-in-Cond-clause-fails : goal.returns-in_ok-steps-in-Cond-clause-fails
returns-in_ok-steps-in-Cond-clause-fails t c =
    let nodes = c.args.patterns.now in
    let whole = cond_body_fails (tree nodes c.args.id.0) (tree nodes c.in-Cond.part.0) c.in-Cond._target c.in-Cond.ensures.1 in
    whole.vain c.args.subject.now c.in_ok-steps-in-Cond.steps c.args.at c.in_ok-steps-in-Cond.ensures.fails

pub returns-in_ok-steps-in-Imm-clause-fails : goal.returns-in_ok-steps-in-Imm-clause-fails
returns-in_ok-steps-in-Imm-clause-fails t c =
    let nodes = c.args.patterns.now in
    let whole = imm_body_fails (tree nodes c.args.id.0) (tree nodes c.in-Imm.part.0) c.in-Imm._target c.in-Imm.ensures.1 in
    whole.vain c.args.subject.now c.in_ok-steps-in-Imm.steps c.args.at c.in_ok-steps-in-Imm.ensures.fails
