use Rattle.sno_pattern.specs.Table.{tree}
use Rattle.sno_match.proofs.StartLaws.{first_fails, cond_body_fails, imm_body_fails}
use Rattle.sno_match.proofs.heads.first_part.Goals as goal

pub returns-in-Cat-clause-fails : goal.returns-in-Cat-clause-fails
returns-in-Cat-clause-fails c =
    let nodes = c.args.patterns.now in
    first_fails (tree nodes c.args.id.0) (tree nodes c.in-Cat.first.0) (tree nodes c.in-Cat._second.0) c.in-Cat.ensures.2

pub returns-in-Cond-clause-fails : goal.returns-in-Cond-clause-fails
returns-in-Cond-clause-fails c =
    let nodes = c.args.patterns.now in
    cond_body_fails (tree nodes c.args.id.0) (tree nodes c.in-Cond.body.0) c.in-Cond._target c.in-Cond.ensures.1

pub returns-in-Imm-clause-fails : goal.returns-in-Imm-clause-fails
returns-in-Imm-clause-fails c =
    let nodes = c.args.patterns.now in
    imm_body_fails (tree nodes c.args.id.0) (tree nodes c.in-Imm.body.0) c.in-Imm._target c.in-Imm.ensures.1
