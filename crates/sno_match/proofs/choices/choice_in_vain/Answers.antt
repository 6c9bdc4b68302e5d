use Rattle.sno_pattern.specs.Table.{tree}
use Rattle.sno_match.proofs.StartLaws.{way_fails}
use Rattle.sno_match.proofs.choices.choice_in_vain.Goals as goal

pub returns-clause-fails : goal.returns-clause-fails
returns-clause-fails c =
    let nodes = c.args.patterns.now in
    let rest = c.sides_in_vain-rest in
    way_fails (tree nodes c.args.id.0) (tree nodes rest.result.id.0) c.args.subject.now rest.result.steps c.in_ok-last.last c.args.at
    rest.ensures.gives_way c.in_ok-last.ensures.fails
