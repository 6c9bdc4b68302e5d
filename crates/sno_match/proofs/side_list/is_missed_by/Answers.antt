use Rattle.sno_pattern.specs.Table.{tree}
use Rattle.sno_match.proofs.SideLaws.{missed_elsewhere}
use Rattle.sno_match.proofs.side_list.is_missed_by.Goals as goal

pub returns-then-not-stands : goal.returns-then-not-stands
returns-then-not-stands c = λ told.
    missed_elsewhere (tree c.args.patterns.now c.args.side.now.id.0) c.args.subject.now c.args.at c.in-Some.byte c.stands.result
    (rw c.in-Some.is at c.requires.side.1) c.stands.ensures c.if-not-stands.true
