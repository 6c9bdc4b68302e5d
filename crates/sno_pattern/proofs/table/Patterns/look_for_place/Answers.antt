use Rattle.sno_pattern.specs.Table.{tree}
use Rattle.sno_pattern.proofs.LookLaws.{bal_place}
use Rattle.sno_pattern.proofs.table.Patterns.look_for_place.Goals as goal

pub returns-then-is_bal-clause-looks : goal.returns-then-is_bal-clause-looks
returns-then-is_bal-clause-looks c = c.balanced_place-place.ensures.looks c.args.self.now c.requires.looks

pub returns-then-is_bal-clause-place : goal.returns-then-is_bal-clause-place
returns-then-is_bal-clause-place c =
    bal_place (tree c.args.self.now c.args.id.0) c.args.subject.now c.args.from c.args.until c.balanced_place-place.result (c.is_bal.ensures c.if-is_bal.true)
    c.balanced_place-place.ensures.place
