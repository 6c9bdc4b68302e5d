use Rattle.std.proofs.Common.{◌+◌, sym, ◌∙◌}
use Rattle.sno_pattern.specs.Table.{tree}
use Rattle.sno_pattern.proofs.LookLaws.{bal_next, stop_next}
use Rattle.sno_pattern.proofs.NextEndLaws.{end_of-Contains, ends_of-within, next_end-at}
use Rattle.sno_pattern.proofs.ShapeLaws.{end_of-range, IfSome-to}
use Rattle.sno_pattern.proofs.table.Patterns.look_behind.Goals as goal

pub returns-then-stops_often-clause-by_number : goal.returns-then-stops_often-clause-by_number
returns-then-stops_often-clause-by_number c = λ i at.
    let is = c.stops_often.ensures c.if-stops_often.true in
    stop_next (tree c.args.self.now c.args.id.0) is.0 c.args.subject.now c.args.at i c.args.last c.look_by-end.result is.1 c.look_by-end.ensures.value at

pub returns-then-stops_often-clause-value : goal.returns-then-stops_often-clause-value
returns-then-stops_often-clause-value c =
    let number = end_of-Contains (tree c.args.self.now c.args.id.0) c.args.subject.now c.args.at c.args.last c.requires.last in
    returns-then-stops_often-clause-by_number c number.0 number.1
    ∙ sym (next_end-at (tree c.args.self.now c.args.id.0) c.args.subject.now c.args.at number.0 c.args.last c.requires.at number.1)

pub balanced_end-end-requires-clause-at : goal.balanced_end-end-requires-clause-at
balanced_end-end-requires-clause-at c =
    let within = ends_of-within (tree c.args.self.now c.args.id.0) c.args.subject.now c.args.at c.args.last c.requires.at c.requires.last in
    within.1

pub returns-then-is_bal-clause-looks : goal.returns-then-is_bal-clause-looks
returns-then-is_bal-clause-looks c = c.balanced_end-end.ensures.looks c.args.self.now c.requires.looks

pub returns-then-is_bal-clause-by_number : goal.returns-then-is_bal-clause-by_number
returns-then-is_bal-clause-by_number c = λ i at.
    bal_next (tree c.args.self.now c.args.id.0) c.args.subject.now c.args.at i c.args.last c.balanced_end-end.result c.requires.at
    (c.is_bal.ensures c.if-is_bal.true) c.balanced_end-end.ensures.value at

pub returns-then-is_bal-clause-value : goal.returns-then-is_bal-clause-value
returns-then-is_bal-clause-value c =
    let number = end_of-Contains (tree c.args.self.now c.args.id.0) c.args.subject.now c.args.at c.args.last c.requires.last in
    returns-then-is_bal-clause-by_number c number.0 number.1
    ∙ sym (next_end-at (tree c.args.self.now c.args.id.0) c.args.subject.now c.args.at number.0 c.args.last c.requires.at number.1)

pub returns-then-is_bal-clause-inside : goal.returns-then-is_bal-clause-inside
returns-then-is_bal-clause-inside c =
    let number = end_of-Contains (tree c.args.self.now c.args.id.0) c.args.subject.now c.args.at c.args.last c.requires.last in
    IfSome-to _ _ c.balanced_end-end.result (λ e within. within.1)
    (end_of-range (tree c.args.self.now c.args.id.0) c.args.subject.now c.args.at (number.0 + 1) c.balanced_end-end.result c.requires.at
    (returns-then-is_bal-clause-by_number c number.0 number.1))
