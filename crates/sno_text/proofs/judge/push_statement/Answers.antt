use Rattle.std.proofs.Common.{◌≡◌, ◌+◌, length, rules}
use Rattle.sno_text.specs.Lines.{part}
use Rattle.sno_text.proofs.Indexes.{index_unlabelled, index_labelled}
use Rattle.sno_text.proofs.judge.push_statement.Goals as goal

pub returns-in_ok-insert-clause-index : goal.returns-in_ok-insert-clause-index
returns-in_ok-insert-clause-index c = λ x.
    let name : c.in_ok-name.name.items ≡ part c.args.text.now c.in-Some.label = search rules in
    let number : c.len.result + 1 ≡ length c.args.statements.now.items + 1 = search rules in
    rw (c.in_ok-push.ensures.items, c.in_ok-insert.ensures.entries)
    (index_labelled _ _ _ _ c.in-Some.label _ _ c.in-Some.is name number (c.requires.fresh _ c.in-Some.is) x)

pub returns-in_default-clause-index : goal.returns-in_default-clause-index
returns-in_default-clause-index c = λ x. rw c.in_ok-push.ensures.items (index_unlabelled _ _ _ _ c.in_default.is x)
