use Rattle.std.proofs.Common.{◌≡◌, sym, ◌∙◌, arith}
use Rattle.sno_pattern.specs.inner.Kinds.{node_of}
use Rattle.sno_pattern.specs.Shape.{end_of}
use Rattle.sno_pattern.specs.Table.{tree}
use Rattle.sno_pattern.proofs.LookLaws.{bal_first, of_entry, run_of_node}
use Rattle.sno_pattern.proofs.ShapeLaws.{end_of-range, IfSome-to}
use Rattle.sno_pattern.proofs.table.Patterns.look_by.Goals as goal

pub last_with_end-until-requires : goal.last_with_end-until-requires
last_with_end-until-requires c =
    c.end_from_near-end.ensures.value ∙
    sym (of_entry c.self.inside.entries.items c.args.self.now c.args.id.0 c.index.result.now c.args.subject.now c.args.at c.self.view_is c.self.invariant
    c.requires.id (sym c.index.ensures))

pub returns-then-at-until-clause-looks : goal.returns-then-at-until-clause-looks
returns-then-at-until-clause-looks c =
    c.remember.ensures c.args.self.now c.args.subject.now (c.count.ensures.looks c.args.self.now c.requires.looks)
    (run_of_node c.args.self.now (node_of c.index.result.now.kind) c.args.subject.now _ c.requires.id
    (λ d. of_entry c.self.inside.entries.items c.args.self.now c.args.id.0 c.index.result.now c.args.subject.now d c.self.view_is c.self.invariant
    c.requires.id (sym c.index.ensures))
    c.last_with_end-until.ensures)

pub returns-in-Some-clause-ahead : goal.returns-in-Some-clause-ahead
returns-in-Some-clause-ahead c =
    let value : c.in-Some.end ≡ end_of (tree c.args.self.now c.args.id.0) c.args.subject.now c.args.at 0 =
    c.in-Some.ensures c.args.subject.now c.requires.looks in
    IfSome-to _ _ c.in-Some.end (λ e within. omega (arith, within.0))
    (end_of-range (tree c.args.self.now c.args.id.0) c.args.subject.now c.args.at 0 c.in-Some.end c.requires.at value)

pub returns-in-Some-clause-inside : goal.returns-in-Some-clause-inside
returns-in-Some-clause-inside c =
    let value : c.in-Some.end ≡ end_of (tree c.args.self.now c.args.id.0) c.args.subject.now c.args.at 0 =
    c.in-Some.ensures c.args.subject.now c.requires.looks in
    IfSome-to _ _ c.in-Some.end (λ e within. within.1)
    (end_of-range (tree c.args.self.now c.args.id.0) c.args.subject.now c.args.at 0 c.in-Some.end c.requires.at value)

pub returns-then-is_bal-clause-looks : goal.returns-then-is_bal-clause-looks
returns-then-is_bal-clause-looks c = c.balanced_end-end.ensures.looks c.args.self.now c.requires.looks

pub returns-then-is_bal-clause-ahead : goal.returns-then-is_bal-clause-ahead
returns-then-is_bal-clause-ahead c =
    let tree_is = tree c.args.self.now c.args.id.0 in
    let value = bal_first tree_is c.args.subject.now c.args.at c.balanced_end-end.result (c.is_bal.ensures c.if-is_bal.true) c.balanced_end-end.ensures.value in
    IfSome-to _ _ c.balanced_end-end.result (λ e within. omega (arith, within.0))
    (end_of-range tree_is c.args.subject.now c.args.at 0 c.balanced_end-end.result c.requires.at value)

pub returns-then-is_bal-clause-inside : goal.returns-then-is_bal-clause-inside
returns-then-is_bal-clause-inside c =
    let tree_is = tree c.args.self.now c.args.id.0 in
    let value = bal_first tree_is c.args.subject.now c.args.at c.balanced_end-end.result (c.is_bal.ensures c.if-is_bal.true) c.balanced_end-end.ensures.value in
    IfSome-to _ _ c.balanced_end-end.result (λ e within. within.1)
    (end_of-range tree_is c.args.subject.now c.args.at 0 c.balanced_end-end.result c.requires.at value)
