use Rattle.std.proofs.Common.{sym, arith}
use Rattle.sno_pattern.proofs.AgreementLaws.{no_end, end_behind, not_whole, text_tree}
use Rattle.sno_pattern.proofs.PlaceLaws.{not_there}
use Rattle.sno_pattern.proofs.table.Patterns.end_of_text.Goals as goal

pub agreement_at-count-requires-clause-text : goal.agreement_at-count-requires-clause-text
agreement_at-count-requires-clause-text c =
    text_tree c.self.inside.entries.items c.args.self.now c.args.id c.index.result.now _ _ c.self.view_is c.self.invariant c.requires.id
    (sym c.index.ensures) c.in-Text.is c.as_slice-text.ensures

pub returns-then-not-may_begin_with-clause-value : goal.returns-then-not-may_begin_with-clause-value
returns-then-not-may_begin_with-clause-value c =
    no_end _ c.as_slice-text.result.now c.args.subject.now c.args.at
    (text_tree c.self.inside.entries.items c.args.self.now c.args.id c.index.result.now _ _ c.self.view_is c.self.invariant c.requires.id
    (sym c.index.ensures) c.in-Text.is c.as_slice-text.ensures)
    (not_there c.as_slice-text.result.now c.args.subject.now c.args.at (c.may_begin_with.ensures.none c.if-not-may_begin_with.true))

pub returns-then-count-text-clause-value : goal.returns-then-count-text-clause-value
returns-then-count-text-clause-value c =
    end_behind _ c.as_slice-text.result.now c.args.subject.now c.args.at c.agreement_at-count.result
    (text_tree c.self.inside.entries.items c.args.self.now c.args.id c.index.result.now _ _ c.self.view_is c.self.invariant c.requires.id
    (sym c.index.ensures) c.in-Text.is c.as_slice-text.ensures)
    c.agreement_at-count.ensures.agree (omega (arith, c.if-count-text.true))

pub returns-else-count-text-clause-value : goal.returns-else-count-text-clause-value
returns-else-count-text-clause-value c =
    no_end _ c.as_slice-text.result.now c.args.subject.now c.args.at
    (text_tree c.self.inside.entries.items c.args.self.now c.args.id c.index.result.now _ _ c.self.view_is c.self.invariant c.requires.id
    (sym c.index.ensures) c.in-Text.is c.as_slice-text.ensures)
    (not_whole c.as_slice-text.result.now c.args.subject.now c.args.at c.agreement_at-count.result c.agreement_at-count.ensures.agree
    (omega (arith, c.if-count-text.false, c.agreement_at-count.ensures.agree.begin.left)))
