use Rattle.std.proofs.Common.{sym}
use Rattle.sno_pattern.proofs.AgreementLaws.{no_place_of, text_tree}
use Rattle.sno_pattern.proofs.table.Patterns.place_that_begins.Goals as goal

pub returns-clause-none : goal.returns-clause-none
returns-clause-none c = λ at low high.
    no_place_of _ c.as_slice.result.now c.args.subject.now at
    (text_tree c.self.inside.entries.items c.args.self.now c.args.id c.index.result.now _ _ c.self.view_is c.self.invariant c.requires.id
    (sym c.index.ensures) c.in-Text.is c.as_slice.ensures)
    (c.place_of_beginning-place.ensures.none at low high)
