use Rattle.std.proofs.Common.{inr}
use Rattle.sno_text.proofs.Phrases.{finds_no_entry, finds_entry}
use Rattle.sno_text.proofs.phrase.read_entry.Goals as goal

pub returns-in-Some : goal.returns-in-Some
returns-in-Some c =
    finds_entry _ _ _ c.in-Some.span c.if-at-from.false c.run_end-at.ensures.run c.in-Some.ensures.0 c.in-Some.ensures.1 c.in-Some.ensures.2 c.in-Some.ensures.3

pub returns-in-None : goal.returns-in-None
returns-in-None c = finds_no_entry _ _ _ c.run_end-at.ensures.run (inr c.in-None.ensures) c.requires
