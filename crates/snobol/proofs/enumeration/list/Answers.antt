use Rattle.snobol.proofs.enumeration.list.Goals as goal

pub list_from-requires-clause-start : goal.list_from-requires-clause-start
list_from-requires-clause-start g c = rw c.for_listing-keywords.ensures at (rw c.in-Ok.is at c.new.ensures)

pub returns-clause-listing : goal.returns-clause-listing
returns-clause-listing g c = rw c.in-Ok-of.ensures at c.list_from.ensures.listing
