use Rattle.std.proofs.Common.{◌≡◌, ◌++◌}
use Rattle.sno_listing.specs.Listing.{blanks}
use Rattle.sno_listing.proofs.listing.push_blanks.Given as goal

abbrev pub invariant-loop : goal.invariant-loop
invariant-loop l = l.listing.items ≡ l.fn.listing.items ++ blanks l.counter
