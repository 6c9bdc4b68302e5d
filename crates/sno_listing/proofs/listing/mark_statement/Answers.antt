use Rattle.std.proofs.Common.{◌≡◌, ◌-◌, slice_get, Some, None, sym}
use Rattle.sno_listing.proofs.Numbers.{numbers_more, when_some, not_none}
use Rattle.sno_listing.proofs.listing.mark_statement.Goals as goal

pub returns-in-Some : goal.returns-in-Some
returns-in-Some c =
    let found : slice_get c.args.program.now.statements (c.args.number - 1) ≡ Some c.in-Some.statement.now =
    sym (when_some _ _ _ c.requires.some c.in-Some.ensures.statement) in
    λ lines before. numbers_more lines c.args.number c.args.program.now.statements c.in-Some.statement.now _ _ c.requires.some found c.mark.ensures.count
    c.mark.ensures.each before

pub returns-in_default : goal.returns-in_default
returns-in_default c =
    let none : slice_get c.args.program.now.statements (c.args.number - 1) ≡ None = sym (when_some _ _ _ c.requires.some c.in_default.ensures.statement) in
    λ lines before. absurd (not_none c.args.program.now.statements c.args.number c.requires.some c.requires.within none)
