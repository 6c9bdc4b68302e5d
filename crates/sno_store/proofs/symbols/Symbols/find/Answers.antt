use Rattle.std.proofs.Common.{sym, ap, ◌∙◌, option_map}
use Rattle.sno_store.proofs.SymbolLaws.{found_at}
use Rattle.sno_store.proofs.symbols.Symbols.find.Goals as goal

pub returns-in_err-place : goal.returns-in_err-place
returns-in_err-place c =
    ap (λ o. option_map (λ id. id.0) o) c.from_residual.ensures ∙ sym c.in_err-place.was ∙ c.place_of.ensures
    ∙ sym (found_at c.args.name.now c.args.self.now)

pub returns : goal.returns
returns c = sym c.in_ok-place.was ∙ c.place_of.ensures ∙ sym (found_at c.args.name.now c.args.self.now)
