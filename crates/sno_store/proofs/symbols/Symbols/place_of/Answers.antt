use Rattle.std.proofs.Common.{◌≡◌, ◌∙◌, ℕ, Some, ap, rules, subst}
use Rattle.std.specs.List.{position}
use Rattle.std.specs.Str.{bytes_eq}
use Rattle.sno_store.specs.inner.Hashes.{text_hash}
use Rattle.sno_store.specs.inner.Doubles.{text_place}
use Rattle.sno_store.specs.inner.Indexed.{IsAt, IsNoDouble}
use Rattle.sno_store.specs.inner.Paths.{at, end_of, IsFoundIn}
use Rattle.sno_store.proofs.SymbolLaws.{name_here, no_name}
use Rattle.sno_store.proofs.IndexLaws.{elsewhere, missed}
use Rattle.sno_store.proofs.symbols.Symbols.place_of.Goals as goal
use Rattle.sno_store.proofs.symbols.Symbols.place_of.Goals.{in-Some+else-is_at, in_default}

pub returns-then-is_at : goal.returns-then-is_at
returns-then-is_at c =
    let texts = c.self.inside.texts.items in
    let at : IsAt texts c.in-Some.place c.args.name.now = search rules in
    name_here c.args.name.now texts c.in-Some.place c.self.invariant.4 at ∙ ap (position (bytes_eq c.args.name.now)) c.self.view_is

pub returns-in_err-place : goal.returns-in_err-place
returns-in_err-place c =
    let texts = c.self.inside.texts.items in
    let slots = c.self.inside.index.1 in
    let given = text_place c.self.inside.doubles in
    let told : IsFoundIn c.find.result (at slots (end_of slots (text_hash c.args.name.now)).slot) =
    subst (λ h. IsFoundIn c.find.result (at slots (end_of slots h).slot)) c.text_hash.ensures c.find.ensures in
    let single : IsNoDouble given texts c.args.name.now = search rules in
    let other : (i : ℕ) → c.find.result ≡ Some i → IsAt texts i c.args.name.now → ⊥ =
    elim c.match-find.branch [
      | in-Some+else-is_at w ↦ (let absent : IsAt texts w.in-Some.place c.args.name.now → ⊥ = search rules in
          elsewhere texts c.args.name.now c.find.result w.in-Some.place w.in-Some.is absent)
      | in_default w ↦ (λ i is at. w.in_default.not-Some i is)
    ]
    in
    c.from_residual.ensures
    ∙ no_name c.args.name.now texts
    (missed given text_hash slots texts c.args.name.now c.find.result c.self.invariant.0 c.self.invariant.5 told other single)
    ∙ ap (position (bytes_eq c.args.name.now)) c.self.view_is

pub returns : goal.returns
returns c =
    let texts = c.self.inside.texts.items in
    let at : IsAt texts c.in_ok-place.place c.args.name.now = search rules in
    name_here c.args.name.now texts c.in_ok-place.place c.self.invariant.4 at ∙ ap (position (bytes_eq c.args.name.now)) c.self.view_is
