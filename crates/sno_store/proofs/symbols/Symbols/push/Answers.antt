use Rattle.std.proofs.Common.{◌≡◌, ◌∙◌, ◌⊎◌, ◌++◌, ◌∷◌, ◌<◌, [], false, Some, ap, length, rules, subst, sym}
use Rattle.sno_store.specs.Store.{is_symbol}
use Rattle.sno_store.specs.inner.Doubles.{text_place}
use Rattle.sno_store.specs.inner.Hashes.{text_hash}
use Rattle.sno_store.specs.inner.Paths.{IsOn}
use Rattle.sno_store.proofs.SymbolLaws.{Stands, stands_still, stands_with}
use Rattle.sno_store.proofs.symbols.Symbols.push.Goals as goal

pub invariant_of-self-in_err-settle : goal.invariant_of-self-in_err-settle
invariant_of-self-in_err-settle c =
    let texts = c.self.inside.texts.items in
    let keys = c.self.inside.keys.items in
    let index = c.settle.new.index in
    let doubles = c.settle.new.doubles in
    let new : is_symbol c.args.name.now texts ≡ false = ap (is_symbol c.args.name.now) c.self.view_is ∙ c.requires.new in
    subst (λ ts. Stands ts keys index.0 index.1 doubles) (sym c.reserve.ensures.items)
    (subst (λ hs. Stands texts keys hs index.1 doubles) (sym c.settle.ensures.hashes)
    (stands_still texts c.args.name.now keys c.self.inside.index.0 c.self.inside.index.1 index.1 c.self.inside.doubles doubles new
    c.settle.ensures.keeps c.settle.ensures.others c.self.invariant))

pub invariant_of-self-in_err-push : goal.invariant_of-self-in_err-push
invariant_of-self-in_err-push c =
    let texts = c.self.inside.texts.items in
    let keys = c.self.inside.keys.items in
    let index = c.settle.new.index in
    let doubles = c.settle.new.doubles in
    let new : is_symbol c.args.name.now texts ≡ false = ap (is_symbol c.args.name.now) c.self.view_is ∙ c.requires.new in
    let hashes : c.push.new.self.0 ≡ c.self.inside.index.0 = search rules in
    subst (λ ts. Stands ts keys c.push.new.self.0 c.push.new.self.1 doubles) (sym c.reserve.ensures.items)
    (subst (λ hs. Stands texts keys hs c.push.new.self.1 doubles) (sym hashes)
    (subst (λ ss. Stands texts keys c.self.inside.index.0 ss doubles) (sym c.push.ensures.slots)
    (stands_still texts c.args.name.now keys c.self.inside.index.0 c.self.inside.index.1 index.1 c.self.inside.doubles doubles new
    c.settle.ensures.keeps c.settle.ensures.others c.self.invariant)))

pub invariant_of-self-2 : goal.invariant_of-self-2
invariant_of-self-2 c =
    let texts = c.self.inside.texts.items in
    let keys = c.self.inside.keys.items in
    let old = c.self.inside.index in
    let slots = c.settle.new.index.1 in
    let doubles = c.settle.new.doubles in
    let name = c.args.name.now in
    let items : c.push-2.new.self.items ≡ texts ++ name ∷ [] = search rules in
    let hashes : c.push.new.self.0 ≡ old.0 ++ text_hash name ∷ [] = search rules in
    let new : is_symbol name texts ≡ false = ap (is_symbol name) c.self.view_is ∙ c.requires.new in
    let room : length texts < 1_000_000 = subst (λ ts. length ts < 1_000_000) (sym c.self.view_is) c.requires.room in
    let still = stands_still texts name keys old.0 old.1 slots c.self.inside.doubles doubles new
    c.settle.ensures.keeps c.settle.ensures.others c.self.invariant in
    let place : c.len.result ≡ length texts = search rules in
    let last : IsOn slots (text_hash name) (length texts) ⊎ (text_place doubles name ≡ Some (length texts)) =
    subst (λ h. IsOn slots h (length texts) ⊎ (text_place doubles name ≡ Some (length texts))) c.text_hash-hash.ensures
    (subst (λ n. IsOn slots c.text_hash-hash.result n ⊎ (text_place doubles name ≡ Some n)) place c.in_ok-settle.ensures.leads) in
    subst (λ ts. Stands ts keys c.push.new.self.0 c.push.new.self.1 doubles) (sym items)
    (subst (λ hs. Stands (texts ++ name ∷ []) keys hs c.push.new.self.1 doubles) (sym hashes)
    (subst (λ ss. Stands (texts ++ name ∷ []) keys (old.0 ++ text_hash name ∷ []) ss doubles) (sym c.push.ensures.slots)
    (stands_with texts name keys old.0 slots doubles new room still last)))
