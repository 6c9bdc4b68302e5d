use Rattle.std.proofs.Common.{◌≡◌, ◌∙◌, ◌⊎◌, ◌++◌, ◌∷◌, ◌<◌, [], None, Some, ap, length, rules, subst, sym}
use Rattle.sno_store.specs.Stored.{stored_notions}
use Rattle.sno_store.specs.Tables.{entry_place}
use Rattle.sno_store.specs.inner.Doubles.{key_place}
use Rattle.sno_store.specs.inner.Hashes.{key_hash}
use Rattle.sno_store.specs.inner.Paths.{IsOn}
use Rattle.sno_store.proofs.EntryLaws.{Stands, stands_still, stands_with}
use Rattle.sno_store.proofs.entries.Entries.push.Goals as goal

pub invariant_of-self : goal.invariant_of-self
invariant_of-self c =
    subst (λ es. Stands es c.self.inside.index.0 c.self.inside.index.1 c.self.inside.doubles) (sym c.reserve.ensures.items) c.self.invariant

pub invariant_of-self-in_err-settle : goal.invariant_of-self-in_err-settle
invariant_of-self-in_err-settle c =
    let entries = c.self.inside.entries.items in
    let index = c.settle.new.index in
    let doubles = c.settle.new.doubles in
    let none : entry_place stored_notions c.args.key entries ≡ None =
    ap (entry_place stored_notions c.args.key) c.self.view_is ∙ c.requires.new in
    subst (λ es. Stands es index.0 index.1 doubles) (sym c.reserve.ensures.items)
    (subst (λ hs. Stands entries hs index.1 doubles) (sym c.settle.ensures.hashes)
    (stands_still entries c.self.inside.index.0 c.self.inside.index.1 index.1 c.self.inside.doubles doubles c.args.key c.requires.key none
    c.settle.ensures.keeps c.settle.ensures.others c.self.invariant))

pub invariant_of-self-in_err-push : goal.invariant_of-self-in_err-push
invariant_of-self-in_err-push c =
    let entries = c.self.inside.entries.items in
    let index = c.settle.new.index in
    let doubles = c.settle.new.doubles in
    let none : entry_place stored_notions c.args.key entries ≡ None =
    ap (entry_place stored_notions c.args.key) c.self.view_is ∙ c.requires.new in
    let hashes : c.push.new.self.0 ≡ c.self.inside.index.0 = search rules in
    subst (λ es. Stands es c.push.new.self.0 c.push.new.self.1 doubles) (sym c.reserve.ensures.items)
    (subst (λ hs. Stands entries hs c.push.new.self.1 doubles) (sym hashes)
    (subst (λ ss. Stands entries c.self.inside.index.0 ss doubles) (sym c.push.ensures.slots)
    (stands_still entries c.self.inside.index.0 c.self.inside.index.1 index.1 c.self.inside.doubles doubles c.args.key c.requires.key none
    c.settle.ensures.keeps c.settle.ensures.others c.self.invariant)))

pub invariant_of-self-2 : goal.invariant_of-self-2
invariant_of-self-2 c =
    let entries = c.self.inside.entries.items in
    let old = c.self.inside.index in
    let slots = c.settle.new.index.1 in
    let doubles = c.settle.new.doubles in
    let key = c.args.key in
    let items : c.push-2.new.self.items ≡ entries ++ (key, c.args.value) ∷ [] = search rules in
    let hashes : c.push.new.self.0 ≡ old.0 ++ key_hash key ∷ [] = search rules in
    let none : entry_place stored_notions key entries ≡ None = ap (entry_place stored_notions key) c.self.view_is ∙ c.requires.new in
    let room : length entries < 1_000_000 = subst (λ es. length es < 1_000_000) (sym c.self.view_is) c.requires.room in
    let still = stands_still entries old.0 old.1 slots c.self.inside.doubles doubles key c.requires.key none
    c.settle.ensures.keeps c.settle.ensures.others c.self.invariant in
    let place : c.len-place.result ≡ length entries = search rules in
    let last : IsOn slots (key_hash key) (length entries) ⊎ (key_place doubles key ≡ Some (length entries)) =
    subst (λ h. IsOn slots h (length entries) ⊎ (key_place doubles key ≡ Some (length entries))) c.requires.hash
    (subst (λ n. IsOn slots c.args.hash n ⊎ (key_place doubles key ≡ Some n)) place c.in_ok-settle.ensures.leads) in
    subst (λ es. Stands es c.push.new.self.0 c.push.new.self.1 doubles) (sym items)
    (subst (λ hs. Stands (entries ++ (key, c.args.value) ∷ []) hs c.push.new.self.1 doubles) (sym hashes)
    (subst (λ ss. Stands (entries ++ (key, c.args.value) ∷ []) (old.0 ++ key_hash key ∷ []) ss doubles) (sym c.push.ensures.slots)
    (stands_with entries old.0 slots doubles key c.args.value c.requires.key none room still last)))
