use Rattle.std.proofs.Common.{◌≡◌, ◌∙◌, ◌≤◌, ℕ, Some, ap, arith, length, rules, subst}
use Rattle.std.proofs.lemmas.List.{length-map}
use Rattle.sno_store.specs.Stored.{stored_notions}
use Rattle.sno_store.specs.Tables.{entry_place}
use Rattle.sno_store.specs.inner.Hashes.{key_hash}
use Rattle.sno_store.specs.inner.Doubles.{key_place}
use Rattle.sno_store.specs.inner.Indexed.{IsAt, IsNoDouble, keys_of}
use Rattle.sno_store.specs.inner.Paths.{at, end_of, IsFoundIn}
use Rattle.sno_store.proofs.EntryLaws.{entry_here, no_entry}
use Rattle.sno_store.proofs.IndexLaws.{elsewhere, missed}
use Rattle.sno_store.proofs.entries.Entries.find_by.Goals as goal
use Rattle.sno_store.proofs.entries.Entries.find_by.Goals.{in-Some+else-is_at, in_default}

pub returns-then-is_at : goal.returns-then-is_at
returns-then-is_at c =
    let entries = c.self.inside.entries.items in
    let at : IsAt (keys_of entries) c.in-Some.place c.args.key.now = search rules in
    entry_here c.args.key.now entries c.in-Some.place c.requires.key c.self.invariant.2 at
    ∙ ap (entry_place stored_notions c.args.key.now) c.self.view_is

pub returns-in_err-place : goal.returns-in_err-place
returns-in_err-place c =
    let entries = c.self.inside.entries.items in
    let slots = c.self.inside.index.1 in
    let given = key_place c.self.inside.doubles in
    let told : IsFoundIn c.find.result (at slots (end_of slots (key_hash c.args.key.now)).slot) =
    subst (λ h. IsFoundIn c.find.result (at slots (end_of slots h).slot)) c.requires.hash c.find.ensures in
    let single : IsNoDouble given (keys_of entries) c.args.key.now = search rules in
    let few : length (keys_of entries) ≤ 1_000_000 = omega (arith, length-map entries (λ entry. entry.0), c.self.invariant.0) in
    let other : (i : ℕ) → c.find.result ≡ Some i → IsAt (keys_of entries) i c.args.key.now → ⊥ =
    elim c.match-find.branch [
      | in-Some+else-is_at w ↦ (let absent : IsAt (keys_of entries) w.in-Some.place c.args.key.now → ⊥ = search rules in
          elsewhere (keys_of entries) c.args.key.now c.find.result w.in-Some.place w.in-Some.is absent)
      | in_default w ↦ (λ i is at. w.in_default.not-Some i is)
    ]
    in
    c.from_residual.ensures
    ∙ no_entry c.args.key.now entries c.requires.key
    (missed given key_hash slots (keys_of entries) c.args.key.now c.find.result few c.self.invariant.3 told other single)
    ∙ ap (entry_place stored_notions c.args.key.now) c.self.view_is

pub returns : goal.returns
returns c =
    let entries = c.self.inside.entries.items in
    let at : IsAt (keys_of entries) c.in_ok-place.place c.args.key.now = search rules in
    entry_here c.args.key.now entries c.in_ok-place.place c.requires.key c.self.invariant.2 at
    ∙ ap (entry_place stored_notions c.args.key.now) c.self.view_is
