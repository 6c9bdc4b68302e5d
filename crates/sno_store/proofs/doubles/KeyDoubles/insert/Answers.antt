use Rattle.std.proofs.Common.{◌≡◌, ◌∙◌, ℕ, ℤ, Some, false, refl, subst, sym}
use Rattle.std.specs.BTreeMap.{get}
use Rattle.std.specs.Ordering.{is_eq}
use Rattle.sno_store.specs.declared.doubles.KeyDoubles.{KeyDoubles}
use Rattle.sno_store.specs.inner.Doubles.{id_cmp, id_of}
use Rattle.sno_store.proofs.DoubleLaws.{by_id, stay_id}
use Rattle.sno_store.proofs.doubles.KeyDoubles.insert.Goals as goal

pub returns : goal.returns
returns c =
    let old = c.args.self.now in
    let new : KeyDoubles = record { texts = old.texts; others = c.insert-2.new.self } in
    let key = c.args.key.now in
    let own : get id_cmp new.others (id_of key) ≡ Some c.args.place =
    subst (λ id. get id_cmp new.others id ≡ Some c.args.place) c.id_of.ensures c.in_ok-insert-2.ensures.updates.1 in
    let others : (id : ℕ × ℤ × ℕ) → is_eq (id_cmp (id_of key) id) ≡ false → get id_cmp new.others id ≡ get id_cmp old.others id =
    subst (λ k. (id : ℕ × ℤ × ℕ) → is_eq (id_cmp k id) ≡ false → get id_cmp new.others id ≡ get id_cmp old.others id)
    c.id_of.ensures c.in_ok-insert-2.ensures.updates.2 in
    record {
      own = sym (by_id new key c.in_default.not-Str) ∙ own;
      others = stay_id old new key c.in_default.not-Str refl others;
    }
