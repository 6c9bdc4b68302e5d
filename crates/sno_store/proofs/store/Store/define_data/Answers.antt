use Rattle.std.proofs.Common.{◌≡◌, ◌∙◌, eqb, false, refl, sym, ap, arith, length, rules}
use Rattle.std.proofs.lemmas.Bool.{ne_eqb}
use Rattle.sno_store.specs.Store.{Store}
use Rattle.sno_store.specs.inner.Seen.{prototype_seen}
use Rattle.sno_store.proofs.DefineLaws.{taken_back}
use Rattle.sno_store.proofs.TypeLaws.{made_few, type_refused}
use Rattle.sno_store.proofs.store.Store.define_data.Goals as goal

pub is_full_with-requires : goal.is_full_with-requires
is_full_with-requires c = record { few = made_few (prototype_seen c.in-Some.parts) (search rules) }

pub returns-in-Err : goal.returns-in-Err
returns-in-Err c =
    let old = c.args.self.now in
    let new = c.make_type.new.self in
    let same : length old.values ≡ length old.symbols =
    sym (ap (λ (x : Store). length x.values) c.self.view_is) ∙ c.self.invariant.0 ∙ ap (λ (x : Store). length x.symbols) c.self.view_is in
    let room : eqb (length old.types) 100_000 ≡ false =
    ne_eqb (length old.types) 100_000 (λ full. omega (arith, full, ap (λ (x : Store). length x.types) c.self.view_is)) in
    let back = taken_back old new c.len-known.result _ _ c.in-Err.ensures.1 (search rules) same refl refl in (
      type_refused c.args.prototype.now (prototype_seen c.in-Some.parts) old.symbols old.types old.functions (search rules) (search rules) room c.in-Err.refusal
          (search rules) c.in-Err.ensures.0,
      c.take_back.ensures ∙ back,
    )
