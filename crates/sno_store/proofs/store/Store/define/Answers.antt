use Rattle.std.proofs.Common.{◌≡◌, ◌∙◌, refl, sym, ap, length, rules}
use Rattle.sno_store.specs.Store.{Store}
use Rattle.sno_store.specs.inner.Seen.{prototype_seen}
use Rattle.sno_store.proofs.DefineLaws.{define_refused, sound_few, taken_back}
use Rattle.sno_store.proofs.store.Store.define.Goals as goal

pub is_full_with-requires : goal.is_full_with-requires
is_full_with-requires c = record { few = sound_few (prototype_seen c.in-Some.prototype) (search rules) }

pub returns-in-Err : goal.returns-in-Err
returns-in-Err c =
    let old = c.args.self.now in
    let new = c.define_parts.new.self in
    let same : length old.values ≡ length old.symbols =
    sym (ap (λ (x : Store). length x.values) c.self.view_is) ∙ c.self.invariant.0 ∙ ap (λ (x : Store). length x.symbols) c.self.view_is in
    let back = taken_back old new c.len-count.result _ _ c.in-Err.ensures.1 (search rules) same refl refl in (
      define_refused c.args.prototype.now c.args.entry.now (prototype_seen c.in-Some.prototype) old.symbols old.functions c.in-Err.refusal (search rules)
          (search rules) (search rules) (search rules),
      c.take_back.ensures ∙ back,
    )
