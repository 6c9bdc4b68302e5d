use Rattle.std.proofs.Common.{◌≡◌, ◌-◌, ◌+◌, ◌∙◌, suc, [], ◌∷◌, ◌++◌, append_assoc, drop, sym, ap, arith, rules}
use Rattle.sno_value.specs.declared.value.Value.TheVariants.{Str}
use Rattle.sno_store.specs.Types.{field_values}
use Rattle.sno_store.proofs.ObjectLaws.{field_next}
use Rattle.sno_store.proofs.instance.field_values.Goals as goal

pub fields-preserved : goal.fields-preserved
fields-preserved c =
    let n = c.args.count - c.fields.field in
    let m = c.args.count - (c.fields.field + 1) in
    let one : n ≡ suc m = omega arith in
    let value = c.take_at-value.result in
    let rest = field_values (Str []) m (drop (c.fields.field + 1) c.fields.values) in
    let step : field_values (Str []) n (drop c.fields.field c.fields.values) ≡ value ∷ rest =
    field_next (Str []) n m c.fields.values c.fields.field one ∙ ap (λ v. v ∷ rest) (sym c.take_at-value.ensures.value) in
    let pushed : c.push.new.self.items ≡ c.fields.fields.items ++ value ∷ [] = search rules in
    record {
      room = search (rules, arith);
      items = ap (λ vs. c.push.new.self.items ++ field_values (Str []) m vs) c.take_at-value.ensures.rest
          ∙ ap (λ xs. xs ++ rest) pushed ∙ append_assoc c.fields.fields.items (value ∷ []) rest
          ∙ ap (λ xs. c.fields.fields.items ++ xs) (sym step) ∙ c.fields.invariant.items;
    }
