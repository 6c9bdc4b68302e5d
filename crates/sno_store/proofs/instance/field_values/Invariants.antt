use Rattle.std.proofs.Common.{◌≡◌, ◌+◌, ◌-◌, ◌≤◌, [], ◌++◌, drop, vec_len, vec_capacity}
use Rattle.sno_value.specs.declared.value.Value.TheVariants.{Str}
use Rattle.sno_store.specs.Types.{field_values}
use Rattle.sno_store.proofs.instance.field_values.Given as goal

abbrev pub invariant-fields : goal.invariant-fields
invariant-fields l =
    record {
      room : vec_len l.fields + (l.count - l.field) ≤ vec_capacity l.fields;
      items : l.fields.items ++ field_values (Str []) (l.count - l.field) (drop l.field l.values) ≡ field_values (Str []) l.count l.initial.values;
    }
