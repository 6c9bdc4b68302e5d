use Rattle.std.proofs.Common.{◌≡◌, ◌≤◌, drop, map, vec_capacity}
use Rattle.sno_store.specs.inner.Seen.{reach}
use Rattle.sno_store.specs.Types.{with_fields}
use Rattle.sno_store.proofs.functions.put_fields.Given as goal

abbrev pub invariant-fields : goal.invariant-fields
invariant-fields l =
    record {
      room : reach (drop l.field-index l.fields) ≤ vec_capacity l.functions;
      items : with_fields (map (λ id. id.0) (drop l.field-index l.fields)) l.functions.items
          ≡ with_fields (map (λ id. id.0) l.fields) l.initial.functions.items;
    }
