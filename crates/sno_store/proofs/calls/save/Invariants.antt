use Rattle.std.proofs.Common.{◌≡◌, ◌+◌, ◌≤◌, ◌++◌, [], drop, vec_len, vec_capacity}
use Rattle.sno_value.specs.declared.value.Value.TheVariants.{Str}
use Rattle.sno_store.specs.Calls.{with_nulls}
use Rattle.sno_store.specs.inner.Seen.{moved}
use Rattle.sno_store.proofs.CallLaws.{numbers}
use Rattle.sno_store.proofs.calls.save.Given as goal

abbrev pub invariant-symbols : goal.invariant-symbols
invariant-symbols l =
    record {
      len : vec_len l.saved ≡ vec_len l.initial.saved + l.symbol-index;
      grown : vec_capacity l.initial.saved ≤ vec_capacity l.saved;
      saved : l.saved.items ++ moved (drop l.symbol-index l.symbols) l.values.items ≡ l.initial.saved.items ++ moved l.symbols l.initial.values.items;
      values : with_nulls (Str []) (numbers (drop l.symbol-index l.symbols)) l.values.items ≡ with_nulls (Str []) (numbers l.symbols) l.initial.values.items;
    }
