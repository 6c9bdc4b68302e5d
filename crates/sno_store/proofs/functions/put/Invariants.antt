use Rattle.std.proofs.Common.{◌≡◌, ◌+◌, ◌-◌, ◌≤◌, ◌++◌, replicate, vec_len, vec_capacity}
use Rattle.sno_store.specs.declared.functions.Function.TheVariants.{Undefined}
use Rattle.sno_store.proofs.functions.put.Given as goal

abbrev pub invariant-missing : goal.invariant-missing
invariant-missing l =
    record {
      room : vec_len l.functions + (l.missing - l._added) ≤ vec_capacity l.functions;
      grown : vec_capacity l.initial.functions ≤ vec_capacity l.functions;
      items : l.functions.items ≡ l.initial.functions.items ++ replicate l._added Undefined;
    }
