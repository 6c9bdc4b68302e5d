use Rattle.std.proofs.Common.{◌≡◌, [], drop}
use Rattle.sno_value.specs.declared.value.Value.TheVariants.{Str}
use Rattle.sno_store.specs.Calls.{with_arguments}
use Rattle.sno_store.proofs.CallLaws.{numbers}
use Rattle.sno_store.proofs.calls.give.Given as goal

abbrev pub invariant-formals : goal.invariant-formals
invariant-formals l =
    record {
      at : l.place ≡ l.formal-index;
      given :
          with_arguments (Str []) (numbers (drop l.formal-index l.formals)) (drop l.formal-index l.arguments) l.values.items
          ≡ with_arguments (Str []) (numbers l.formals) l.initial.arguments l.initial.values.items;
    }
