use Rattle.std.proofs.Common.{◌<◌, None, refl, sym, subst, arith}
use Rattle.std.proofs.lemmas.List.{get_or-replicate}
use Rattle.sno_pattern.specs.declared.looks.Run.{Run}
use Rattle.sno_pattern.proofs.looks.no_runs.Goals as goal

pub returns : goal.returns
returns c = record {
  places = refl;
  earlier = record {
    each = λ place other h.
        let none : Run = record { id = record { 0 = 0 }; from = 1; until = 0; end = None; turn = 0; key = 0 } in
        subst (λ (run : Run). run.turn < 1) (sym (get_or-replicate 32 place none other h)) (omega arith);
  };
}
