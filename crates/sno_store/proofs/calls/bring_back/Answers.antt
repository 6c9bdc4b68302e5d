use Rattle.std.proofs.Common.{◌≤◌, ◌∙◌, ap, length, arith}
use Rattle.std.proofs.lemmas.List.{length-set, length_push}
use Rattle.sno_store.specs.Calls.{restored}
use Rattle.sno_store.specs.inner.Seen.{numbered}
use Rattle.std.proofs.Common.{drop}
use Rattle.sno_store.proofs.CallLaws.{restored_more, kept_more}
use Rattle.sno_store.proofs.calls.bring_back.Goals as goal

pub saved-preserved : goal.saved-preserved
saved-preserved c =
    let did = c.bring_back_last.ensures in
    let s = did.0 in
    let after = c.bring_back_last.new.saved.items in
    let within : c.args.held ≤ length after = omega (arith, c.saved-test.true, c.len.ensures, ap length did.1, length_push after s) in
    record {
      held = kept_more c.saved.saved.items after s c.args.held did.1 within ∙ c.saved.invariant.held;
      long = ap length did.2 ∙ length-set c.saved.values.items s.0.0 s.1 ∙ c.saved.invariant.long;
      values = ap (restored (numbered (drop c.args.held after))) did.2
          ∙ restored_more c.saved.saved.items after s c.args.held c.saved.values.items did.1 within ∙ c.saved.invariant.values;
    }
