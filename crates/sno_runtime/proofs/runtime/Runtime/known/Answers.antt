use Rattle.std.proofs.Common.{◌≡◌, ◌<◌, length, rules, sym, ◌∙◌}
use Rattle.sno_runtime.proofs.Stores.{found_again}
use Rattle.sno_runtime.proofs.runtime.Runtime.known.Goals as goal

pub returns : goal.returns
returns c =
    let same : c.symbol_text.result.now ≡ c.args.name.now = search rules in
    let some : 0 < length c.args.name.now = search rules in
    rw (← c.self.view_is) (found_again _ c.args.name.now c.in_ok-id.field-0.now c.self.invariant some (sym c.symbol_text.ensures ∙ same))
