use Rattle.std.proofs.Common.{◌≡◌, false, is_none, sym, ◌∙◌, rules}
use Rattle.sno_runtime.proofs.Calls.{some_copied, enters}
use Rattle.sno_runtime.proofs.CallsKnown.{entered_known}
use Rattle.sno_runtime.proofs.runtime.Runtime.enter.Goals as goal

pub invariant_of-self-2 : goal.invariant_of-self-2
invariant_of-self-2 c =
    let is : is_none c.definition.result ≡ false = search rules in
    let there = some_copied c.definition.result is in
    let did = c.in_ok-enter_with.ensures.entered there.0 (sym c.definition.ensures ∙ there.1) in
    entered_known _ c.args.function.0 there.0 c.args.arguments.now _ _ (rw (← c.self.view_is) at c.requires) c.self.invariant did.1

pub returns : goal.returns
returns c d is = rw (← c.self.view_is)
    (enters _ _ c.args.function d c.args.arguments.now _ c.self.invariant (c.in_ok-enter_with.ensures.entered d (rw (← c.self.view_is) at is)))
