use Rattle.std.proofs.Common.{◌<◌, length, arith}
use Rattle.sno_runtime.proofs.Calls.{leaves}
use Rattle.sno_runtime.proofs.CallsKnown.{last_of, left_known}
use Rattle.sno_runtime.proofs.runtime.Runtime.leave.Goals as goal

pub invariant_of-self : goal.invariant_of-self
invariant_of-self c =
    let level = c.level.ensures.value in
    let open_calls = c.if-level-eq0.false in
    let some : 0 < length c.self.inside.store.calls = omega arith in
    let last = last_of c.self.inside.store.calls some in
    let left = c.leave.ensures last.0 last.1 last.2 in
    left_known _ last.0 last.1 _ _ c.self.invariant last.2 left.1

pub returns : goal.returns
returns c calls call has =
    let held = rw (← c.self.view_is) at has in
    let left = c.leave.ensures calls call held in
    rw (← c.self.view_is, c.set_statement.ensures) (leaves _ _ calls call c.args.statement _ c.self.invariant held left.0 left.1)
