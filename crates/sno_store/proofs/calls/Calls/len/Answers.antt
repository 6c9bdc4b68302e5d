use Rattle.std.proofs.Common.{ap, length, arith}
use Rattle.sno_store.proofs.CallLaws.{length-calls}
use Rattle.sno_store.proofs.calls.Calls.len.Goals as goal

pub returns : goal.returns
returns c =
    let same = ap length c.self.view_is in
    omega (arith, c.len.ensures, length-calls c.self.inside.counts.items c.self.inside.saved.items, same)
