use Rattle.std.proofs.Common.{rules}
use mir.Syntax.{w64}
use mir.Val.{SFits}
use Rattle.std.proofs.lemmas.Int.{to_z-of_z}
use Rattle.sno_runtime.proofs.InputLaws.{line_reads, reads_made}
use Rattle.sno_runtime.proofs.runtime.Runtime.read_line.Goals as goal

pub returns : goal.returns
returns g c =
    let fits : SFits w64 c.trim.result = search rules in
    let same = simp to_z-of_z at c.value_of_line.ensures in
    let is = rw c.trim.ensures at same in
    let next = c.next-line.ensures in
    let going = rw (← c.self.view_is) at c.requires.going in
    rw (← c.self.view_is) (reads_made _ _ _ _ _ _ _ is
    (line_reads _ _ _ _ _ (next.line going) next.ok next.reader.sound (next.reader.same going) (λ fault. (next.reader.fault going).0 fault)))
