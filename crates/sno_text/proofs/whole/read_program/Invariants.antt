use Rattle.std.proofs.Common.{◌≡◌, ◌≤◌, length}
use Rattle.sno_text.specs.Lines.{joined, extents}
use Rattle.sno_text.proofs.Readings.{Running}
use Rattle.sno_text.proofs.whole.read_program.Given as goal

abbrev pub invariant-loop-extent : goal.invariant-loop-extent
invariant-loop-extent l =
    Running l.text l.extent-index l.place l.nodes.items l.statements.items l.labels.entries
    × (l.extent-items ≡ extents l.text) × (l.joined ≡ joined l.text) × (length l.joined ≡ length l.text) × (length l.text ≤ 4000000)
