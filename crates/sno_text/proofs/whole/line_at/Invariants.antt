use Rattle.std.proofs.Common.{◌≡◌, ◌≤◌, ◌+◌, ◌-◌, ◌==◌, take}
use Rattle.std.specs.List.{count_by}
use Rattle.sno_text.proofs.whole.line_at.Given as goal

abbrev pub invariant-bytes : goal.invariant-bytes
invariant-bytes l = (l.at ≤ l.end) × (l.line ≡ 1 + count_by (λ b. b == 10) (take l.at l.text))

abbrev pub decreases-bytes : goal.decreases-bytes
decreases-bytes l = l.end - l.at
