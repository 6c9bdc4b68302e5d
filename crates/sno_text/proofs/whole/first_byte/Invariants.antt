use Rattle.std.proofs.Common.{◌≡◌, ◌≤◌, ◌+◌, ◌-◌, ◌==◌}
use Rattle.std.specs.List.{prefix_len}
use Rattle.sno_text.specs.Lines.{part}
use Rattle.sno_text.proofs.whole.first_byte.Given as goal

abbrev pub invariant-feeds : goal.invariant-feeds
invariant-feeds l =
    (l.extent.start ≤ l.at) × (l.at ≤ l.extent.end)
    × (l.extent.start + prefix_len (λ b. b == 10) (part l.joined l.extent) ≡ l.at + prefix_len (λ b. b == 10)
    (part l.joined (record { start = l.at; end = l.extent.end })))

abbrev pub decreases-feeds : goal.decreases-feeds
decreases-feeds l = l.extent.end - l.at
