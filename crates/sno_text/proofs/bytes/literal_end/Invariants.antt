use Rattle.std.proofs.Common.{length, ◌-◌, ◌≢◌, ◌<◌, ◌≤◌, ℕ}
use Rattle.sno_text.specs.Bytes.{byte}
use Rattle.sno_text.proofs.bytes.literal_end.Given as goal

abbrev pub invariant-bytes : goal.invariant-bytes
invariant-bytes l =
    (l.from ≤ l.at) × (l.at ≤ length l.text) × ((k : ℕ) → l.from ≤ k → k < l.at → byte l.text k ≢ l.quote)
    × ((k : ℕ) → l.from ≤ k → k < l.at → byte l.text k ≢ 10)

abbrev pub decreases-bytes : goal.decreases-bytes
decreases-bytes l = length l.text - l.at
