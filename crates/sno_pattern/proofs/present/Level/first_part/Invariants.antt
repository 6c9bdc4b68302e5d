use Rattle.std.proofs.Common.{ℕ, [], ◌-◌, ◌<◌, ◌≤◌, get_or}
use Rattle.sno_pattern.specs.inner.Present.{NonePasses}
use Rattle.sno_pattern.proofs.present.Level.first_part.Given as goal

abbrev pub invariant-parts : goal.invariant-parts
invariant-parts l = (part : ℕ) → l.from ≤ part → part < l.part → NonePasses l.inside l.set (get_or l.self part [])

abbrev pub decreases-parts : goal.decreases-parts
decreases-parts l = l.end - l.part
