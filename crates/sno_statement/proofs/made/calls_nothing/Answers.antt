use Rattle.std.proofs.Common.{refl}
use Rattle.sno_statement.proofs.made.calls_nothing.Goals as goal

pub returns-in-Concatenation : goal.returns-in-Concatenation
returns-in-Concatenation c = λ is program part known.
    let of = rw c.in-Concatenation.is at known in rw of.2.1 refl

pub returns-in-Binary : goal.returns-in-Binary
returns-in-Binary c = λ is program part known.
    let of = rw c.in-Binary.is at known in rw of.2.1 refl

pub returns-in-Item : goal.returns-in-Item
returns-in-Item c = λ is program part known.
    let of = rw c.in-Item.is at known in rw of.2.1 refl

pub returns-in-ItemName : goal.returns-in-ItemName
returns-in-ItemName c = λ is program part known.
    let of = rw c.in-ItemName.is at known in rw of.2.1 refl

pub returns-in-Plane : goal.returns-in-Plane
returns-in-Plane c = λ is program part known.
    let of = rw c.in-Plane.is at known in rw of.2.1 refl

pub returns-in-PlaneName : goal.returns-in-PlaneName
returns-in-PlaneName c = λ is program part known.
    let of = rw c.in-PlaneName.is at known in rw of.2.1 refl
