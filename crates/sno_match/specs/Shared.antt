-- What contracts see of a stack that shares its goals: its points, and how many goal records it has.
use Rattle.std.specs.Prelude.{ℕ, List}
use Rattle.sno_match.specs.Point.{Point}

pub record Seen : Type 0 where
  pub points : List Point
  pub count : ℕ
