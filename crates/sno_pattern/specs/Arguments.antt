-- The primitives that take an argument.
use Rattle.std.specs.Prelude.{◌≡◌, ◌<◌, pos, ◌<ℤ◌, ◌≤ℤ◌, nat_abs, [], length, IsTrue, IsFalse}
use Rattle.sno_value.specs.Kind.{takes_count}
use Rattle.sno_value.specs.declared.kind.PrimitiveKind.{PrimitiveKind}
use Rattle.sno_pattern.specs.Pattern.{Primitive, Counted, Among}
use Rattle.sno_pattern.specs.Sets.{set_of}
use Rattle.sno_pattern.specs.declared.argument.Arg.{Arg}
use Rattle.sno_pattern.specs.declared.argument.Arg.TheVariants.{Count, Set}

-- a count for a primitive that takes one, and a set for the others
abbrev pub IsArgOf : PrimitiveKind → Arg → Type 0
IsArgOf kind (Count n) = IsTrue (takes_count kind)
IsArgOf kind (Set bytes) = IsFalse (takes_count kind)

abbrev pub IsNullSet : Arg → Type 0
IsNullSet (Count n) = ⊥
IsNullSet (Set bytes) = bytes.now ≡ []

abbrev pub IsBadCount : Arg → Type 0
IsBadCount (Count n) = n <ℤ pos 0
IsBadCount (Set bytes) = ⊥

-- neither a null set nor a bad count
abbrev pub IsGoodArg : Arg → Type 0
IsGoodArg (Count n) = pos 0 ≤ℤ n
IsGoodArg (Set bytes) = 0 < length bytes.now

-- the primitive with its argument
abbrev pub primitive_of : PrimitiveKind → Arg → Primitive
primitive_of kind (Count n) = Counted kind (nat_abs n)
primitive_of kind (Set bytes) = Among kind (set_of bytes.now)
