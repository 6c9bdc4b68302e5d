-- What a primitive with its argument does. Private contracts alone cite it.
use Rattle.std.specs.Prelude.{ℕ, pos, negsuc, List, [], ◌∷◌}
use Rattle.sno_value.specs.declared.kind.PrimitiveKind.{PrimitiveKind}
use Rattle.sno_pattern.specs.Pattern.{Pattern, Leaf, Counted, Among}
use Rattle.sno_pattern.specs.Sets.{set_of}
use Rattle.sno_pattern.specs.declared.argument.Arg.{Arg}
use Rattle.sno_pattern.specs.declared.argument.Arg.TheVariants.{Count, Set}
use Rattle.sno_runtime.specs.Action.{Error, Action, stops}
use Rattle.sno_runtime.specs.Operators.{makes}

abbrev pub with_bytes : PrimitiveKind → List ℕ → Action Pattern
with_bytes kind [] = stops (Error 6)
with_bytes kind (byte ∷ bytes) = makes (Leaf (Among kind (set_of (byte ∷ bytes))))

abbrev pub makes_primitive : PrimitiveKind → Arg → Action Pattern
makes_primitive kind (Count (pos n)) = makes (Leaf (Counted kind n))
makes_primitive kind (Count (negsuc n)) = stops (Error 7)
makes_primitive kind (Set bytes) = with_bytes kind bytes.now
