use Rattle.std.proofs.Common.{◌≡◌, Some, slice_get}
use Rattle.sno_value.specs.declared.kind.PrimitiveKind.TheVariants.{BreakX}
use Rattle.sno_pattern.specs.Pattern.{Among}
use Rattle.sno_pattern.specs.Ends.{ends}
use Rattle.sno_pattern.proofs.sets.stop_at.Given as goal

abbrev pub invariant-loop-more : goal.invariant-loop-more
invariant-loop-more l = slice_get (ends (Among BreakX l.set) l.subject l.at) l._more ≡ Some l.stop
