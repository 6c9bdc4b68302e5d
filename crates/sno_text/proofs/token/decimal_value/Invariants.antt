use Rattle.std.proofs.Common.{◌≡◌, ◌<◌, ◌^◌, drop}
use Rattle.sno_text.specs.Grammar.{decimal}
use Rattle.sno_text.proofs.token.decimal_value.Given as goal

abbrev pub invariant-loop-digit : goal.invariant-loop-digit
invariant-loop-digit l = (l.value < 2 ^ 63) × (decimal l.value (drop l.digit-index l.digits) ≡ decimal 0 l.digits)
