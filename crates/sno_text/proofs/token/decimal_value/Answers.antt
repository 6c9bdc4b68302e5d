use Rattle.std.proofs.Common.{arith}
use Rattle.sno_text.proofs.Digits.{digit_at_least, decimal_over}
use Rattle.sno_text.proofs.token.decimal_value.Goals as goal

pub overflow_sub-digit : goal.overflow_sub-digit
overflow_sub-digit c = digit_at_least _ (c.requires c.loop-digit.digit-index (omega arith))

pub returns-then-next-ge9223372036854775808 : goal.returns-then-next-ge9223372036854775808
returns-then-next-ge9223372036854775808 c =
    decimal_over c.loop-digit.value c.loop-digit.digit-index 9223372036854775808 c.args.digits.now (omega arith) c.loop-digit.invariant.1 (omega arith)
