use Rattle.std.proofs.Common.{arith, ◌≤◌}
use Rattle.std.proofs.lemmas.Result.{err_from_is_err_and}
use Rattle.snobol.proofs.JobLaws.{all_digits, alone, cut_alone, cut_in_digit, cut_in_tenth, cut_taken}
use Rattle.snobol.proofs.endings.+put_digits.Goals as goal

pub returns-in_err-put_digit-clause-bytes : goal.returns-in_err-put_digit-clause-bytes
returns-in_err-put_digit-clause-bytes g t c =
    let p = err_from_is_err_and c.from_residual.result c.from_residual.ensures.1 in
    cut_taken _ _ _ _ _ p.1 (cut_alone _ _ c.args.number c.if-number-lt10.true c.in_err-put_digit.ensures.bytes)

pub returns-then-number-lt10-clause-bytes : goal.returns-then-number-lt10-clause-bytes
returns-then-number-lt10-clause-bytes g t c = alone _ _ c.args.number c.if-number-lt10.true c.in_ok-put_digit.ensures.bytes

pub returns-in_err-put_digits-clause-bytes : goal.returns-in_err-put_digits-clause-bytes
returns-in_err-put_digits-clause-bytes g t c =
    let p = err_from_is_err_and c.from_residual-in_err-put_digits.result c.from_residual-in_err-put_digits.ensures.1 in
    let large : 10 ≤ c.args.number = omega (arith, c.if-number-lt10.false) in
    cut_taken _ _ _ _ _ p.1 (cut_in_tenth _ _ c.args.number large (omega (arith, c.ranges.number.fits)) c.in_err-put_digits.ensures.bytes)

pub returns-in_err-put_digit-2-clause-bytes : goal.returns-in_err-put_digit-2-clause-bytes
returns-in_err-put_digit-2-clause-bytes g t c =
    let p = err_from_is_err_and c.from_residual-in_err-put_digit-2.result c.from_residual-in_err-put_digit-2.ensures.1 in
    let large : 10 ≤ c.args.number = omega (arith, c.if-number-lt10.false) in
    cut_taken _ _ _ _ _ p.1
    (cut_in_digit _ _ _ c.args.number large (omega (arith, c.ranges.number.fits)) c.in_ok-put_digits.ensures.bytes c.in_err-put_digit-2.ensures.bytes)

pub returns-clause-bytes : goal.returns-clause-bytes
returns-clause-bytes g t c =
    let large : 10 ≤ c.args.number = omega (arith, c.if-number-lt10.false) in
    all_digits _ _ _ c.args.number large (omega (arith, c.ranges.number.fits)) c.in_ok-put_digits.ensures.bytes c.in_ok-put_digit-2.ensures.bytes
