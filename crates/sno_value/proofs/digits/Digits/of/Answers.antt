use Rattle.std.proofs.Common.{◌+◌, ◌-◌, ◌∷◌, ◌∙◌, ap, sym, arith, rules, length, decimal, pos, int_lt, unsigned_abs, append-nil, to_z-of_z, length-set}
use Rattle.std.proofs.lemmas.Fmt.{length-decimal-le, decimal_digit}
use Rattle.sno_value.proofs.Decimal.{one_longer, step_written, first_written, minus_written, minus_first, no_minus, short_text}
use Rattle.sno_value.proofs.digits.Digits.of.Goals as goal
use Rattle.sno_value.proofs.digits.Digits.of.Goals.{then-number-lt0, else-number-lt0}

pub tens-init : goal.tens-init
tens-init c =
    let u = c.unsigned_abs-left in
    let bound = u.ensures.bound in
    let short = length-decimal-le 19 u.result (omega arith) (omega (arith, bound)) (omega (arith, bound)) in
    (omega (arith, short), omega arith, search rules, append-nil (decimal u.result) ∙ ap decimal u.ensures.value)

pub tens-preserved : goal.tens-preserved
tens-preserved c =
    let l = c.tens in
    let tens = c.tens-test.true in
    let fits = l.auto.left-fits.fits in
    let longer = one_longer l.left tens fits in (
      omega (arith, longer, l.invariant.0),
      omega (arith, l.invariant.1),
      length-set l.bytes (l.start - 1) _ ∙ l.invariant.2,
      step_written l.left l.start l.bytes tens fits (omega (arith, l.invariant.0)) (omega (arith, l.invariant.1, l.invariant.2)) ∙ l.invariant.3,
    )

pub overflow_sub-start-then-number-lt0 : goal.overflow_sub-start-then-number-lt0
overflow_sub-start-then-number-lt0 c = omega (arith, c.tens.invariant.0, ap length (decimal_digit c.tens.left c.tens-test.false))

pub returns-clause-text : goal.returns-clause-text
returns-clause-text c =
    let l = c.tens in
    let one = c.tens-test.false in
    let back = to_z-of_z c.ranges.number in
    let sign = ap (λ z. int_lt z (pos 0)) back in
    let single = ap length (decimal_digit l.left one) in
    let long = length-set l.bytes (l.start - 1) (48 + l.left) in
    let first = first_written l.left l.start l.bytes one (omega (arith, l.invariant.0)) (omega (arith, l.invariant.1, l.invariant.2)) in
    let digits = first ∙ (l.invariant.3 ∙ ap (λ z. decimal (unsigned_abs z)) back) in
    elim c.if-number-lt0.branch [
      | then-number-lt0 w ↦
          rw (w.bytes-is, w.start-is)
          (minus_written (l.start - 1) _ (omega (arith, single, l.invariant.0)) (omega (arith, long, l.invariant.1, l.invariant.2))
          ∙ (ap (λ ds. 45 ∷ ds) digits ∙ minus_first c.args.number (sym sign ∙ w.if-number-lt0.true)))
      | else-number-lt0 w ↦ rw (w.bytes-is, w.start-is) (digits ∙ no_minus c.args.number (sym sign ∙ w.if-number-lt0.false))
    ]

pub returns-clause-short : goal.returns-clause-short
returns-clause-short c = short_text c.args.number c.ranges.number
