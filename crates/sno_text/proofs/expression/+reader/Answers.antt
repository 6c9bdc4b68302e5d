use Rattle.std.proofs.Common.{◌≡◌, ◌≢◌, ◌+◌, ◌-◌, ◌∙◌, Some, sym, arith, rules, refl, true, false}
use Rattle.sno_text.specs.declared.bytes.Class.TheVariants.{NameByte}
use Rattle.sno_text.specs.Bytes.{byte, is_unary, is_closing, is_letter, is_opening}
use Rattle.sno_text.specs.Grammar.{IsPair, Element}
use Rattle.sno_text.specs.inner.Links.{Stops}
use Rattle.sno_text.specs.inner.Parsed.{Parsed}
use Rattle.sno_text.proofs.Primaries.{refuses_group}
use Rattle.sno_text.proofs.Tables.{extends_none, gives_variable, gives_group, refused_unclosed, extends_trans, extends_push, letter_is_name_byte, run_some}
use Rattle.sno_text.proofs.Steps.{extends_binary, extends_unary, extends_applied, gives_signed, listing_next, growing_left, gives_right, refused_left}
use Rattle.sno_text.proofs.Steps.{growing_first, gives_over, refused_right, gives_other, gives_plain, gives_given, refused_next, gives_call, opening_within, byte_within, pair_within}
use Rattle.sno_text.proofs.expression.+reader.Goals as goal

pub read_argument-returns-clause-read : goal.read_argument-returns-clause-read
read_argument-returns-clause-read t c =
    let comma : byte c.args.text.now c.run_end-start.result ≢ 44 = λ e. c.if-first-eq44.false (c.byte_at-first.ensures ∙ e) in
    let shut : is_closing (byte c.args.text.now c.run_end-start.result) ≡ false = cc in
    gives_given _ _ _ _ _ _ c.in-Some.found c.run_end-start.ensures.run comma shut (rw c.in-Some.is at c.in_ok-found.ensures.read) c.run_end-end.ensures.run
    c.run_end-end.ensures.within

pub read_arguments-returns-in_default-2-clause-read : goal.read_arguments-returns-in_default-2-clause-read
read_arguments-returns-in_default-2-clause-read t c =
    refused_next _ _ _ _ _ _ _ c.arguments.invariant.0 (sym c.byte_at.ensures ∙ c.arguments-test.true) (rw c.in_default-2.is at c.in_ok-next.ensures.read)

pub read_element-signs-init : goal.read_element-signs-init
read_element-signs-init t c = (
  gives_plain _ c.args.from _ _ _ c.in-Some.found c.run_end-at.ensures.run (rw c.in-Some.is at c.in_ok-found.ensures.read),
  search rules,
  search rules,
  c.run_end-at.ensures.run.run,
)

pub read_group-returns-in_default-clause-read : goal.read_group-returns-in_default-clause-read
read_group-returns-in_default-clause-read t c =
    refuses_group _ _ _ c.requires.opening c.run_end-start.ensures.run (rw c.in_default.is at c.in_ok-inner.ensures.read)

pub read_group-returns-then-byte_at-ne41-clause-read : goal.read_group-returns-then-byte_at-ne41-clause-read
read_group-returns-then-byte_at-ne41-clause-read t c =
    refused_unclosed _ _ _ c.run_end-end.result _ _ c.in-Some.inner c.requires.opening c.run_end-start.ensures.run
    (rw c.in-Some.is at c.in_ok-inner.ensures.read) c.run_end-end.ensures.run
    (λ e. c.if-byte_at-ne41.true (c.byte_at.ensures ∙ e))

pub read_group-returns-clause-read : goal.read_group-returns-clause-read
read_group-returns-clause-read t c =
    let shut : byte c.args.text.now c.run_end-end.result ≡ 41 = sym c.byte_at.ensures ∙ c.if-byte_at-ne41.false in
    gives_group _ _ _ c.run_end-end.result _ _ c.in-Some.inner c.requires.opening c.run_end-start.ensures.run (rw c.in-Some.is at c.in_ok-inner.ensures.read)
    c.run_end-end.ensures.run
    shut (byte_within _ _ 41 shut (omega arith))

pub read_level-returns-in_default-2-clause-read : goal.read_level-returns-in_default-2-clause-read
read_level-returns-in_default-2-clause-read t c =
    refused_left _ _ _ _ _ _ _ c.operands.left c.if-level-eq-POWER.false (sym c.level_number.ensures ∙ c.if-level_number-level.false) c.operands.invariant.0
    c.in-Some-joint_apart.ensures.0
    (rw c.in_default-2.is at c.in_ok-right.ensures.read)

pub read_level-operands-preserved : goal.read_level-operands-preserved
read_level-operands-preserved t c = (
  growing_left _ _ _ _ _ _ _ _ _ c.operands.left c.in-Some-2.right c.in_ok-left-2.left c.if-level-eq-POWER.false
      (sym c.level_number.ensures ∙ c.if-level_number-level.false)
      c.operands.invariant.0 c.in-Some-joint_apart.ensures.0 c.in-Some-joint_apart.ensures.1 (rw c.in-Some-2.is at c.in_ok-right.ensures.read)
      c.in_ok-right.ensures.extends
      c.in_ok-left-2.ensures.pushed c.in_ok-left-2.ensures.id c.in_ok-left-2.ensures.end c.in_ok-left-2.ensures.fits,
  extends_binary _ _ _ _ _ _ _ _ _ c.operands.left c.in-Some-2.right c.operands.invariant.0 c.operands.invariant.1
      (rw c.in-Some-2.is at c.in_ok-right.ensures.read)
      c.in_ok-right.ensures.extends c.in_ok-left-2.ensures.pushed,
)

pub read_level-returns-then-level_number-level-clause-read : goal.read_level-returns-then-level_number-level-clause-read
read_level-returns-then-level_number-level-clause-read t c =
    gives_other _ _ _ _ _ _ _ c.operands.left (λ e. c.if-level_number-level.true (c.level_number.ensures ∙ e)) c.in-Some-joint_apart.ensures.0 c.operands.invariant.0

pub read_name-returns-then-not-is_in-clause-read : goal.read_name-returns-then-not-is_in-clause-read
read_name-returns-then-not-is_in-clause-read t c =
    let closed : is_opening (byte c.args.text.now c.run_end-end.result) ≡ false = cc in
    gives_variable _ _ _ _ _ c.in_ok-id.id c.requires.letter c.run_end-end.ensures.run closed c.run_end-end.ensures.within c.in_ok-id.ensures.pushed.1
    c.in_ok-id.ensures.pushed.0

pub read_name-read_arguments-requires : goal.read_name-read_arguments-requires
read_name-read_arguments-requires t c =
    let opens : is_opening (byte c.args.text.now c.run_end-end.result) ≡ true = cc in
    let within = opening_within c.args.text.now c.run_end-end.result opens in
    let order = c.run_end-end.ensures.run.run.order in
    (search rules, (omega arith, omega arith))

pub read_name-returns-clause-read : goal.read_name-returns-clause-read
read_name-returns-clause-read t c =
    let pair : IsPair (byte c.args.text.now c.run_end-end.result) (byte c.args.text.now c.in-Some.arguments.end) =
    rw (← c.byte_at-opening.ensures, ← c.byte_at.ensures) (c.is_pair.ensures.pair c.if-not-is_pair.false) in
    gives_call _ _ _ _ _ _ _ c.in_ok-id-2.id c.in-Some.arguments c.requires.letter c.run_end-end.ensures.run c.byte_at-opening.ensures
    pair (pair_within _ _ _ pair)
    (rw c.in-Some.is at c.in_ok-arguments.ensures.read) c.in_ok-id-2.ensures.pushed c.in_ok-id-2.ensures.id

pub read_primary-read_name-requires : goal.read_primary-read_name-requires
read_primary-read_name-requires t c =
    let letter : is_letter (byte c.args.text.now c.args.from) ≡ true = cc in
    (search rules, (letter, (c.requires.within, c.requires.room)))

pub read_primary-returns-in_default-clause-extends : goal.read_primary-returns-in_default-clause-extends
read_primary-returns-in_default-clause-extends t c = extends_none _ _ _ refl

pub read_level-returns-in_err-right-clause-extends : goal.read_level-returns-in_err-right-clause-extends
read_level-returns-in_err-right-clause-extends t c = extends_trans _ _ _ _ c.operands.invariant.1 c.in_err-right.ensures.extends

pub read_level-returns-in_default-2-clause-extends : goal.read_level-returns-in_default-2-clause-extends
read_level-returns-in_default-2-clause-extends t c = extends_trans _ _ _ _ c.operands.invariant.1 c.in_ok-right.ensures.extends

pub read_level-returns-in_err-left-2-clause-extends : goal.read_level-returns-in_err-left-2-clause-extends
read_level-returns-in_err-left-2-clause-extends t c =
    extends_trans _ _ _ _ (extends_trans _ _ _ _ c.operands.invariant.1 c.in_ok-right.ensures.extends) (extends_none _ _ _ c.in_err-left-2.ensures.err)

pub read_element-signs-preserved : goal.read_element-signs-preserved
read_element-signs-preserved t c =
    let sign : is_unary (byte c.args.text.now (c.signs.at - 1)) ≡ true = c.signs.invariant.3.each (c.signs.at - 1) (omega arith) (omega arith) in
    let next : c.signs.at - 1 + 1 ≡ c.signs.at = omega arith in
    let found : Parsed c.args.text.now Element (Stops c.args.text.now 7) (c.signs.at - 1 + 1) c.args.nodes.now.items c.signs.nodes.items (Some c.signs.found) =
    rw next c.signs.invariant.0 in (
      gives_signed _ _ _ _ _ _ c.signs.found _ sign c.unary_operator-operator.ensures found c.in_ok-id.ensures.pushed.1 c.in_ok-id.ensures.pushed.0 refl refl,
      extends_unary _ _ _ _ _ _ c.signs.found c.signs.invariant.0 c.signs.invariant.1 c.in_ok-id.ensures.pushed.1,
      omega arith,
      record { order = omega arith; each = λ k low high. c.signs.invariant.3.each k low (omega arith) },
    )

pub read_name-returns-in_err-id-clause-extends : goal.read_name-returns-in_err-id-clause-extends
read_name-returns-in_err-id-clause-extends t c = extends_none _ _ _ c.in_err-id.ensures.err

pub read_name-returns-then-not-is_in-clause-extends : goal.read_name-returns-then-not-is_in-clause-extends
read_name-returns-then-not-is_in-clause-extends t c =
    extends_push _ _ _ _ c.in_ok-id.ensures.pushed.1
    (record {
      operands = tt;
      spans = (c.run_end-end.ensures.order, c.run_end-end.ensures.within);
      named = run_some NameByte _ _ _ c.run_end-end.ensures.run
          (letter_is_name_byte _ c.requires.letter);
    })

pub read_name-returns-clause-extends : goal.read_name-returns-clause-extends
read_name-returns-clause-extends t c =
    extends_applied _ _ _ _ _ _ _ c.in-Some.arguments (rw c.in-Some.is at c.in_ok-arguments.ensures.read) c.in_ok-arguments.ensures.extends
    (c.run_end-end.ensures.order, c.run_end-end.ensures.within) (run_some NameByte _ _ _ c.run_end-end.ensures.run (letter_is_name_byte _ c.requires.letter))
    c.in_ok-id-2.ensures.pushed

pub read_arguments-returns-in_err-next-clause-extends : goal.read_arguments-returns-in_err-next-clause-extends
read_arguments-returns-in_err-next-clause-extends t c = extends_trans _ _ _ _ c.arguments.invariant.1 c.in_err-next.ensures.extends

pub read_arguments-returns-in_default-2-clause-extends : goal.read_arguments-returns-in_default-2-clause-extends
read_arguments-returns-in_default-2-clause-extends t c = extends_trans _ _ _ _ c.arguments.invariant.1 c.in_ok-next.ensures.extends

pub read_arguments-returns-in_err-push-2-clause-extends : goal.read_arguments-returns-in_err-push-2-clause-extends
read_arguments-returns-in_err-push-2-clause-extends t c = extends_trans _ _ _ _ c.arguments.invariant.1 c.in_ok-next.ensures.extends

pub read_arguments-arguments-preserved-then-fits : goal.read_arguments-arguments-preserved-then-fits
read_arguments-arguments-preserved-then-fits t c = (
  listing_next _ _ _ _ _ _ _ _ _ _ c.in-Some-2.next c.arguments.invariant.0 (sym c.byte_at.ensures ∙ c.arguments-test.true)
      (rw c.in-Some-2.is at c.in_ok-next.ensures.read) c.in_ok-next.ensures.extends
      c.in_ok-push-2.ensures.items (rw c.if-fits.true refl),
  extends_trans _ _ _ _ c.arguments.invariant.1 c.in_ok-next.ensures.extends,
)

pub read_arguments-arguments-preserved : goal.read_arguments-arguments-preserved
read_arguments-arguments-preserved t c = (
  listing_next _ _ _ _ _ _ _ _ _ _ c.in-Some-2.next c.arguments.invariant.0 (sym c.byte_at.ensures ∙ c.arguments-test.true)
      (rw c.in-Some-2.is at c.in_ok-next.ensures.read) c.in_ok-next.ensures.extends
      c.in_ok-push-2.ensures.items (rw c.if-fits.false refl),
  extends_trans _ _ _ _ c.arguments.invariant.1 c.in_ok-next.ensures.extends,
)

pub read_argument-returns-in_err-id-clause-extends : goal.read_argument-returns-in_err-id-clause-extends
read_argument-returns-in_err-id-clause-extends t c = extends_none _ _ _ c.in_err-id.ensures.err

pub read_argument-returns-then-first-eq44-clause-extends : goal.read_argument-returns-then-first-eq44-clause-extends
read_argument-returns-then-first-eq44-clause-extends t c =
    extends_push _ _ _ _ c.in_ok-id.ensures.pushed.1 (record { operands = tt; spans = (omega arith, c.run_end-start.ensures.within); named = tt })

pub read_power-returns-in_default-joint_apart-clause-read : goal.read_power-returns-in_default-joint_apart-clause-read
read_power-returns-in_default-joint_apart-clause-read t c =
    let left = growing_first _ 5 _ _ _ c.in-Some.left (λ e. omega (arith, e)) (omega arith) (rw c.in-Some.is at c.in_ok-left.ensures.read) in
    gives_over _ _ _ _ _ c.in-Some.left c.in_default-joint_apart.ensures left

pub read_power-returns-then-level_number-ne-POWER-clause-read : goal.read_power-returns-then-level_number-ne-POWER-clause-read
read_power-returns-then-level_number-ne-POWER-clause-read t c =
    let left = growing_first _ 5 _ _ _ c.in-Some.left (λ e. omega (arith, e)) (omega arith) (rw c.in-Some.is at c.in_ok-left.ensures.read) in
    gives_other _ _ _ _ _ _ _ c.in-Some.left (λ e. c.if-level_number-ne-POWER.true (c.level_number.ensures ∙ e)) c.in-Some-joint_apart.ensures.0 left

pub read_power-returns-in_err-right-clause-extends : goal.read_power-returns-in_err-right-clause-extends
read_power-returns-in_err-right-clause-extends t c = extends_trans _ _ _ _ c.in_ok-left.ensures.extends c.in_err-right.ensures.extends

pub read_power-returns-in_default-2-clause-read : goal.read_power-returns-in_default-2-clause-read
read_power-returns-in_default-2-clause-read t c =
    let left = growing_first _ 5 _ _ _ c.in-Some.left (λ e. omega (arith, e)) (omega arith) (rw c.in-Some.is at c.in_ok-left.ensures.read) in
    refused_right _ _ _ _ _ _ _ c.in-Some.left refl (sym c.level_number.ensures ∙ c.if-level_number-ne-POWER.false) left
    c.in-Some-joint_apart.ensures.0
    (rw c.in_default-2.is at c.in_ok-right.ensures.read)

pub read_power-returns-in_default-2-clause-extends : goal.read_power-returns-in_default-2-clause-extends
read_power-returns-in_default-2-clause-extends t c = extends_trans _ _ _ _ c.in_ok-left.ensures.extends c.in_ok-right.ensures.extends

pub read_power-returns-in_err-found-clause-extends : goal.read_power-returns-in_err-found-clause-extends
read_power-returns-in_err-found-clause-extends t c =
    extends_trans _ _ _ _ (extends_trans _ _ _ _ c.in_ok-left.ensures.extends c.in_ok-right.ensures.extends) (extends_none _ _ _ c.in_err-found.ensures.err)

pub read_power-returns-clause-read : goal.read_power-returns-clause-read
read_power-returns-clause-read t c =
    let left = growing_first _ 5 _ _ _ c.in-Some.left (λ e. omega (arith, e)) (omega arith) (rw c.in-Some.is at c.in_ok-left.ensures.read) in
    gives_right _ _ _ _ _ _ _ _ _ c.in-Some.left c.in-Some-2.right c.in_ok-found.found refl
    (sym c.level_number.ensures ∙ c.if-level_number-ne-POWER.false)
    left c.in-Some-joint_apart.ensures.0 c.in-Some-joint_apart.ensures.1 (rw c.in-Some-2.is at c.in_ok-right.ensures.read) c.in_ok-right.ensures.extends
    c.in_ok-found.ensures.pushed c.in_ok-found.ensures.id c.in_ok-found.ensures.end c.in_ok-found.ensures.fits

pub read_power-returns-clause-extends : goal.read_power-returns-clause-extends
read_power-returns-clause-extends t c =
    let left = growing_first _ 5 _ _ _ c.in-Some.left (λ e. omega (arith, e)) (omega arith) (rw c.in-Some.is at c.in_ok-left.ensures.read) in
    extends_binary _ _ _ _ _ _ _ _ _ c.in-Some.left c.in-Some-2.right left c.in_ok-left.ensures.extends
    (rw c.in-Some-2.is at c.in_ok-right.ensures.read)
    c.in_ok-right.ensures.extends c.in_ok-found.ensures.pushed
