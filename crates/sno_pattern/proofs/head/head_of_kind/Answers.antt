use Rattle.std.proofs.Common.{◌≡◌, ◌+◌, Some, refl, slice_get, sym, ◌∙◌, ap, subst, arith}
use Rattle.sno_pattern.specs.Ends.{ends}
use Rattle.sno_pattern.specs.Pattern.{Text, Arb, Rem, Fail}
use Rattle.sno_pattern.proofs.ShapeLaws.{arb_end, one_text_end, one_count_end, one_any_end, one_not_any_end}
use Rattle.sno_pattern.proofs.head.head_of_kind.Goals as goal

pub returns-then-text-eq1 : goal.returns-then-text-eq1
returns-then-text-eq1 c =
    let first = subst (λ bytes. slice_get (ends (Text bytes) c.args.subject.now c.args.at) 0 ≡ c.byte_end-first.result) c.as_slice-text.ensures
    (sym c.byte_end-first.ensures) in
    rw c.in-Text.is (_, refl, first, one_text_end _ c.args.subject.now c.args.at)

pub returns-else-is_long : goal.returns-else-is_long
returns-else-is_long c =
    let first = subst (λ bytes. slice_get (ends (Text bytes) c.args.subject.now c.args.at) 0 ≡ c.text_end-first.result) c.as_slice-text.ensures
    (sym c.text_end-first.ensures) in
    rw c.in-Text.is (_, refl, first, one_text_end _ c.args.subject.now c.args.at)

pub returns-in-Counted : goal.returns-in-Counted
returns-in-Counted c = rw c.in-Counted.is
    (_, refl, sym c.count_end-first.ensures, sym (one_count_end _ _ c.args.subject.now c.args.at 1 (λ e. omega arith)))

pub returns-in-Any : goal.returns-in-Any
returns-in-Any c = rw (c.in-Among.is, c.in-Any.is) (_, refl, sym c.any_end-first.ensures, one_any_end _ c.args.subject.now c.args.at)

pub returns-in-NotAny : goal.returns-in-NotAny
returns-in-NotAny c = rw (c.in-Among.is, c.in-NotAny.is) (_, refl, sym c.not_any_end-first.ensures, one_not_any_end _ c.args.subject.now c.args.at)

pub returns-in-Arb : goal.returns-in-Arb
returns-in-Arb c =
    let here : c.args.at + 0 ≡ c.args.at = omega arith in
    let first = sym (arb_end c.args.subject.now c.args.at 0 c.requires (omega arith)) ∙ ap Some here in
    rw c.in-Arb.is (Arb, refl, first, c.behind_in_arb-next.ensures c.args.at 0 c.requires first)

pub returns-in-Rem : goal.returns-in-Rem
returns-in-Rem c = rw c.in-Rem.is (Rem, refl, refl, refl)

pub returns-in-Fail : goal.returns-in-Fail
returns-in-Fail c = rw c.in-Fail.is (Fail, refl, refl, refl)
