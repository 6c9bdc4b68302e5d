use Rattle.std.proofs.Common.{◌≡◌, ◌∙◌, sym, ap, arith, rules, tests, subst, length, drop, min, ◌<◌, ◌+◌, ◌*◌, ◌-◌, ◌^◌}
use Rattle.std.proofs.lemmas.List.{length_push}
use Rattle.std.proofs.lemmas.Iterator.Consumers.{YieldsList-turn, YieldsList-end}
use Rattle.std.proofs.lemmas.Iterator.Splits.{YieldsList-from_slice_split}
use Rattle.std.specs.List.{slice_split}
use Rattle.sno_store.specs.Arrays.{is_comma}
use Rattle.sno_store.proofs.Prototypes.{counted, counted_with, kept_some, refused_at, counted_at, counted_all}
use Rattle.sno_store.proofs.prototype.count_of.Goals as goal

pub returns-in_err-dimension : goal.returns-in_err-dimension
returns-in_err-dimension c =
    let t = YieldsList-turn (YieldsList-from_slice_split {s = c.into_iter-text-iterator.result} _ is_comma c.args.prototype.now (search rules) (search rules)
    (search rules) (λ x r q k. search (rules, tests))) c.texts.yielded _ c.texts.yielded_by _ _ c.in-Some.text c.in-Some.is c.next.ensures.steps in
    let texts = slice_split is_comma c.args.prototype.now in
    c.from_residual.ensures ∙ refused_at texts (length c.texts.yielded) c.texts.count c.in-Some.text.now t
    (sym c.in_err-dimension.was ∙ c.read.ensures) c.texts.invariant.onward

pub texts-preserved : goal.texts-preserved
texts-preserved c =
    let t = YieldsList-turn (YieldsList-from_slice_split {s = c.into_iter-text-iterator.result} _ is_comma c.args.prototype.now (search rules) (search rules)
    (search rules) (λ x r q k. search (rules, tests))) c.texts.yielded _ c.texts.yielded_by _ _ c.in-Some.text c.in-Some.is c.next.ensures.steps in
    let texts = slice_split is_comma c.args.prototype.now in
    let more = length_push c.texts.yielded c.in-Some.text in
    let onward = counted_at texts (length c.texts.yielded) c.texts.count c.in-Some.text.now c.in_ok-dimension.dimension t
    (sym c.in_ok-dimension.was ∙ c.read.ensures) c.texts.invariant.onward in
    let kept : c.min-count.result ≡ counted_with c.texts.count c.in_ok-dimension.dimension =
    c.min-count.ensures ∙ ap (λ n. min n 1_000_001) (c.saturating_mul.ensures ∙ ap (λ n. min (c.texts.count * n) (2 ^ 64 - 1)) c.size.ensures) in
    record {
      can_next = search rules;
      is_finite = search rules;
      some = subst (λ n. 0 < n) (sym kept) (kept_some c.texts.count c.in_ok-dimension.dimension c.texts.invariant.some);
      few = omega arith;
      onward = ap (λ n. counted (drop n texts) c.min-count.result) more ∙ ap (counted (drop (length c.texts.yielded + 1) texts)) kept ∙ onward;
    }

pub returns : goal.returns
returns c =
    let t = YieldsList-end (YieldsList-from_slice_split {s = c.into_iter-text-iterator.result} _ is_comma c.args.prototype.now (search rules) (search rules)
    (search rules) (λ x r q k. search (rules, tests))) c.texts.yielded _ c.texts.yielded_by _ _ c.in-None.is c.next.ensures.steps in
    counted_all (slice_split is_comma c.args.prototype.now) (length c.texts.yielded) c.texts.count (omega (arith, t.1)) c.texts.invariant.onward
