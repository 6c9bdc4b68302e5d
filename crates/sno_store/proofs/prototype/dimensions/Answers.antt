use Rattle.std.proofs.Common.{◌∙◌, sym, arith, rules, tests, length}
use Rattle.std.proofs.lemmas.List.{length_push}
use Rattle.std.proofs.lemmas.Iterator.Consumers.{YieldsList-turn, YieldsList-end}
use Rattle.std.proofs.lemmas.Iterator.Splits.{YieldsList-from_slice_split}
use Rattle.std.specs.List.{slice_split}
use Rattle.sno_store.specs.Arrays.{is_comma}
use Rattle.sno_store.proofs.Prototypes.{read_more, read_none, read_all}
use Rattle.sno_store.proofs.prototype.dimensions.Goals as goal

pub texts-preserved-in-Continue-1 : goal.texts-preserved-in-Continue-1
texts-preserved-in-Continue-1 c =
    let t = YieldsList-turn (YieldsList-from_slice_split {s = c.into_iter-text-iterator.result} _ is_comma c.args.prototype.now (search rules) (search rules)
    (search rules) (λ x r q k. search (rules, tests))) c.texts.yielded _ c.texts.yielded_by _ _ c.in-Some.text c.in-Some.is c.next.ensures.steps in
    let texts = slice_split is_comma c.args.prototype.now in
    let more = length_push c.texts.yielded c.in-Some.text in
    record {
      can_next = search rules;
      is_finite = search rules;
      read = read_more texts (length c.texts.yielded) _ c.in-Some.text.now c.texts.dimensions.items _ c.in-Some-read.dimension t
          (sym c.in-Some-read.is ∙ c.read.ensures) more c.in_ok-push.ensures.items c.texts.invariant.read;
    }

pub texts-preserved : goal.texts-preserved
texts-preserved c =
    let t = YieldsList-turn (YieldsList-from_slice_split {s = c.into_iter-text-iterator.result} _ is_comma c.args.prototype.now (search rules) (search rules)
    (search rules) (λ x r q k. search (rules, tests))) c.texts.yielded _ c.texts.yielded_by _ _ c.in-Some.text c.in-Some.is c.next.ensures.steps in
    let texts = slice_split is_comma c.args.prototype.now in
    let more = length_push c.texts.yielded c.in-Some.text in
    record {
      can_next = search rules;
      is_finite = search rules;
      read = read_none texts (length c.texts.yielded) _ c.in-Some.text.now c.texts.dimensions.items t (sym c.in_default.is ∙ c.read.ensures)
          more c.texts.invariant.read;
    }

pub returns : goal.returns
returns c =
    let t = YieldsList-end (YieldsList-from_slice_split {s = c.into_iter-text-iterator.result} _ is_comma c.args.prototype.now (search rules) (search rules)
    (search rules) (λ x r q k. search (rules, tests))) c.texts.yielded _ c.texts.yielded_by _ _ c.in-None.is c.next.ensures.steps in
    read_all (slice_split is_comma c.args.prototype.now) (length c.texts.yielded) c.texts.dimensions.items (omega (arith, t.1)) c.texts.invariant.read
