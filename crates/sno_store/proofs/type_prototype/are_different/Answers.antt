use Rattle.std.proofs.Common.{◌≡◌, ◌∙◌, ◌<◌, [], ◌∷◌, ◌||◌, true, false, sym, ap, arith, rules, tests, take, drop, length}
use Rattle.std.specs.List.{list_any, slice_split}
use Rattle.std.specs.Str.{bytes_eq}
use Rattle.std.proofs.lemmas.Iterator.Consumers.{YieldsList-turn, YieldsList-end}
use Rattle.std.proofs.lemmas.List.{length_push}
use Rattle.std.proofs.lemmas.Iterator.Splits.{YieldsList-from_slice_split}
use Rattle.sno_store.specs.Arrays.{is_comma}
use Rattle.sno_store.specs.Definitions.{listed}
use Rattle.sno_store.specs.Types.{are_new}
use Rattle.sno_store.proofs.FunctionLaws.{listed_some}
use Rattle.sno_store.proofs.TypeLaws.{step_new, step_twice, new_ends}
use Rattle.sno_store.proofs.type_prototype.are_different.Goals as goal

pub returns-then-stands_before : goal.returns-then-stands_before
returns-then-stands_before c =
    let t = YieldsList-turn (YieldsList-from_slice_split {s = c.into_iter-name-iterator.result} _ is_comma c.args.list.now (search rules) (search rules)
    (search rules) (λ x r q k. search (rules, tests))) c.names.yielded _ c.names.yielded_by _ _ c.in-Some.name c.in-Some.is c.next.ensures.steps in
    let texts = slice_split is_comma c.args.list.now in
    let name = c.in-Some.name.now in
    let first = c.args.first.now in
    let some : 0 < length c.args.list.now = search rules in
    let known : c.stands_before.result ≡ true = search rules in
    let twice : (bytes_eq name first || list_any (bytes_eq name) (take (length c.names.yielded) texts)) ≡ true =
    sym (ap (λ ns. bytes_eq name first || list_any (bytes_eq name) (take (length c.names.yielded) ns)) (listed_some c.args.list.now some))
    ∙ sym (ap (λ k. bytes_eq name first || list_any (bytes_eq name) (take k (listed c.args.list.now))) c.names.invariant.place)
    ∙ sym c.stands_before.ensures ∙ known in
    step_twice first texts (length c.names.yielded) name t twice c.names.invariant.new ∙ ap (are_new (first ∷ [])) (sym (listed_some c.args.list.now some))

pub names-preserved : goal.names-preserved
names-preserved c =
    let t = YieldsList-turn (YieldsList-from_slice_split {s = c.into_iter-name-iterator.result} _ is_comma c.args.list.now (search rules) (search rules)
    (search rules) (λ x r q k. search (rules, tests))) c.names.yielded _ c.names.yielded_by _ _ c.in-Some.name c.in-Some.is c.next.ensures.steps in
    let texts = slice_split is_comma c.args.list.now in
    let name = c.in-Some.name.now in
    let first = c.args.first.now in
    let more = length_push c.names.yielded c.in-Some.name in
    let some : 0 < length c.args.list.now = search rules in
    let known : c.stands_before.result ≡ false = search rules in
    let none : (bytes_eq name first || list_any (bytes_eq name) (take (length c.names.yielded) texts)) ≡ false =
    sym (ap (λ ns. bytes_eq name first || list_any (bytes_eq name) (take (length c.names.yielded) ns)) (listed_some c.args.list.now some))
    ∙ sym (ap (λ k. bytes_eq name first || list_any (bytes_eq name) (take k (listed c.args.list.now))) c.names.invariant.place)
    ∙ sym c.stands_before.ensures ∙ known in
    record {
      can_next = search rules;
      is_finite = search rules;
      place = omega (arith, more, c.names.invariant.place);
      within = omega (arith, more, t.0);
      new = ap (λ n. are_new (first ∷ take n texts) (drop n texts)) more ∙ step_new first texts (length c.names.yielded) name t none c.names.invariant.new;
    }

pub returns : goal.returns
returns c =
    let t = YieldsList-end (YieldsList-from_slice_split {s = c.into_iter-name-iterator.result} _ is_comma c.args.list.now (search rules) (search rules)
    (search rules) (λ x r q k. search (rules, tests))) c.names.yielded _ c.names.yielded_by _ _ c.in-None.is c.next.ensures.steps in
    let texts = slice_split is_comma c.args.list.now in
    let some : 0 < length c.args.list.now = search rules in
    new_ends c.args.first.now texts (length c.names.yielded) (omega (arith, t.1)) c.names.invariant.new ∙ ap (are_new (c.args.first.now ∷ []))
    (sym (listed_some c.args.list.now some))
