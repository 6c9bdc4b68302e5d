use Rattle.std.proofs.Common.{◌≡◌, ◌∙◌, ◌+◌, ◌<◌, ◌∷◌, ◌||◌, true, false, sym, ap, arith, rules, tests, take, length, if◌then◌else◌}
use Rattle.std.specs.List.{list_any, slice_split}
use Rattle.std.specs.Str.{bytes_eq}
use Rattle.std.proofs.lemmas.List.{length_push, take_all}
use Rattle.std.proofs.lemmas.Iterator.Consumers.{YieldsList-turn, YieldsList-end}
use Rattle.std.proofs.lemmas.Iterator.Splits.{YieldsList-from_slice_split}
use Rattle.sno_store.specs.Arrays.{is_comma}
use Rattle.sno_store.specs.Store.{is_symbol}
use Rattle.sno_store.specs.Definitions.{listed, with_names}
use Rattle.sno_store.proofs.CountLaws.{counted_at, one_or_none}
use Rattle.sno_store.proofs.FunctionLaws.{listed_some}
use Rattle.sno_store.proofs.symbols.Symbols.count_new.Goals as goal
use Rattle.sno_store.proofs.symbols.Symbols.count_new.Goals.{then-not-is_counted, else-not-is_counted}

pub names-preserved : goal.names-preserved
names-preserved c =
    let t = YieldsList-turn (YieldsList-from_slice_split {s = c.into_iter-name-iterator.result} _ is_comma c.args.list.now (search rules) (search rules)
    (search rules) (λ x r q k. search (rules, tests))) c.names.yielded _ c.names.yielded_by _ _ c.in-Some.name c.in-Some.is c.next.ensures.steps in
    let texts = slice_split is_comma c.args.list.now in
    let more = length_push c.names.yielded c.in-Some.name in
    let some : 0 < length c.args.list.now = search rules in
    let base = with_names (c.args.first.now ∷ listed c.args.before.now) c.args.self.now in
    let known : c.is_counted.result ≡ (is_symbol c.in-Some.name.now base || list_any (bytes_eq c.in-Some.name.now) (take (length c.names.yielded) texts)) =
    c.is_counted.ensures ∙ ap (λ n. is_symbol c.in-Some.name.now base || list_any (bytes_eq c.in-Some.name.now)
    (take n (listed c.args.list.now))) c.names.invariant.place
    ∙ ap (λ ns. is_symbol c.in-Some.name.now base || list_any (bytes_eq c.in-Some.name.now) (take (length c.names.yielded) ns))
    (listed_some c.args.list.now some) in
    let next = counted_at texts (length c.names.yielded) c.in-Some.name.now t base c.names.new c.is_counted.result known c.names.invariant.counted in
    let new : c.if-not-is_counted.new ≡ c.names.new + (if c.is_counted.result then 0 else 1) =
    elim c.if-not-is_counted.branch [
      | then-not-is_counted w ↦ (let out : c.is_counted.result ≡ false = search rules in
          omega (arith, w.new-is) ∙ ap (λ b. c.names.new + (if b then 0 else 1)) (sym out))
      | else-not-is_counted w ↦ (let out : c.is_counted.result ≡ true = search rules in
          omega (arith, w.new-is) ∙ ap (λ b. c.names.new + (if b then 0 else 1)) (sym out))
    ]
    in
    record {
      can_next = search rules;
      is_finite = search rules;
      place = omega (arith, more, c.names.invariant.place);
      within = omega (arith, more, t.0);
      few = omega (arith, new, one_or_none c.is_counted.result, c.names.invariant.few);
      counted = ap (λ n. length (with_names (take n texts) base)) more ∙ next ∙ ap (λ n. length base + n) (sym new);
    }

pub returns-clause-number : goal.returns-clause-number
returns-clause-number c =
    let t = YieldsList-end (YieldsList-from_slice_split {s = c.into_iter-name-iterator.result} _ is_comma c.args.list.now (search rules) (search rules)
    (search rules) (λ x r q k. search (rules, tests))) c.names.yielded _ c.names.yielded_by _ _ c.in-None.is c.next.ensures.steps in
    let texts = slice_split is_comma c.args.list.now in
    let some : 0 < length c.args.list.now = search rules in
    let base = with_names (c.args.first.now ∷ listed c.args.before.now) c.args.self.now in
    ap (λ ns. length (with_names ns base)) (listed_some c.args.list.now some ∙ sym (take_all (length c.names.yielded) texts (omega (arith, t.1))))
    ∙ c.names.invariant.counted
