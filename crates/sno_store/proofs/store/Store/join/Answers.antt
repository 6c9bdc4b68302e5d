use Rattle.std.proofs.Common.{◌≡◌, ◌<◌, ◌++◌, ◌∙◌, sym, ap, subst, arith, rules, tests, true, length, map, drop, Ok, refl, List, ℕ}
use denote.Param.Always.{mut_total}
use Rattle.std.proofs.lemmas.List.{length_push}
use Rattle.std.proofs.lemmas.Iterator.Consumers.{YieldsList-turn, YieldsList-end}
use Rattle.std.proofs.lemmas.Iterator.Splits.{YieldsList-from_slice_split}
use Rattle.std.specs.List.{list_all, slice_split}
use Rattle.sno_store.specs.declared.error.StoreError.TheVariants.{NoMemory}
use Rattle.sno_store.specs.Arrays.{is_comma}
use Rattle.sno_store.specs.Store.{place}
use Rattle.sno_store.specs.Definitions.{is_name, with_names}
use Rattle.sno_store.specs.Symbols.{HasMore}
use Rattle.sno_store.specs.inner.Symbols.{AreJoined}
use Rattle.sno_store.proofs.CallLaws.{numbers}
use Rattle.sno_store.proofs.FunctionLaws.{listed_some}
use Rattle.sno_store.proofs.NameLaws.{has_none, step_stopped, step_symbols, step_few, step_more, step_numbers, join_ends, join_passed}
use Rattle.sno_store.proofs.store.Store.join.Goals as goal

pub names-init : goal.names-init
names-init c =
    let texts = slice_split is_comma c.args.list.now in
    let P : List ℕ → ℕ = λ name. place name (with_names texts c.args.self.now.symbols) in
    record {
      can_next = mut_total _ _ (λ s a. tt);
      is_finite = search rules;
      few = c.requires.few;
      more = has_none c.args.self.now;
      symbols = refl;
      numbers = ap (λ ids. numbers ids ++ map P texts) c.new-numbers.ensures.items;
    }

pub returns-in_err-number : goal.returns-in_err-number
returns-in_err-number c =
    let t = YieldsList-turn (YieldsList-from_slice_split {s = c.into_iter-name-iterator.result} _ is_comma c.args.list.now (search rules) (search rules)
    (search rules) (λ x r q k. search (rules, tests))) c.names.yielded _ c.names.yielded_by _ _ c.in-Some.name c.in-Some.is c.next.ensures.steps in
    let texts = slice_split is_comma c.args.list.now in
    let some : 0 < length c.args.list.now = search rules in
    let list = listed_some c.args.list.now some in
    let names : list_all is_name texts ≡ true = subst (λ ns. list_all is_name ns ≡ true) list c.requires.names in
    let stop = step_stopped texts (length c.names.yielded) c.in-Some.name.now t c.args.self.now.symbols c.names.self c.symbol.new.self c.in_err-number.field-0.0
    names c.in_err-number.ensures c.names.invariant.symbols in
    subst (λ ns. AreJoined ns c.args.self.now c.symbol.new.self c.from_residual.result) (sym list)
    (join_passed texts c.args.self.now c.symbol.new.self c.in_err-number.field-0.0 c.from_residual.result c.from_residual.ensures.1
    (stop.0, subst (HasMore c.args.self.now) (sym stop.1) c.names.invariant.more))

pub names-preserved : goal.names-preserved
names-preserved c =
    let t = YieldsList-turn (YieldsList-from_slice_split {s = c.into_iter-name-iterator.result} _ is_comma c.args.list.now (search rules) (search rules)
    (search rules) (λ x r q k. search (rules, tests))) c.names.yielded _ c.names.yielded_by _ _ c.in-Some.name c.in-Some.is c.next.ensures.steps in
    let texts = slice_split is_comma c.args.list.now in
    let i = length c.names.yielded in
    let more = length_push c.names.yielded c.in-Some.name in
    let first = c.args.self.now.symbols in
    let name = c.in-Some.name.now in
    let id = c.in_ok-number.number in
    let P : List ℕ → ℕ = λ name. place name (with_names texts first) in
    record {
      can_next = search rules;
      is_finite = search rules;
      few = step_few texts i name t first c.names.self c.symbol.new.self id c.in_ok-number.ensures c.names.invariant.symbols c.names.invariant.few;
      more = step_more texts i name t first c.names.self c.symbol.new.self id c.in_ok-number.ensures c.names.invariant.symbols
          c.args.self.now c.names.invariant.more;
      symbols = ap (λ n. with_names (drop n texts) c.symbol.new.self.symbols) more ∙ step_symbols texts i name t first c.names.self c.symbol.new.self id
          c.in_ok-number.ensures c.names.invariant.symbols;
      numbers = ap (λ n. numbers c.push.new.self.items ++ map P (drop n texts)) more
          ∙ step_numbers texts i name t first c.names.self c.symbol.new.self id c.in_ok-number.ensures c.names.invariant.symbols c.names.numbers.items
          c.push.new.self.items c.in_ok-push.ensures.items c.names.invariant.numbers;
    }

pub returns-in_err-push : goal.returns-in_err-push
returns-in_err-push c =
    let t = YieldsList-turn (YieldsList-from_slice_split {s = c.into_iter-name-iterator.result} _ is_comma c.args.list.now (search rules) (search rules)
    (search rules) (λ x r q k. search (rules, tests))) c.names.yielded _ c.names.yielded_by _ _ c.in-Some.name c.in-Some.is c.next.ensures.steps in
    let texts = slice_split is_comma c.args.list.now in
    let some : 0 < length c.args.list.now = search rules in
    let list = listed_some c.args.list.now some in
    let more = step_more texts (length c.names.yielded) c.in-Some.name.now t c.args.self.now.symbols c.names.self c.symbol.new.self c.in_ok-number.number
    c.in_ok-number.ensures c.names.invariant.symbols c.args.self.now c.names.invariant.more in
    subst (λ ns. AreJoined ns c.args.self.now c.symbol.new.self c.from_residual-in_err-push.result) (sym list)
    (join_passed texts c.args.self.now c.symbol.new.self NoMemory c.from_residual-in_err-push.result c.from_residual-in_err-push.ensures.1 (tt, more))

pub returns : goal.returns
returns c =
    let t = YieldsList-end (YieldsList-from_slice_split {s = c.into_iter-name-iterator.result} _ is_comma c.args.list.now (search rules) (search rules)
    (search rules) (λ x r q k. search (rules, tests))) c.names.yielded _ c.names.yielded_by _ _ c.in-None.is c.next.ensures.steps in
    let texts = slice_split is_comma c.args.list.now in
    let some : 0 < length c.args.list.now = search rules in
    let list = listed_some c.args.list.now some in
    let ends = join_ends texts (length c.names.yielded) c.args.self.now.symbols c.names.self.symbols c.names.numbers.items
    (omega (arith, t.1)) c.names.invariant.symbols c.names.invariant.numbers in
    subst (λ ns. AreJoined ns c.args.self.now c.names.self (Ok c.names.numbers)) (sym list) (ends.0, c.names.invariant.more, ends.1, c.names.invariant.few)
