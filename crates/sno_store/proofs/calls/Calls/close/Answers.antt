use Rattle.std.proofs.Common.{◌≡◌, ◌-◌, ◌∙◌, [], ap, sym, arith, drop, length, take}
use Rattle.std.specs.List.{sum}
use Rattle.std.proofs.lemmas.List.{length_push, same_from_push}
use Rattle.sno_value.specs.declared.value.Value.TheVariants.{Str}
use Rattle.sno_store.specs.Calls.{function_value, restored}
use Rattle.sno_store.specs.inner.Seen.{calls_seen, numbered, saved_seen}
use Rattle.sno_store.proofs.CallLaws.{innermost, length-calls}
use Rattle.sno_store.proofs.calls.Calls.close.Goals as goal

pub returns-clause-does : goal.returns-clause-does
returns-clause-does c = λ calls call has.
    let ss = c.self.inside.saved.items in
    let rest = c.pop.new.self.items in
    let count = c.in-Some.count in
    let items = c.in-Some.ensures.items in
    let values = c.args.values.now.items in
    let k = c.len.result - count in
    let last = innermost rest count ss (sym (ap sum items) ∙ c.self.invariant) in
    let held : k ≡ length ss - count = ap (λ n. n - count) (c.len.ensures ∙ c.self.inside.saved.ok.0) in
    let same = same_from_push _ _ _ _ (sym last.calls ∙ ap (λ ks. calls_seen ks ss) (sym items) ∙ c.self.view_is ∙ has) in
    let ends : saved_seen (drop k ss) ≡ call = ap (λ n. saved_seen (drop n ss)) held ∙ same.1 in (
      c.take_result-result.ensures.value ∙ ap (λ xs. function_value (Str []) (saved_seen (drop k xs)) values) c.deref.ensures.value
          ∙ ap (λ xs. function_value (Str []) xs values) ends,
      c.bring_back.ensures.values ∙ ap (λ xs. restored (numbered (drop k xs)) c.take_result-result.new.values.items) (sym c.deref.ensures.value)
          ∙ c.take_result-result.ensures.values ∙ ap (λ xs. restored (saved_seen (drop k xs)) values) c.deref.ensures.value
          ∙ ap (λ xs. restored xs values) ends,
      ap (calls_seen rest) (c.bring_back.ensures.saved ∙ ap (λ n. take n ss) held) ∙ same.0,
    )

pub returns-clause-few : goal.returns-clause-few
returns-clause-few c =
    let ss = c.self.inside.saved.items in
    let rest = c.pop.new.self.items in
    let fewer = ap length c.in-Some.ensures.items in
    let whole = ap length c.self.view_is in
    omega (arith, length-calls rest c.bring_back.new.saved.items, length-calls c.self.inside.counts.items ss, whole, fewer, length_push rest c.in-Some.count)
