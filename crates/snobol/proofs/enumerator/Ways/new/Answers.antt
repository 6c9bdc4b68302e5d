use Rattle.std.proofs.Common.{rules, ◌≡◌, ◌≤◌, ◌∙◌, ℕ, List, [], None, false, length, ap, refl, sym, subst, arith}
use Rattle.sno_expression.proofs.Ordered.{table_ordered}
use Rattle.sno_runtime.specs.Runtime.{Runtime, world}
use Rattle.sno_runtime.specs.World.{Keywords, listing_keywords}
use Rattle.sno_runtime.specs.inner.Runtime.{new_runtime}
use Rattle.sno_statement.specs.Running.{devices}
use Rattle.snobol.specs.Listing.{lists}
use Rattle.snobol.specs.inner.Running.{no_input}
use Rattle.snobol.proofs.EnumerationLaws.{is_read, new_closed, new_runs}
use Rattle.snobol.proofs.enumerator.Ways.new.Goals as goal

pub invariant_of-result : goal.invariant_of-result
invariant_of-result c = λ going.
    let start : c.in-Ok-new.runtime ≡ new_runtime (listing_keywords c.args.anchored 1_000_000 c.args.limit) =
    c.in-Ok-new.ensures ∙ ap (λ (keywords : Keywords). new_runtime keywords) c.for_listing-keywords.ensures in
    let items : c.in-Ok-to_vec.subject.items ≡ c.args.subject.now = search rules in
    let fits : length c.args.subject.now ≤ 1_000_000 = omega arith in
    record {
      ordered = table_ordered c.in-Ok.read.0 c.in-Ok.ensures.table;
      short = subst (λ (bytes : List ℕ). length bytes ≤ 1_000_000) (sym items) fits;
      closed = new_closed c.in-Ok-new.runtime (listing_keywords c.args.anchored 1_000_000 c.args.limit) start;
      ready = (new_runs c.in-Ok-new.runtime (listing_keywords c.args.anchored 1_000_000 c.args.limit)
          (devices (no_input c.new-2.result.told_end) (record { taken = None; broken = false })) start refl refl).reads;
      at = tt;
    }

pub returns-clause-begun : goal.returns-clause-begun
returns-clause-begun c =
    let start : c.in-Ok-new.runtime ≡ new_runtime (listing_keywords c.args.anchored 1_000_000 c.args.limit) =
    c.in-Ok-new.ensures ∙ ap (λ (keywords : Keywords). new_runtime keywords) c.for_listing-keywords.ensures in
    let items : c.in-Ok-to_vec.subject.items ≡ c.args.subject.now = search rules in
    let lists_in = lists c.in-Ok.read.0 c.in-Ok.read.1 in
    record {
      read = is_read _ _ _ c.in-Ok.ensures.accepted c.in-Ok.ensures.source c.in-Ok.ensures.number c.in-Ok.ensures.table c.in-Ok.ensures.statements;
      subject_is = items;
      anchored_is = refl;
      limit_is = refl;
      unsearched = refl;
      going = refl;
      whole = ap (λ (bytes : List ℕ). lists_in bytes c.args.anchored c.args.limit (world c.in-Ok-new.runtime [])) items
          ∙ ap (λ (s : Runtime). lists_in c.args.subject.now c.args.anchored c.args.limit (world s [])) start;
    }
