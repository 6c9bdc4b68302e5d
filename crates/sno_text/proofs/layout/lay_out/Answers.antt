use Rattle.std.proofs.Common.{rules, ◌≡◌, ◌∷◌, ◌++◌, ◌-◌, [], length, map, take, drop, ap, ◌∙◌}
use Rattle.sno_text.specs.inner.Layouts.{kind_of}
use Rattle.sno_text.specs.Lines.{moved, statements_of}
use Rattle.bstr.specs.Text.{without_terminator}
use Rattle.sno_text.proofs.Layouts.{Laid, laid_first, laid_line, laid_card, laid_joined, laid_extents}
use Rattle.sno_text.proofs.Order.{length_joined, extents_in_order}
use Rattle.sno_text.proofs.layout.lay_out.Goals.{in-Card+in_ok-push_statements, in_default}
use Rattle.sno_text.proofs.layout.lay_out.Goals as goal

pub loop-line-init : goal.loop-line-init
loop-line-init c =
    rw (
      c.new-joined.ensures.items,
      c.new-extents.ensures.items,
      c.into_iter-line-iterator.ensures.into_iter_gives,
      c.lines_with_terminator-line-items.ensures.value,
    ) (laid_first _)

pub slice_bounds-push_statements-count : goal.slice_bounds-push_statements-count
slice_bounds-push_statements-count c = rw c.as_slice.ensures.value (c.loop-line.invariant.order)

pub slice_bounds-push_statements-count-2 : goal.slice_bounds-push_statements-count-2
slice_bounds-push_statements-count-2 c = rw c.as_slice-2.ensures.value (c.loop-line.invariant.order)

pub loop-line-preserved : goal.loop-line-preserved
loop-line-preserved c =
    let rest : c.loop-line.line-iterator ≡ c.in-Some.line.now ∷ c.next.new.self = search rules in
    let laid : Laid c.args.text.now c.loop-line.begun c.loop-line.start c.loop-line.joined.items c.loop-line.extents.items
    (c.in-Some.line.now ∷ c.next.new.self) = rw rest at c.loop-line.invariant in
    let kind : c.line_kind-kind.result ≡ kind_of c.loop-line.begun (without_terminator c.in-Some.line.now) =
    rw (← c.content.ensures) c.line_kind-kind.ensures in
    elim c.match-kind.branch [
      | in-Card+in_ok-push_statements w ↦
          let len : c.match-kind.start ≡ length c.loop-line.joined.items = w.start-is ∙ search rules in
          let more : w.push_statements.new.extents.items ≡ c.loop-line.extents.items ++ map (moved c.loop-line.start)
          (statements_of (take (length c.loop-line.joined.items - c.loop-line.start) (drop c.loop-line.start c.loop-line.joined.items))) =
          rw w.as_slice.ensures.value at w.in_ok-push_statements.ensures in
          rw (w.extents-is, w.begun-is, len) (laid_card _ _ _ _ _ _ _ _ _ _ kind w.in-Card.is c.in_ok-push_line.ensures more laid)
      | in_default w ↦ rw (w.extents-is, w.begun-is, w.start-is) (laid_line _ _ _ _ _ _ _ _ _ kind w.in_default.not-Card c.in_ok-push_line.ensures laid)
    ]

pub returns-clause-joined : goal.returns-clause-joined
returns-clause-joined c = let rest : c.loop-line.line-iterator ≡ [] = search rules in laid_joined _ _ _ _ _ _ rest c.loop-line.invariant

pub returns-clause-length : goal.returns-clause-length
returns-clause-length c =
    let rest : c.loop-line.line-iterator ≡ [] = search rules in
    ap length (laid_joined _ _ _ _ _ _ rest c.loop-line.invariant) ∙ length_joined _

pub returns-clause-extents : goal.returns-clause-extents
returns-clause-extents c =
    let rest : c.loop-line.line-iterator ≡ [] = search rules in
    laid_extents _ _ _ _ _ _ _ rest (rw c.as_slice-2.ensures.value at c.in_ok-push_statements-2.ensures) c.loop-line.invariant

pub returns-clause-order : goal.returns-clause-order
returns-clause-order c =
    let rest : c.loop-line.line-iterator ≡ [] = search rules in
    rw (laid_extents c.args.text.now _ _ _ _ _ _ rest (rw c.as_slice-2.ensures.value at c.in_ok-push_statements-2.ensures) c.loop-line.invariant)
    (extents_in_order c.args.text.now)
