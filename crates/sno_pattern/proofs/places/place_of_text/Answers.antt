use Rattle.std.proofs.Common.{◌==◌, slice_index, sym, ◌∙◌, arith}
use Rattle.sno_pattern.specs.Pattern.{Text}
use Rattle.sno_pattern.specs.inner.Places.{leaf_has_end, byte_passes}
use Rattle.sno_pattern.proofs.PlaceLaws.{byte_inside, one_byte, same_place, text_first, text_next, not_there}
use Rattle.sno_pattern.proofs.places.place_of_text.Goals as goal

pub returns-then-text-eq1 : goal.returns-then-text-eq1
returns-then-text-eq1 c =
    same_place (byte_passes (λ b. b == slice_index c.args.text.now 0) c.args.subject.now) (leaf_has_end (Text c.args.text.now) c.args.subject.now)
    c.args.from c.args.until c.place_of_byte-place.result (λ at. one_byte c.args.text.now c.args.subject.now at (omega (arith, c.if-text-eq1.true)))
    c.place_of_byte-place.ensures

pub places-init : goal.places-init
places-init c = record {
  behind = c.place_of_byte-place.ensures.behind;
  before = c.place_of_byte-place.ensures.before;
  none = text_first c.args.text.now c.args.subject.now (sym c.is_empty.ensures ∙ c.if-is_empty.false) c.args.until c.args.from c.place_of_byte-place.result
      c.place_of_byte-place.ensures;
  found = c.place_of_byte-place.ensures.found;
}

pub places-preserved : goal.places-preserved
places-preserved c = record {
  behind = omega arith;
  before = c.place_of_byte-place-in-places.ensures.before;
  none = text_next c.args.text.now c.args.subject.now (sym c.is_empty.ensures ∙ c.if-is_empty.false) c.args.until c.args.from c.places.place
      c.place_of_byte-place-in-places.result c.places.invariant.none
      (not_there c.args.text.now c.args.subject.now c.places.place (sym c.begins_with.ensures ∙ c.if-not-begins_with.true))
      c.place_of_byte-place-in-places.ensures;
  found = c.place_of_byte-place-in-places.ensures.found;
}

pub place_of_byte-place-requires-in-places-clause-start : goal.place_of_byte-place-requires-in-places-clause-start
place_of_byte-place-requires-in-places-clause-start c =
    let inside = byte_inside (λ b. b == slice_index c.args.text.now 0) c.args.subject.now c.places.place (c.places.invariant.found c.places-test.true) in
    omega (arith, inside)
