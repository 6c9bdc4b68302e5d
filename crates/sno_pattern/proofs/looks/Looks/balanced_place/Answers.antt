use Rattle.std.proofs.Common.{◌∙◌, sym, arith}
use Rattle.sno_pattern.proofs.LookLaws.{no_place}
use Rattle.sno_pattern.proofs.looks.Looks.balanced_place.Goals as goal

pub returns-then-is_some-clause-looks : goal.returns-then-is_some-clause-looks
returns-then-is_some-clause-looks c = λ nodes are. c.balanced_end.ensures.looks nodes (c.places.invariant.looks nodes are)

pub places-preserved : goal.places-preserved
places-preserved c = record {
  behind = omega (arith, c.places.invariant.behind);
  before = omega (arith, c.places-test.true);
  none = no_place c.args.subject.now c.args.from c.places.place c.balanced_end.result c.places.invariant.none c.balanced_end.ensures.value
      (sym c.is_some.ensures ∙ c.if-is_some.false);
  balance = c.balanced_end.ensures.balance;
  looks = λ nodes are. c.balanced_end.ensures.looks nodes (c.places.invariant.looks nodes are);
}
