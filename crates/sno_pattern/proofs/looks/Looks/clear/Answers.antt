use Rattle.std.proofs.Common.{subst}
use Rattle.sno_pattern.specs.Looks.{AreTrue, Found}
use Rattle.sno_pattern.proofs.LookLaws.{empty_true, still_before, still_earlier}
use Rattle.sno_pattern.proofs.looks.Looks.clear.Goals as goal

pub returns-else-self : goal.returns-else-self
returns-else-self c = λ nodes s.
    subst (λ (found : Found). AreTrue nodes s found) c.self.view_is (c.self.invariant.1.1 c.if-self.false nodes s)

pub invariant_of-self : goal.invariant_of-self
invariant_of-self c = (
  still_before _ _ c.next_turn-self-inside.ensures.runs,
  (
    still_earlier _ _ c.next_turn-self-inside.ensures.more,
    λ _. empty_true _ _ _ _ _ _ c.next_turn-self-inside.ensures.runs c.next_turn-self-inside.ensures.more c.clear.ensures c.clear-then-self.ensures c.clear-then-self-2.ensures,
  ),
)

pub returns-then-self : goal.returns-then-self
returns-then-self c = empty_true _ _ _ _ _ _ c.next_turn-self-inside.ensures.runs c.next_turn-self-inside.ensures.more c.clear.ensures c.clear-then-self.ensures c.clear-then-self-2.ensures
