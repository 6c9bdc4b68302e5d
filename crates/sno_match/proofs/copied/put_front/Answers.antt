use Rattle.std.proofs.Common.{◌++◌, ◌∷◌, [], ◌∙◌, sym, ap, append_assoc, arith}
use Rattle.std.proofs.lemmas.List.{map-append, length-reverse, length_push}
use Rattle.std.proofs.lemmas.Iterator.Adapters.{YieldsList-from_rev_slice}
use Rattle.std.proofs.lemmas.Iterator.Consumers.{YieldsList-turn, YieldsList-end}
use Rattle.sno_match.proofs.CopiedLaws.{front_put}
use Rattle.sno_match.proofs.copied.put_front.Goals as goal

pub push_reserved-requires : goal.push_reserved-requires
push_reserved-requires c =
    let turn = YieldsList-turn (YieldsList-from_rev_slice c.args.front.now cc) c.loop-goal.yielded _ c.loop-goal.yielded_by _ _ c.in-Some.goal
    c.in-Some.is c.next.ensures.steps in
    omega (arith, turn.0, length-reverse c.args.front.now, c.pop-first.ensures.len, c.pop-first.ensures.capacity)

pub loop-goal-preserved : goal.loop-goal-preserved
loop-goal-preserved c = record {
  items =
      c.push_reserved.ensures.items ∙ ap (λ xs. xs ++ c.in-Some.goal.now ∷ []) c.loop-goal.invariant.items ∙ append_assoc c.pop-first.new.self.items _
      (c.in-Some.goal.now ∷ []) ∙
      ap (λ xs. c.pop-first.new.self.items ++ xs) (sym (map-append (λ y. y.now) c.loop-goal.yielded (c.in-Some.goal ∷ [])));
  len = omega (arith, length_push c.loop-goal.yielded c.in-Some.goal);
  capacity = omega arith;
}

pub returns : goal.returns
returns c =
    let end = YieldsList-end (YieldsList-from_rev_slice c.args.front.now cc) c.loop-goal.yielded _ c.loop-goal.yielded_by _ _
    c.in-None.is c.next.ensures.steps in
    front_put c.args.goals.now.items c.pop-first.new.self.items _ _ c.args.goals.now.ok.0 c.pop-first.result c.loop-goal.goals.items c.args.front.now
    c.pop-first.ensures.items c.pop-first.ensures.cases
    (c.loop-goal.invariant.items ∙ ap (λ xs. c.pop-first.new.self.items ++ xs) end.0)
