use Rattle.std.proofs.Common.{◌∷◌, [], ◌∙◌, sym, ap, subst, map, reverse, arith}
use Rattle.std.proofs.lemmas.List.{map-append, reverse-append, reverse-reverse, length-reverse, length_push}
use Rattle.std.proofs.lemmas.Iterator.Adapters.{YieldsList-from_rev_slice}
use Rattle.std.proofs.lemmas.Iterator.Consumers.{YieldsList-turn, YieldsList-end}
use Rattle.sno_match.specs.inner.Shared.{Extends}
use Rattle.sno_match.proofs.SharedLaws.{extends_none, extends_more}
use Rattle.sno_match.proofs.records.link.Goals as goal

pub push_reserved-requires : goal.push_reserved-requires
push_reserved-requires c =
    let turn = YieldsList-turn (YieldsList-from_rev_slice c.args.front.now cc) c.loop-goal.yielded _ c.loop-goal.yielded_by _ _ c.in-Some.goal
    c.in-Some.is c.next.ensures.steps in
    omega (arith, turn.0, length-reverse c.args.front.now)

pub loop-goal-init : goal.loop-goal-init
loop-goal-init c = record {
  extends = extends_none c.args.records.now.items c.args.behind c.requires.behind c.requires.falls;
  len = omega arith;
  capacity = omega arith;
}

pub loop-goal-preserved : goal.loop-goal-preserved
loop-goal-preserved c =
    let front = ap reverse (map-append (λ y. y.now) c.loop-goal.yielded (c.in-Some.goal ∷ [])) ∙ reverse-append (map (λ y. y.now) c.loop-goal.yielded)
    (c.in-Some.goal.now ∷ []) in
    let more = extends_more c.args.records.now.items c.loop-goal.records.items c.args.behind c.loop-goal.goals c.len-goals.result _ c.in-Some.goal.now
    c.loop-goal.invariant.extends (omega (arith, c.push_reserved.ensures.len, c.loop-goal.records.ok.0)) in
    record {
      extends = subst (λ gs. Extends c.args.records.now.items c.args.behind gs c.push_reserved.new.self.items c.len-goals.result) (sym front)
          (subst (λ rs. Extends c.args.records.now.items c.args.behind (c.in-Some.goal.now ∷ reverse (map (λ y. y.now) c.loop-goal.yielded)) rs
          c.len-goals.result) (sym c.push_reserved.ensures.items) more);
      len = omega (arith, length_push c.loop-goal.yielded c.in-Some.goal);
      capacity = omega arith;
    }

pub returns : goal.returns
returns c =
    let end = YieldsList-end (YieldsList-from_rev_slice c.args.front.now cc) c.loop-goal.yielded _ c.loop-goal.yielded_by _ _
    c.in-None.is c.next.ensures.steps in
    subst (λ gs. Extends c.args.records.now.items c.args.behind gs c.loop-goal.records.items c.loop-goal.goals)
    (ap reverse end.0 ∙ reverse-reverse c.args.front.now) c.loop-goal.invariant.extends
