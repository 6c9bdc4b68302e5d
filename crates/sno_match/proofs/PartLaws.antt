-- Steps that tell nothing, one after another.
use Rattle.std.proofs.Common.{◌≡◌, ℕ, ◌+◌, ◌-◌, ◌≤◌, ◌<◌, List, [], ◌∷◌, length, None, refl, sym, ◌∙◌, ap, subst, arith}
use Rattle.sno_value.specs.declared.ids.PatId.{PatId}
use Rattle.sno_pattern.specs.Table.{Node, tree}
use Rattle.sno_match.specs.declared.event.Pending.{Pending}
use Rattle.sno_match.specs.declared.goal.Goal.{Goal as Numbered}
use Rattle.sno_match.specs.declared.goal.Goal.TheVariants as N
use Rattle.sno_match.specs.declared.goal.Mark.{Mark}
use Rattle.sno_match.specs.declared.goal.Mark.TheVariants.{Enter, Next}
use Rattle.sno_match.specs.declared.goal.Top.{Top}
use Rattle.sno_match.specs.declared.goal.Top.TheVariants as T
use Rattle.sno_match.specs.Point.{Point, below, replaced}
use Rattle.sno_match.specs.Top.{IsTop}
use Rattle.sno_match.specs.inner.Plan.{point_at}
use Rattle.sno_match.specs.Remaining.{goals_of, remaining, resume, IsStack, MarkFits}
use Rattle.sno_match.specs.inner.Remaining.{HasPoint}
use Rattle.sno_match.specs.Scopes.{HasCuts}
use Rattle.sno_match.specs.Silent.{LeadsOn}
use Rattle.sno_match.specs.inner.Move.{Makes, EnteredGivesWay, Steps}
use Rattle.sno_match.proofs.CutMoves.{cuts-below, cuts-later}
use Rattle.sno_match.specs.inner.Starts.{FailsAt}
use Rattle.sno_match.proofs.ReadingLaws.{emit-none, resume-exhausted}
use Rattle.sno_match.proofs.MoveLaws as laws

-- a stack at whose top something is read has a point
pub has_point : (points : List Point) (top : Top) → IsTop points top → (top ≡ T.Empty → ⊥) → HasPoint points
has_point points T.Empty h none = absurd (none refl)
has_point points (T.Complete cursor mark) h none = subst HasPoint (sym h.2) tt
has_point points (T.Open goal cursor mark) h none = subst HasPoint (sym h.3) tt

-- what a mark asks is asked of the first goal alone
pub fits_alone : (nodes : List Node) (s : List ℕ) (c : ℕ) (mark : Mark) (goal : Numbered) (rest : List Numbered) → MarkFits nodes s mark (goal ∷ rest) c
    → MarkFits nodes s mark (goal ∷ []) c
fits_alone nodes s c Enter goal rest h = tt
fits_alone nodes s c (Next at) (N.Match id) rest h = h
fits_alone nodes s c (Next at) (N.CloseCond target from) rest h = h
fits_alone nodes s c (Next at) (N.CloseImm target from) rest h = h
fits_alone nodes s c (Next at) (N.CloseRepeat id from) rest h = h
fits_alone nodes s c (Next at) (N.CloseCut left depth) rest h = h

module _ (nodes : List Node) (s : List ℕ) (limit : ℕ) where
  pub no_step : (points : List Point) (steps : ℕ) → steps ≤ limit → IsStack nodes s points → HasCuts nodes (limit - steps) points
      → LeadsOn nodes s limit points steps points steps
  no_step points steps within st cuts = record {
    steps_in = within;
    paid = omega arith;
    grows = omega arith;
    falls = omega arith;
    stack = st;
    cuts = cuts;
    leads = λ start answers. refl;
  }

  module _ (old mid new : List Point) (steps0 steps1 steps : ℕ) where
    pub steps_behind : LeadsOn nodes s limit old steps0 mid steps1 → LeadsOn nodes s limit mid steps1 new steps → LeadsOn nodes s limit old steps0 new steps
    steps_behind first second = record {
      steps_in = second.steps_in;
      paid = omega (arith, first.paid, second.paid);
      grows = omega (arith, first.grows, second.grows);
      falls = omega (arith, first.falls, second.falls);
      stack = second.stack;
      cuts = second.cuts;
      leads = λ start answers. first.leads start answers ∙ second.leads start answers;
    }

-- one step that tells nothing
pub step_leads : (nodes : List Node) (s : List ℕ) (old new : List Point) (goal : Numbered) (goals : List Numbered) (c : ℕ) (pending : List Pending)
    (mark : Mark) (rest : List Point) → old ≡ point_at goal goals c pending mark ∷ rest → (limit steps : ℕ) → steps < limit → IsStack nodes s old
    → HasCuts nodes (limit - steps) old → Steps nodes s goal c mark (limit - (steps + 1)) old None new → LeadsOn nodes s limit old steps new (steps + 1)
step_leads nodes s old new goal goals c pending mark rest is limit steps due st cuts step =
    let left = limit - (steps + 1) in
    let made = λ (start : ℕ). laws.made_at nodes s old goal goals c pending mark rest is start limit steps [] due left refl cuts step.plan None new
    step.is_plan step.scopes step.carried st.marked in
    let one = made 0 in
    record {
      steps_in = one.steps_in;
      paid = omega arith;
      grows = one.grows;
      falls = let less = one.falls refl in omega (arith, less);
      stack = laws.stack_at nodes s old goal goals c pending mark rest is left step.plan None new st step.is_plan step.carried;
      cuts = laws.cuts_at nodes s old goal goals c pending mark rest is 0 limit steps [] due left refl cuts step.plan None new step.is_plan step.scopes
          step.carried;
      leads = λ start answers. (made start).leads answers ∙ emit-none (remaining nodes s start new answers left);
    }

-- a choice that is entered gives way to what is left of it
passed_here : (nodes : List Node) (s : List ℕ) (limit steps cost : ℕ) (goal : Numbered) (goals : List Numbered) (c : ℕ) (pending : List Pending) (mark : Mark)
    (rest : List Point) (id : PatId) → id.0 < length nodes → EnteredGivesWay nodes s goal mark id cost c → steps + cost ≤ limit
    → IsStack nodes s (point_at goal goals c pending mark ∷ rest) → HasCuts nodes (limit - steps) (point_at goal goals c pending mark ∷ rest)
    → LeadsOn nodes s limit (point_at goal goals c pending mark ∷ rest) steps (point_at (N.Match id) goals c pending Enter ∷ rest) (steps + cost)
passed_here nodes s limit steps cost (N.Match first) goals c pending Enter rest id known way room st cuts = record {
  steps_in = room;
  paid = omega arith;
  grows = omega arith;
  falls = omega (arith, room);
  stack = record { fit = (record { known = (known, st.fit.0.known.1); inside = st.fit.0.inside; next = tt }, st.fit.1); marked = st.marked };
  cuts = cuts-later nodes (limit - (steps + cost)) (limit - steps) (point_at (N.Match id) goals c pending Enter ∷ rest) (omega arith)
      (record { scoped = cuts.scoped; rising = cuts.rising });
  leads = λ start answers.
      ap (resume nodes s start rest)
      (way.gives_way start (goals_of nodes goals) pending answers (limit - steps) (limit - (steps + cost)) (omega (arith, room)));
}
passed_here nodes s limit steps cost (N.Match first) goals c pending (Next at) rest id known way room st cuts = elim way [ ]
passed_here nodes s limit steps cost (N.CloseCond target from) goals c pending mark rest id known way room st cuts = elim way [ ]
passed_here nodes s limit steps cost (N.CloseImm target from) goals c pending mark rest id known way room st cuts = elim way [ ]
passed_here nodes s limit steps cost (N.CloseRepeat other from) goals c pending mark rest id known way room st cuts = elim way [ ]
passed_here nodes s limit steps cost (N.CloseCut m depth) goals c pending mark rest id known way room st cuts = elim way [ ]

pub sides_passed : (nodes : List Node) (s : List ℕ) (limit steps cost : ℕ) (old new : List Point) (goal : Numbered) (c : ℕ) (mark : Mark)
    → IsTop old (T.Open goal c mark) → (id : PatId) → id.0 < length nodes → EnteredGivesWay nodes s goal mark id cost c → steps + cost ≤ limit
    → new ≡ replaced (N.Match id ∷ []) c old → IsStack nodes s old → HasCuts nodes (limit - steps) old
    → LeadsOn nodes s limit old steps new (steps + cost)
sides_passed nodes s limit steps cost old new goal c mark top id known way room is st cuts =
    let made : new ≡ point_at (N.Match id) top.0 c top.1 Enter ∷ top.2 = is ∙ ap (replaced (N.Match id ∷ []) c) top.3 in
    subst (λ (ps : List Point). LeadsOn nodes s limit ps steps new (steps + cost)) (sym top.3)
    (subst (λ (ps : List Point). LeadsOn nodes s limit (point_at goal top.0 c top.1 mark ∷ top.2) steps ps (steps + cost)) (sym made)
    (passed_here nodes s limit steps cost goal top.0 c top.1 mark top.2 id known way room (subst (IsStack nodes s) top.3 st)
    (subst (HasCuts nodes (limit - steps)) top.3 cuts)))

-- a pattern that is entered is searched in vain, and its point is dropped
vain_here : (nodes : List Node) (s : List ℕ) (limit steps cost : ℕ) (id : PatId) (goals : List Numbered) (c : ℕ) (pending : List Pending)
    (rest : List Point) → FailsAt (tree nodes id.0) s cost c → steps + cost ≤ limit → IsStack nodes s (point_at (N.Match id) goals c pending Enter ∷ rest)
    → HasCuts nodes (limit - steps) (point_at (N.Match id) goals c pending Enter ∷ rest)
    → LeadsOn nodes s limit (point_at (N.Match id) goals c pending Enter ∷ rest) steps rest (steps + cost)
vain_here nodes s limit steps cost id goals c pending rest vain room st cuts =
    let old = point_at (N.Match id) goals c pending Enter ∷ rest in
    record {
      steps_in = room;
      paid = omega arith;
      grows = omega arith;
      falls = omega (arith, room);
      stack = laws.below-kept nodes s old st.fit st.marked;
      cuts = cuts-later nodes (limit - (steps + cost)) (limit - steps) rest (omega arith) (cuts-below nodes (limit - steps) old cuts);
      leads = λ start answers.
          ap (resume nodes s start rest)
          (vain.fails start (goals_of nodes goals) pending answers (limit - steps) (limit - (steps + cost)) (omega (arith, room)))
          ∙ resume-exhausted nodes s start rest answers (limit - (steps + cost)) st.marked;
    }

pub vain_passed : (nodes : List Node) (s : List ℕ) (limit steps cost : ℕ) (old new : List Point) (id : PatId) (c : ℕ)
    → IsTop old (T.Open (N.Match id) c Enter) → FailsAt (tree nodes id.0) s cost c → steps + cost ≤ limit → new ≡ below old → IsStack nodes s old
    → HasCuts nodes (limit - steps) old → LeadsOn nodes s limit old steps new (steps + cost)
vain_passed nodes s limit steps cost old new id c top vain room is st cuts =
    let under : new ≡ top.2 = is ∙ ap below top.3 in
    subst (λ (ps : List Point). LeadsOn nodes s limit ps steps new (steps + cost)) (sym top.3)
    (subst (λ (ps : List Point). LeadsOn nodes s limit (point_at (N.Match id) top.0 c top.1 Enter ∷ top.2) steps ps (steps + cost)) (sym under)
    (vain_here nodes s limit steps cost id top.0 c top.1 top.2 vain room (subst (IsStack nodes s) top.3 st)
    (subst (HasCuts nodes (limit - steps)) top.3 cuts)))

-- steps that tell nothing are a move
pub leads_makes : (nodes : List Node) (s : List ℕ) (limit : ℕ) (old new : List Point) (steps0 steps start : ℕ) (was : List Pending) → steps0 < steps
    → LeadsOn nodes s limit old steps0 new steps → Makes nodes s start limit old steps0 was None new steps was
leads_makes nodes s limit old new steps0 steps start was more on = record {
  steps_in = on.steps_in;
  paid = omega (arith, on.paid);
  grows = on.grows;
  falls = λ none. omega (arith, on.falls, more);
  more = λ e. cc;
  asked = tt;
  pending = refl;
  leads = λ answers. on.leads start answers ∙ sym (emit-none (remaining nodes s start new answers (limit - steps)));
}
