-- What is due at a point: a step, or what costs none.
use Rattle.std.proofs.Common.{◌≡◌, ℕ, ◌≤◌, List, ◌∷◌, length, refl, sym, subst}
use Rattle.sno_value.specs.declared.ids.PatId.{PatId}
use Rattle.sno_pattern.specs.Pattern.{Pattern, Leaf, Fence, Cut, Abort, Succeed, Arbno, Alt, Cat, Cond, Imm, Place, Defer}
use Rattle.sno_pattern.specs.Table.{Node, tree}
use Rattle.sno_match.specs.declared.goal.Goal.{Goal as Numbered}
use Rattle.sno_match.specs.declared.goal.Goal.TheVariants as N
use Rattle.sno_match.specs.declared.goal.Mark.{Mark}
use Rattle.sno_match.specs.declared.goal.Mark.TheVariants.{Enter, Next}
use Rattle.sno_match.specs.declared.steps.Due.TheVariants as D
use Rattle.sno_match.specs.Remaining.{MarkFits, HasNext}
use Rattle.sno_match.specs.inner.Plan.{IsDue, BacksIntoFence, BacksIntoCut}
use Rattle.sno_match.specs.inner.Move.{HasStep, IsDueAs}
use Rattle.sno_match.proofs.PlanLaws as plans
use Rattle.sno_match.proofs.CutLaws.{drop-cut}

module _ (nodes : List Node) (s : List ℕ) (c : ℕ) (inside : c ≤ length s) where
  -- the next alternative of a pattern is a step
  due_next : (id : PatId) (at : ℕ) (p : Pattern) → tree nodes id.0 ≡ p → HasNext p s c at → HasStep nodes (N.Match id) (Next at)
      → IsDue nodes s (N.Match id) c (Next at)
  due_next id at (Leaf a) t f h =
      let is_end = plans.ends_in nodes id.0 a s c at t (subst (λ (q : Pattern). HasNext q s c at) (sym t) f) in
      let number = plans.number_of nodes id.0 s c at is_end in
      plans.leaf_due nodes s id a c t inside number.0 at number.1
  due_next id at (Alt p q) t f h = plans.alt_due nodes s id c at p q t
  due_next id at (Arbno p) t f h = plans.arbno_due nodes s id c at p t
  due_next id at Succeed t f h = plans.succeed_due nodes s id c at t
  due_next id at Fence t f h = absurd (h.0 t)
  due_next id at (Cut p) t f h = absurd (h.1 p t)
  due_next id at (Cat p q) t f h = elim f [ ]
  due_next id at (Cond p target) t f h = elim f [ ]
  due_next id at (Imm p target) t f h = elim f [ ]
  due_next id at (Place target) t f h = elim f [ ]
  due_next id at Abort t f h = elim f [ ]
  due_next id at (Defer primitive expression) t f h = elim f [ ]

  -- where a step is due and none is left the limit is told
  pub due_step : (goal : Numbered) (rest : List Numbered) (mark : Mark) → MarkFits nodes s mark (goal ∷ rest) c → HasStep nodes goal mark
      → IsDue nodes s goal c mark
  due_step goal rest Enter f h = plans.due-enter nodes s goal c
  due_step (N.Match id) rest (Next at) f h = due_next id at (tree nodes id.0) refl f h
  due_step (N.CloseCond target from) rest (Next at) f h = elim f [ ]
  due_step (N.CloseImm target from) rest (Next at) f h = elim f [ ]
  due_step (N.CloseRepeat id from) rest (Next at) f h = elim f [ ]
  due_step (N.CloseCut m depth) rest (Next at) f h = elim f [ ]

  -- backing into a FENCE, and into a cut
  pub fence_is : (goal : Numbered) (mark : Mark) → IsDueAs nodes goal mark D.BackIntoFence → BacksIntoFence nodes s goal c mark
  fence_is goal mark h =
      subst (λ (g : Numbered). BacksIntoFence nodes s g c mark) (sym h.2)
      (subst (λ (m : Mark). BacksIntoFence nodes s (N.Match h.0) c m) (sym h.3) (plans.back_into_fence nodes s h.0 c h.1 h.4))

  pub cut_is : (goal : Numbered) (mark : Mark) → IsDueAs nodes goal mark D.BackIntoCut → BacksIntoCut nodes s goal c mark
  cut_is goal mark h =
      subst (λ (g : Numbered). BacksIntoCut nodes s g c mark) (sym h.3)
      (subst (λ (m : Mark). BacksIntoCut nodes s (N.Match h.0) c m) (sym h.4)
      (λ start rest pending below answers marked left. drop-cut s start nodes h.0 h.2 rest c h.1 pending below answers left h.5 marked))
