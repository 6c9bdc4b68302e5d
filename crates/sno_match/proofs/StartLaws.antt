-- A start that fails at once is passed.
use Rattle.std.proofs.Common.{◌≡◌, ℕ, zero, suc, ◌+◌, ◌*◌, ◌-◌, ◌<◌, ◌≤◌, Bool, false, true, List, [], ◌∷◌, Option, None, Some, length, map, slice_get, refl}
use Rattle.std.proofs.Common.{sym, ◌∙◌, ap, subst, arith}
use Rattle.std.proofs.Math.Nat.{suc-mul}
use Rattle.std.specs.Option.{is_some}
use Rattle.sno_value.specs.declared.value.Name.{Name}
use Rattle.sno_pattern.specs.Pattern.{Pattern, Primitive, Leaf, Alt, Cat, Cond, Imm}
use Rattle.sno_pattern.specs.Ends.{ends, count_from}
use Rattle.sno_pattern.specs.Shape.{end_of, IsPrimitive}
use Rattle.sno_pattern.specs.Places.{has_end, stands_at, BeginsWith}
use Rattle.sno_match.specs.Search.{Match, CloseCond, CloseImm, Exhausted, Gives, further, search}
use Rattle.sno_match.specs.inner.Starts.{searches_behind, FailsAt, GivesWay, FailsWith, FailsOutside, Passes}
use Rattle.sno_match.proofs.SearchLaws.{search-step}
use Rattle.sno_match.proofs.ReadingLaws.{emit-none, tries-none}

-- a primitive without an end
leaf_fails : (s : List ℕ) (a : Primitive) (c : ℕ) → slice_get (ends a s c) 0 ≡ None → FailsAt (Leaf a) s 1 c
leaf_fails s a c none = record {
  fails = λ start rest pending answers due left e.
      let is : due ≡ suc left = omega (arith, e) in
      ap (λ n. search s start (Match (Leaf a) ∷ rest) c pending answers n) is ∙
      search-step s start (Match (Leaf a)) rest c pending answers left ∙
      tries-none (λ e. search s start rest e pending) (ends a s c) answers left none;
}

-- a concatenation that begins with such a pattern
cat_fails : (p q : Pattern) (s : List ℕ) (price c : ℕ) → FailsAt p s price c → FailsAt (Cat p q) s (price + 1) c
cat_fails p q s price c before = record {
  fails = λ start rest pending answers due left e.
      let is : due ≡ suc (left + price) = omega (arith, e) in
      ap (λ n. search s start (Match (Cat p q) ∷ rest) c pending answers n) is ∙
      search-step s start (Match (Cat p q)) rest c pending answers (left + price) ∙
      before.fails start (Match q ∷ rest) pending answers (left + price) left refl;
}

-- a part that is assigned
cond_fails : (p : Pattern) (target : Name) (s : List ℕ) (price c : ℕ) → FailsAt p s price c → FailsAt (Cond p target) s (price + 1) c
cond_fails p target s price c before = record {
  fails = λ start rest pending answers due left e.
      let is : due ≡ suc (left + price) = omega (arith, e) in
      ap (λ n. search s start (Match (Cond p target) ∷ rest) c pending answers n) is ∙
      search-step s start (Match (Cond p target)) rest c pending answers (left + price) ∙
      before.fails start (CloseCond target c ∷ rest) pending answers (left + price) left refl;
}

imm_fails : (p : Pattern) (target : Name) (s : List ℕ) (price c : ℕ) → FailsAt p s price c → FailsAt (Imm p target) s (price + 1) c
imm_fails p target s price c before = record {
  fails = λ start rest pending answers due left e.
      let is : due ≡ suc (left + price) = omega (arith, e) in
      ap (λ n. search s start (Match (Imm p target) ∷ rest) c pending answers n) is ∙
      search-step s start (Match (Imm p target)) rest c pending answers (left + price) ∙
      before.fails start (CloseImm target c ∷ rest) pending answers (left + price) left refl;
}

-- a choice of two such patterns
alt_fails : (p q : Pattern) (s : List ℕ) (before behind c : ℕ) → FailsAt p s before c → FailsAt q s behind c → FailsAt (Alt p q) s (before + behind + 2) c
alt_fails p q s before behind c first second = record {
  fails = λ start rest pending answers due left e.
      let is : due ≡ suc (suc (left + behind) + before) = omega (arith, e) in
      ap (λ n. search s start (Match (Alt p q) ∷ rest) c pending answers n) is ∙
      search-step s start (Match (Alt p q)) rest c pending answers (suc (left + behind) + before) ∙
      ap (λ r. further r (search s start (Match q ∷ rest) c pending ∷ []))
      (first.fails start rest pending answers (suc (left + behind) + before) (suc (left + behind)) refl) ∙
      emit-none (search s start (Match q ∷ rest) c pending answers (left + behind)) ∙
      second.fails start rest pending answers (left + behind) left refl;
}

pub same_fails : (p : Pattern) → FailsWith p p 0
same_fails p = record {
  vain = λ s price c h. let same : price ≡ price + 0 = omega arith in subst (λ n. FailsAt p s n c) same h;
}

-- one goal more
pub more_fails : (whole p first : Pattern) (more : ℕ) → FailsWith whole p more → FailsWith p first 1 → FailsWith whole first (more + 1)
more_fails whole p first more before one = record {
  vain = λ s price c h.
      let same : price + 1 + more ≡ price + (more + 1) = omega arith in
      subst (λ n. FailsAt whole s n c) same (before.vain s (price + 1) c (one.vain s price c h));
}

pub first_fails : (p first second : Pattern) → p ≡ Cat first second → FailsWith p first 1
first_fails p first second is = record {
  vain = λ s price c h. subst (λ q. FailsAt q s (price + 1) c) (sym is) (cat_fails first second s price c h);
}

pub cond_body_fails : (p body : Pattern) (target : Name) → p ≡ Cond body target → FailsWith p body 1
cond_body_fails p body target is = record {
  vain = λ s price c h. subst (λ q. FailsAt q s (price + 1) c) (sym is) (cond_fails body target s price c h);
}

pub imm_body_fails : (p body : Pattern) (target : Name) → p ≡ Imm body target → FailsWith p body 1
imm_body_fails p body target is = record {
  vain = λ s price c h. subst (λ q. FailsAt q s (price + 1) c) (sym is) (imm_fails body target s price c h);
}

pub passes_none : (anchored : Bool) (p : Pattern) (s : List ℕ) (start : ℕ) → Passes anchored p s start start 0
passes_none anchored p s start = record {
  passes = λ answers due left e.
      let is : due ≡ left = omega (arith, e) in
      ap (λ n. further (Gives [] answers n Exhausted) (searches_behind anchored p s start)) is;
}

module _ (p : Pattern) (s : List ℕ) (at : ℕ) where
  -- the next start
  pub behind_some : (anchored : Bool) → anchored ≡ false → at < length s →
      searches_behind anchored p s at ≡ search s (at + 1) (Match p ∷ []) (at + 1) [] ∷ searches_behind anchored p s (at + 1)
  behind_some true h room = absurd (cc)
  behind_some false h room =
      let e : length s - at ≡ suc (length s - (at + 1)) = omega (arith, room) in
      ap (λ n. map (λ b. search s b (Match p ∷ []) b []) (count_from (at + 1) n)) e

  pub passes_more : (anchored : Bool) (from price cost : ℕ) → Passes anchored p s from at price → anchored ≡ false → at < length s → FailsAt p s cost (at + 1)
      → Passes anchored p s from (at + 1) (price + (cost + 1))
  passes_more anchored from price cost before floats room vain = record {
    passes = λ answers due left e.
        before.passes answers due (suc (left + cost)) (omega (arith, e)) ∙
        ap (further (Gives [] answers (suc (left + cost)) Exhausted)) (behind_some anchored floats room) ∙
        ap (λ r. further r (searches_behind anchored p s (at + 1))) (emit-none (search s (at + 1) (Match p ∷ []) (at + 1) [] answers (left + cost))
        ∙ vain.fails (at + 1) [] [] answers (left + cost) left refl);
  }

-- the pattern is searched in vain from the k next starts
vain_pass : (p : Pattern) (s : List ℕ) (from cost : ℕ) (k : ℕ) → from + k ≤ length s → ((c : ℕ) → from + 1 ≤ c → c < from + 1 + k → FailsAt p s cost c)
    → Passes false p s from (from + k) (k * (cost + 1))
vain_pass p s from cost zero room vain =
    let same : from ≡ from + 0 = omega arith in
    let free : 0 * (cost + 1) ≡ 0 = omega arith in
    rw free (subst (λ at. Passes false p s from at 0) same (passes_none false p s from))
vain_pass p s from cost (suc k) room vain =
    let before : Passes false p s from (from + k) (k * (cost + 1)) =
    vain_pass p s from cost k (omega (arith, room)) (λ c low high. vain c low (omega (arith, high))) in
    let here : FailsAt p s cost (from + k + 1) = vain (from + k + 1) (omega arith) (omega arith) in
    let next : Passes false p s from (from + k + 1) (k * (cost + 1) + (cost + 1)) =
    passes_more p s (from + k) false from (k * (cost + 1)) cost before refl (omega (arith, room)) here in
    let place : from + k + 1 ≡ from + suc k = omega arith in
    rw (suc-mul k (cost + 1)) (subst (λ at. Passes false p s from at (k * (cost + 1) + (cost + 1))) place next)

no_end : (end : Option ℕ) → is_some end ≡ false → end ≡ None
no_end None h = refl
no_end (Some e) h = absurd (cc)

-- the pattern begins with a primitive that has no end
pub head_fails : (p head : Pattern) (s : List ℕ) (above c : ℕ) → IsPrimitive head → FailsWith p head above → has_end head s c ≡ false → FailsAt p s (1 + above) c
head_fails p head s above c leaf with_head none =
    let end : end_of head s c 0 ≡ None = no_end (end_of head s c 0) none in
    let vain : FailsAt (Leaf leaf.0) s 1 c = leaf_fails s leaf.0 c (subst (λ q. end_of q s c 0 ≡ None) leaf.1 end) in
    with_head.vain s 1 c (subst (λ q. FailsAt q s 1 c) (sym leaf.1) vain)

pub heads_pass : (p head : Pattern) (s : List ℕ) (from above : ℕ) → IsPrimitive head → FailsWith p head above → (k at price : ℕ) → from + k ≤ length s →
    ((c : ℕ) → from + 1 ≤ c → c < from + 1 + k → has_end head s c ≡ false) → at ≡ from + k → price ≡ k * (above + 2) → Passes false p s from at price
heads_pass p head s from above leaf with_head k at price room none to paid =
    let same : 1 + above + 1 ≡ above + 2 = omega arith in
    rw (to, paid)
    (subst (λ each. Passes false p s from (from + k) (k * each)) same
    (vain_pass p s from (1 + above) k room (λ c low high. head_fails p head s above c leaf with_head (none c low high))))

-- the pattern begins with bytes of a set, and none of them stands at the k next starts
pub choices_pass : (p : Pattern) (set s : List ℕ) (from cost : ℕ) → FailsOutside p set cost → (k at price : ℕ) → from + k ≤ length s →
    ((c : ℕ) → from + 1 ≤ c → c < from + 1 + k → stands_at set s c ≡ false) → at ≡ from + k → price ≡ k * (cost + 1) → Passes false p s from at price
choices_pass p set s from cost fails k at price room none to paid =
    rw (to, paid) (vain_pass p s from cost k room (λ c low high. fails.outside s c (none c low high)))

-- a primitive without an end at a cursor, and a choice of which each side fails there
pub primitive_vain : (p : Pattern) (s : List ℕ) (c : ℕ) → IsPrimitive p → has_end p s c ≡ false → FailsAt p s 1 c
primitive_vain p s c leaf none = head_fails p p s 0 c leaf (same_fails p) none

pub choice_vain : (p first second : Pattern) (s : List ℕ) (before behind c : ℕ) → p ≡ Alt first second
    → FailsAt first s before c → FailsAt second s behind c → FailsAt p s (before + behind + 2) c
choice_vain p first second s before behind c is one other =
    subst (λ q. FailsAt q s (before + behind + 2) c) (sym is) (alt_fails first second s before behind c one other)

-- a pattern that begins with bytes of a set fails where none of them stands
pub begins_outside : (set : List ℕ) (p : Pattern) (steps : ℕ) → BeginsWith set steps p → FailsOutside p set steps
begins_outside set (Leaf a) steps h = record {
  outside = λ s c none. subst (λ n. FailsAt (Leaf a) s n c) (sym h.0) (primitive_vain (Leaf a) s c (a, refl) (h.1.fails s c none));
}
begins_outside set (Alt p q) steps h =
    let first = begins_outside set p h.0 h.3 in
    let second = begins_outside set q h.1 h.4 in
    record {
      outside = λ s c none. subst (λ n. FailsAt (Alt p q) s n c) (sym h.2) (alt_fails p q s h.0 h.1 c (first.outside s c none) (second.outside s c none));
    }
begins_outside set (Cat p q) steps h =
    let part = begins_outside set p h.0 h.2 in
    record { outside = λ s c none. subst (λ n. FailsAt (Cat p q) s n c) (sym h.1) (cat_fails p q s h.0 c (part.outside s c none)) }
begins_outside set (Cond p target) steps h =
    let part = begins_outside set p h.0 h.2 in
    record { outside = λ s c none. subst (λ n. FailsAt (Cond p target) s n c) (sym h.1) (cond_fails p target s h.0 c (part.outside s c none)) }
begins_outside set (Imm p target) steps h =
    let part = begins_outside set p h.0 h.2 in
    record { outside = λ s c none. subst (λ n. FailsAt (Imm p target) s n c) (sym h.1) (imm_fails p target s h.0 c (part.outside s c none)) }
begins_outside set p steps h = absurd h

-- goals above it
pub outside_under : (p head : Pattern) (set : List ℕ) (steps above : ℕ) → FailsWith p head above → FailsOutside head set steps
    → FailsOutside p set (steps + above)
outside_under p head set steps above with_head fails = record { outside = λ s c none. with_head.vain s steps c (fails.outside s c none) }

-- a choice gives way to what is left of it behind the sides that fail
pub way_same : (p : Pattern) (s : List ℕ) (c : ℕ) → GivesWay p p s 0 c
way_same p s c = record {
  gives_way = λ start rest pending answers due left e.
      let is : due ≡ left = omega (arith, e) in
      ap (λ n. search s start (Match p ∷ rest) c pending answers n) is;
}

pub alt_gives_way : (p q : Pattern) (s : List ℕ) (before c : ℕ) → FailsAt p s before c → GivesWay (Alt p q) q s (before + 2) c
alt_gives_way p q s before c first = record {
  gives_way = λ start rest pending answers due left e.
      let is : due ≡ suc (suc left + before) = omega (arith, e) in
      ap (λ n. search s start (Match (Alt p q) ∷ rest) c pending answers n) is ∙
      search-step s start (Match (Alt p q)) rest c pending answers (suc left + before) ∙
      ap (λ r. further r (search s start (Match q ∷ rest) c pending ∷ []))
      (first.fails start rest pending answers (suc left + before) (suc left) refl) ∙
      emit-none (search s start (Match q ∷ rest) c pending answers left);
}

pub way_more : (whole p first second : Pattern) (s : List ℕ) (before cost c : ℕ) → GivesWay whole p s before c → p ≡ Alt first second
    → FailsAt first s cost c → GivesWay whole second s (before + (cost + 2)) c
way_more whole p first second s before cost c way is vain = record {
  gives_way = λ start rest pending answers due left e.
      let side = subst (λ q. GivesWay q second s (cost + 2) c) (sym is) (alt_gives_way first second s cost c vain) in
      way.gives_way start rest pending answers due (left + (cost + 2)) (omega (arith, e)) ∙
      side.gives_way start rest pending answers (left + (cost + 2)) left refl;
}

pub way_fails : (p q : Pattern) (s : List ℕ) (before last c : ℕ) → GivesWay p q s before c → FailsAt q s last c → FailsAt p s (before + last) c
way_fails p q s before last c way vain = record {
  fails = λ start rest pending answers due left e.
      way.gives_way start rest pending answers due (left + last) (omega (arith, e)) ∙ vain.fails start rest pending answers (left + last) left refl;
}

-- where it isn't anchored
pub passes_floating : (anchored : Bool) (p : Pattern) (s : List ℕ) (from to price : ℕ) → anchored ≡ false → Passes false p s from to price
    → Passes anchored p s from to price
passes_floating anchored p s from to price floats passes = subst (λ a. Passes a p s from to price) (sym floats) passes

-- starts are passed one after another
passes_join : (p : Pattern) (s : List ℕ) (from mid to before behind : ℕ) → Passes false p s from mid before → Passes false p s mid to behind
    → Passes false p s from to (before + behind)
passes_join p s from mid to before behind first second = record {
  passes = λ answers due left e. first.passes answers due (left + behind) (omega (arith, e)) ∙ second.passes answers (left + behind) left refl;
}

-- some, one that is searched in vain, and some more
pub passes_on : (p : Pattern) (s : List ℕ) (from at to spent cost more : ℕ) → Passes false p s from at spent → at < length s → FailsAt p s cost (at + 1)
    → Passes false p s (at + 1) to more → Passes false p s from to (spent + (cost + 1 + more))
passes_on p s from at to spent cost more before room vain behind =
    let here = passes_more p s at false from spent cost before refl room vain in
    let same : spent + (cost + 1) + more ≡ spent + (cost + 1 + more) = omega arith in
    subst (λ n. Passes false p s from to n) same (passes_join p s from (at + 1) to (spent + (cost + 1)) more here behind)
