use Rattle.std.proofs.Common.{◌≡◌, ◌-◌, ◌∙◌, ◌∷◌, [], suc, ap, arith, refl, subst, sym}
use Rattle.sno_pattern.specs.Pattern.{Arb, Leaf, Pattern}
use Rattle.sno_pattern.specs.Table.{tree}
use Rattle.sno_match.specs.declared.direct.DirectWay.{DirectWay}
use Rattle.sno_match.specs.declared.direct.Followed.TheVariants.{Vain}
use Rattle.sno_match.specs.Direct.{pending_of}
use Rattle.sno_match.specs.Search.{CloseCond, Match}
use Rattle.sno_match.specs.inner.Direct.{Comes, StandsBefore}
use Rattle.sno_match.proofs.DirectLaws.{alt_other, alt_step, arbno_first, behind_fails, cat_step, close_fails, comes_first, comes_on, cond_step, fence_first, keeps_on}
use Rattle.sno_match.proofs.direct.+follow.Goals as goal

-- a primitive

pub returns-then-is_arb-clause-follows : goal.returns-then-is_arb-clause-follows
returns-then-is_arb-clause-follows t c = λ rest before.
    let nodes = c.args.patterns.now in
    let s = c.args.subject.now in
    let p = tree nodes c.args.id.0 in
    let old = c.args.way.now in
    let left = c.args.left - 1 in
    let price : c.args.left ≡ suc left = omega (arith, c.if-left-eq0.false) in
    let fails = behind_fails nodes s old.behind rest before in
    subst (λ (w : Pattern). Comes s (Match w ∷ rest) c.args.left old c.pass_arb.result rest c.pass_arb.new.way) (sym (c.is_arb.ensures c.if-is_arb.true))
    (subst (λ n. Comes s (Match (Leaf Arb) ∷ rest) n old c.pass_arb.result rest c.pass_arb.new.way) (sym price) (c.pass_arb.ensures.comes rest fails))

pub returns-else-is_some-clause-follows : goal.returns-else-is_some-clause-follows
returns-else-is_some-clause-follows t c = λ rest before.
    let nodes = c.args.patterns.now in
    let s = c.args.subject.now in
    let p = tree nodes c.args.id.0 in
    let old = c.args.way.now in
    let left = c.args.left - 1 in
    let price : c.args.left ≡ suc left = omega (arith, c.if-left-eq0.false) in
    let head = c.in-Ends.ensures in
    subst (λ n. Comes s (Match p ∷ rest) n old c.take_end.result rest c.take_end.new.self) (sym price)
    (c.take_end.ensures.comes p s rest head.0 c.requires.inside head.1 head.2)

pub returns-in-Primitive-clause-follows : goal.returns-in-Primitive-clause-follows
returns-in-Primitive-clause-follows t c = λ rest before.
    let nodes = c.args.patterns.now in
    let s = c.args.subject.now in
    let p = tree nodes c.args.id.0 in
    let old = c.args.way.now in
    let left = c.args.left - 1 in
    let price : c.args.left ≡ suc left = omega (arith, c.if-left-eq0.false) in
    subst (λ n. Comes s (Match p ∷ rest) n old c.far_end.result rest c.far_end.new.way) (sym price) (c.far_end.ensures.comes rest)

-- a concatenation

pub follow-requires-in-Alone : goal.follow-requires-in-Alone
follow-requires-in-Alone t c =
    let nodes = c.args.patterns.now in
    let is = rw c.in-Cat.is at c.in-Other.ensures in (
      omega (arith, c.decreases, c.if-depth-eq0.false),
      (
        omega (arith, is.1, c.requires.known),
        ((c.in-Alone.ensures.follows (Match (tree nodes c.in-Cat.second.0) ∷ []) (λ other. ([], refl))).0, c.requires.behind),
      ),
    )

pub follow-requires-in-First : goal.follow-requires-in-First
follow-requires-in-First t c =
    let nodes = c.args.patterns.now in
    let is = rw c.in-Cat.is at c.in-Other.ensures in (
      omega (arith, c.decreases, c.if-depth-eq0.false),
      (
        omega (arith, is.1, c.requires.known),
        ((c.in-First.ensures.follows (Match (tree nodes c.in-Cat.second.0) ∷ []) (λ other. ([], refl))).0, c.requires.behind),
      ),
    )

pub returns-in-Alone-clause-follows : goal.returns-in-Alone-clause-follows
returns-in-Alone-clause-follows t c = λ rest before.
    let nodes = c.args.patterns.now in
    let s = c.args.subject.now in
    let p = tree nodes c.args.id.0 in
    let old = c.args.way.now in
    let left = c.args.left - 1 in
    let price : c.args.left ≡ suc left = omega (arith, c.if-left-eq0.false) in
    let is = rw c.in-Cat.is at c.in-Other.ensures in
    let q = tree nodes c.in-Cat.first.0 in
    let r = tree nodes c.in-Cat.second.0 in
    let step = cat_step s p rest c.args.left left old price q r is.2 c.requires.inside in
    let mid = c.follow.new.way in
    let new = c.follow-in-Alone.new.way in
    let f = c.follow-in-Alone.result in
    let one = c.in-Alone.ensures.follows (Match r ∷ rest) (λ other. (rest, refl)) in
    let two = c.follow-in-Alone.ensures.follows rest before in
    comes_on s (Match p ∷ rest) (Match q ∷ Match r ∷ rest) rest c.args.left left old old new f step
    (comes_on s (Match q ∷ Match r ∷ rest) (Match r ∷ rest) rest left c.in-Alone.left old mid new f one two)

pub returns-in-Alone-clause-keeps : goal.returns-in-Alone-clause-keeps
returns-in-Alone-clause-keeps t c =
    keeps_on c.args.way.now c.follow.new.way c.follow-in-Alone.new.way c.in-Alone.ensures.keeps c.follow-in-Alone.ensures.keeps

pub returns-in-First-clause-follows : goal.returns-in-First-clause-follows
returns-in-First-clause-follows t c = λ rest before.
    let nodes = c.args.patterns.now in
    let s = c.args.subject.now in
    let p = tree nodes c.args.id.0 in
    let old = c.args.way.now in
    let left = c.args.left - 1 in
    let price : c.args.left ≡ suc left = omega (arith, c.if-left-eq0.false) in
    let is = rw c.in-Cat.is at c.in-Other.ensures in
    let q = tree nodes c.in-Cat.first.0 in
    let r = tree nodes c.in-Cat.second.0 in
    let step = cat_step s p rest c.args.left left old price q r is.2 c.requires.inside in
    let mid = c.follow.new.way in
    let new = c.follow-in-First.new.way in
    let f = c.follow-in-First.result in
    let one = c.in-First.ensures.follows (Match r ∷ rest) (λ other. (rest, refl)) in
    let two = c.follow-in-First.ensures.follows rest before in
    comes_on s (Match p ∷ rest) (Match q ∷ Match r ∷ rest) rest c.args.left left old old new c.opened.result step
    (rw c.opened.ensures (comes_first s (Match q ∷ Match r ∷ rest) (Match r ∷ rest) rest left c.in-First.left old mid new f one two))

pub returns-in-First-clause-keeps : goal.returns-in-First-clause-keeps
returns-in-First-clause-keeps t c =
    keeps_on c.args.way.now c.follow.new.way c.follow-in-First.new.way c.in-First.ensures.keeps c.follow-in-First.ensures.keeps

pub returns-in-Vain-clause-follows : goal.returns-in-Vain-clause-follows
returns-in-Vain-clause-follows t c = λ rest before.
    let nodes = c.args.patterns.now in
    let s = c.args.subject.now in
    let p = tree nodes c.args.id.0 in
    let old = c.args.way.now in
    let left = c.args.left - 1 in
    let price : c.args.left ≡ suc left = omega (arith, c.if-left-eq0.false) in
    let is = rw c.in-Cat.is at c.in-Other.ensures in
    let q = tree nodes c.in-Cat.first.0 in
    let r = tree nodes c.in-Cat.second.0 in
    let step = cat_step s p rest c.args.left left old price q r is.2 c.requires.inside in
    let mid = c.follow.new.way in
    comes_on s (Match p ∷ rest) (Match q ∷ Match r ∷ rest) rest c.args.left left old old mid (Vain c.in-Vain.left) step
    (c.in-Vain.ensures.follows (Match r ∷ rest) (λ other. (rest, refl)))

-- a part that is assigned

pub returns-then-left-gt0-clause-follows : goal.returns-then-left-gt0-clause-follows
returns-then-left-gt0-clause-follows t c = λ rest before.
    let nodes = c.args.patterns.now in
    let s = c.args.subject.now in
    let p = tree nodes c.args.id.0 in
    let old = c.args.way.now in
    let left = c.args.left - 1 in
    let price : c.args.left ≡ suc left = omega (arith, c.if-left-eq0.false) in
    let is = rw c.in-Cond.is at c.in-Other.ensures in
    let target = c.in-Cond.target in
    let behind = CloseCond target old.end ∷ rest in
    let mid = c.pass_arb-passed.new.way in
    let f = c.pass_arb-passed.result in
    let step = cond_step s p rest c.args.left left old price (tree nodes c.in-Cond.body.0) target is.1 c.requires.inside in
    let arb = c.is_arb-in-Cond.ensures c.if-is_arb-2.true in
    let more : left ≡ suc (left - 1) = omega (arith, c.if-left-gt0.true) in
    let passed = c.pass_arb-passed.ensures.comes behind (close_fails nodes s old.behind rest target old.end before) in
    let one = subst (λ (w : Pattern). Comes s (Match w ∷ behind) left old f behind mid) (sym arb)
    (subst (λ n. Comes s (Match (Leaf Arb) ∷ behind) n old f behind mid) (sym more) passed) in
    c.close.ensures.comes s (Match p ∷ rest) rest c.args.left old
    (comes_on s (Match p ∷ rest) (Match (tree nodes c.in-Cond.body.0) ∷ behind) behind c.args.left left old old mid f step one)

pub returns-else-is_arb-2-clause-follows : goal.returns-else-is_arb-2-clause-follows
returns-else-is_arb-2-clause-follows t c = λ rest before.
    let nodes = c.args.patterns.now in
    let s = c.args.subject.now in
    let p = tree nodes c.args.id.0 in
    let old = c.args.way.now in
    let left = c.args.left - 1 in
    let price : c.args.left ≡ suc left = omega (arith, c.if-left-eq0.false) in
    let is = rw c.in-Cond.is at c.in-Other.ensures in
    let target = c.in-Cond.target in
    let behind = CloseCond target old.end ∷ rest in
    let q = tree nodes c.in-Cond.body.0 in
    let mid = c.follow-followed.new.way in
    let f = c.follow-followed.result in
    let step = cond_step s p rest c.args.left left old price q target is.1 c.requires.inside in
    let one = c.follow-followed.ensures.follows behind (λ other. absurd (other refl)) in
    c.close-in-Cond.ensures.comes s (Match p ∷ rest) rest c.args.left old (comes_on s (Match p ∷ rest) (Match q ∷ behind) behind c.args.left left old old mid f step one)

pub returns-else-is_arb-2-clause-keeps : goal.returns-else-is_arb-2-clause-keeps
returns-else-is_arb-2-clause-keeps t c =
    keeps_on c.args.way.now c.follow-followed.new.way c.close-in-Cond.new.self c.follow-followed.ensures.keeps c.close-in-Cond.ensures.keeps

-- a choice

pub returns-else-left-eq0-2-clause-follows : goal.returns-else-left-eq0-2-clause-follows
returns-else-left-eq0-2-clause-follows t c = λ rest before.
    let nodes = c.args.patterns.now in
    let s = c.args.subject.now in
    let p = tree nodes c.args.id.0 in
    let old = c.args.way.now in
    let left = c.args.left - 1 in
    let price : c.args.left ≡ suc left = omega (arith, c.if-left-eq0.false) in
    let is = rw c.in-Alt.is at c.in-Other.ensures in
    let q = tree nodes c.in-Alt.first.0 in
    let r = tree nodes c.in-Alt.second.0 in
    let tried = c.in-Vain-follow in
    let again = c.go_back.new.self in
    let to = tried.left - 1 in
    let more : tried.left ≡ suc to = omega (arith, c.if-left-eq0-2.false) in
    let vain = subst (λ n. Comes s (Match q ∷ rest) left old (Vain n) rest old) more (tried.ensures.follows rest before) in
    let there = subst (λ (w : DirectWay). StandsBefore nodes w.behind rest) (sym c.go_back.ensures) before in
    comes_on s (Match p ∷ rest) (Match r ∷ rest) rest c.args.left to old again c.follow-in-Vain-follow.new.way c.follow-in-Vain-follow.result
    (alt_other s p rest c.args.left left old price q r to again is.2 vain (ap (λ (w : DirectWay). w.end) c.go_back.ensures)
    (ap pending_of c.go_back.ensures ∙ c.follow-in-Alt.ensures.keeps.1) c.requires.inside)
    (c.follow-in-Vain-follow.ensures.follows rest there)

pub returns-in_default-follow : goal.returns-in_default-follow
returns-in_default-follow t c =
    let nodes = c.args.patterns.now in
    let s = c.args.subject.now in
    let p = tree nodes c.args.id.0 in
    let old = c.args.way.now in
    let left = c.args.left - 1 in
    let price : c.args.left ≡ suc left = omega (arith, c.if-left-eq0.false) in
    let is = rw c.in-Alt.is at c.in-Other.ensures in
    let q = tree nodes c.in-Alt.first.0 in
    let r = tree nodes c.in-Alt.second.0 in
    let new = c.follow-in-Alt.new.way in
    record {
      follows = λ rest before.
          rw c.opened-in_default-follow.ensures
          (comes_first s (Match p ∷ rest) (Match q ∷ rest) rest c.args.left left old old new c.follow-in-Alt.result
          (alt_step s p rest c.args.left left old price q r is.2 c.requires.inside) (c.follow-in-Alt.ensures.follows rest before));
      start = c.follow-in-Alt.ensures.start;
      keeps = c.follow-in-Alt.ensures.keeps;
    }

-- what goes on first with nothing of it matched

pub returns-in-Arbno-clause-follows : goal.returns-in-Arbno-clause-follows
returns-in-Arbno-clause-follows t c = λ rest before.
    let nodes = c.args.patterns.now in
    let s = c.args.subject.now in
    let p = tree nodes c.args.id.0 in
    let old = c.args.way.now in
    let left = c.args.left - 1 in
    let price : c.args.left ≡ suc left = omega (arith, c.if-left-eq0.false) in
    arbno_first s p rest c.args.left left old price (tree nodes c.in-Arbno._body.0) (rw c.in-Arbno.is at c.in-Other.ensures).1 c.requires.inside

pub returns-in-Fence-clause-follows : goal.returns-in-Fence-clause-follows
returns-in-Fence-clause-follows t c = λ rest before.
    let nodes = c.args.patterns.now in
    let s = c.args.subject.now in
    let p = tree nodes c.args.id.0 in
    let old = c.args.way.now in
    let left = c.args.left - 1 in
    let price : c.args.left ≡ suc left = omega (arith, c.if-left-eq0.false) in
    fence_first s p rest c.args.left left old price (rw c.in-Fence.is at c.in-Other.ensures) c.requires.inside
