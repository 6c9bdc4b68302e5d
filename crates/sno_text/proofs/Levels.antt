-- The loop over the operands of a level finds exactly what the grammar reads.
use Rattle.std.proofs.Common.{◌≡◌, ◌≢◌, ℕ, ◌+◌, ◌<◌, true, false, List, arith, refl, sym, ◌∙◌, ap, subst}
use Rattle.std.proofs.lemmas.Bool.Decides.{nat_tests}
use Rattle.sno_text.specs.declared.node.Operator.{Operator}
use Rattle.sno_text.specs.declared.node.Operator.TheVariants.{Power}
use Rattle.sno_text.specs.Bytes.{is_blank, is_opening}
use Rattle.sno_text.specs.Trees.{Tree, Binary}
use Rattle.sno_text.specs.Grammar.{level_of, Level, Rest, Reads, chain, operand, done, left, right}
use Rattle.sno_text.specs.inner.Links.{Links, Stops, Finds, Refuses, Grows}
use Rattle.sno_text.proofs.Starts.{reads_start}
use Rattle.sno_text.proofs.Joints.{joins_link, link_joins, link_unique}

blank_no_opening : (b : ℕ) → is_blank b ≡ true → is_opening b ≡ false
unfolding is_blank is_opening
blank_no_opening b h = grind (arith, nat_tests)

-- an operand of the next level ends before an operator of this one
pub link_stops : (s : List ℕ) (o : Operator) (level j l : ℕ) → level_of o ≡ level → Links s o j l → Stops s (level + 1) j
link_stops s o level j l e a = record {
  looser = λ p m b. let f = link_unique s o p j l m a b in let g : level_of p ≡ level_of o = ap level_of (sym f.0) in omega arith;
  no_bracket = blank_no_opening _ (a.blanks.run.each j (omega arith) a.some);
}

pub stops_above : (s : List ℕ) (level j : ℕ) → Stops s level j → Stops s (level + 1) j
stops_above s level j h = record {
  looser = λ p m b. let g = h.looser p m b in omega arith;
  no_bracket = h.no_bracket;
}

-- where a rest begins, the operand before it stops
pub rest_stops : {s : List ℕ} {level i j : ℕ} {u t : Tree} → Reads s (Rest level u) i j t → Stops s level j → Stops s (level + 1) i
rest_stops {s} {level} {i} {j} (done e f) h = stops_above s level i (subst (λ k. Stops s level k) e h)
rest_stops {s} {level} {i} {j} (left {k = k} {o = o} a b c d e) h = link_stops s o level i k b (joins_link s o i k c (reads_start d))
rest_stops {s} {level} {i} {j} (right {k = k} a b c d) h = link_stops s Power level i k (sym a) (joins_link s Power i k b (reads_start c))

moved : (s : List ℕ) (level m m' j : ℕ) (u u' t : Tree) → m ≡ m' → u ≡ u' → Reads s (Rest level u) m j t → Reads s (Rest level u') m' j t
moved s level m m' j u u' t e f r = subst (λ k. Reads s (Rest level u') k j t) e (subst (λ v. Reads s (Rest level v) m j t) f r)

level_apart : (level : ℕ) → level < 7 → level ≡ 7 → ⊥
level_apart level h e = omega arith

-- the first operand
first_only : {s : List ℕ} {level i m : ℕ} {u : Tree} (k : ℕ) (t : Tree) → level < 7 → Finds s (Level (level + 1)) (Stops s (level + 1)) i m u
    → Reads s (Level level) i k t → Stops s level k → Reads s (Rest level u) m k t
first_only {s} {level} {i} {m} {u} k t h f (chain {m = n} {u = v} g a b) stops =
    let e = f.only n v a (rest_stops b stops) in moved s level n m k v u t e.0 e.1 b
first_only {s} {level} {i} {m} {u} k t h f (operand e a) stops = absurd (level_apart level h e)

pub grows_first : (s : List ℕ) (level i m : ℕ) (u : Tree) → level < 7 → Finds s (Level (level + 1)) (Stops s (level + 1)) i m u → Grows s level i m u
grows_first s level i m u h f = record {
  reads = λ k t r. chain h f.reads r;
  only = λ k t r stops. first_only k t h f r stops;
}

refuses_inner : {s : List ℕ} {level i : ℕ} (k : ℕ) (t : Tree) → level < 7 → Refuses s (Level (level + 1)) (Stops s (level + 1)) i
    → Reads s (Level level) i k t → Stops s level k → ⊥
refuses_inner k t h f (chain {m = n} {u = v} g a b) stops = f.none n v a (rest_stops b stops)
refuses_inner {s} {level} k t h f (operand e a) stops = level_apart level h e

pub refuses_first : (s : List ℕ) (level i : ℕ) → level < 7 → Refuses s (Level (level + 1)) (Stops s (level + 1)) i → Refuses s (Level level) (Stops s level) i
refuses_first s level i h f = record { none = λ k t r stops. refuses_inner k t h f r stops }

linked_apart : (s : List ℕ) (o : Operator) (level i l : ℕ) → level_of o ≡ level → Links s o i l → Stops s level i → ⊥
linked_apart s o level i l e a h = let g = h.looser o l a in omega arith

-- one more operand to the left
left_only : {s : List ℕ} {level i l n : ℕ} {u v : Tree} {o : Operator} (k : ℕ) (t : Tree) → o ≢ Power → level_of o ≡ level → Links s o i l →
    Finds s (Level (level + 1)) (Stops s (level + 1)) l n v → Reads s (Rest level u) i k t → Stops s level k → Reads s (Rest level (Binary o u v)) n k t
left_only {s} {level} {i} {l} {n} {u} {v} {o} k t h e a f (done d g) stops = absurd (linked_apart s o level i l e a (subst (λ x. Stops s level x) d stops))
left_only {s} {level} {i} {l} {n} {u} {v} {o} k t h e a f (left {k = l'} {m = n'} {v = v'} {o = o'} b c d x y) stops =
    let p = link_unique s o' o i l' l (joins_link s o' i l' d (reads_start x)) a in
    let x' : Reads s (Level (level + 1)) l n' v' = subst (λ z. Reads s (Level (level + 1)) z n' v') p.1 x in
    let q = f.only n' v' x' (rest_stops y stops) in
    moved s level n' n k (Binary o' u v') (Binary o u v) t q.0 (ap (λ z. Binary z u v') p.0 ∙ ap (λ z. Binary o u z) q.1) y
left_only {s} {level} {i} {l} {n} {u} {v} {o} k t h e a f (right {k = l'} b c d x) stops =
    let p = link_unique s Power o i l' l (joins_link s Power i l' c (reads_start d)) a in absurd (h (sym p.0))

pub grows_left : (s : List ℕ) (level i m l n : ℕ) (u v : Tree) (o : Operator) → o ≢ Power → level_of o ≡ level → Links s o m l →
    Grows s level i m u → Finds s (Level (level + 1)) (Stops s (level + 1)) l n v → Grows s level i n (Binary o u v)
grows_left s level i m l n u v o h e a g f = record {
  reads = λ k t r. g.reads k t (left h e (link_joins s o m l a) f.reads r);
  only = λ k t r stops. left_only k t h e a f (g.only k t r stops) stops;
}

left_none : {s : List ℕ} {level i l : ℕ} {u : Tree} {o : Operator} (k : ℕ) (t : Tree) → o ≢ Power → level_of o ≡ level → Links s o i l →
    Refuses s (Level (level + 1)) (Stops s (level + 1)) l → Reads s (Rest level u) i k t → Stops s level k → ⊥
left_none {s} {level} {i} {l} {u} {o} k t h e a f (done d g) stops = linked_apart s o level i l e a (subst (λ x. Stops s level x) d stops)
left_none {s} {level} {i} {l} {u} {o} k t h e a f (left {k = l'} {m = n'} {v = v'} {o = o'} b c d x y) stops =
    let p = link_unique s o' o i l' l (joins_link s o' i l' d (reads_start x)) a in
    f.none n' v' (subst (λ z. Reads s (Level (level + 1)) z n' v') p.1 x) (rest_stops y stops)
left_none {s} {level} {i} {l} {u} {o} k t h e a f (right {k = l'} b c d x) stops =
    let p = link_unique s Power o i l' l (joins_link s Power i l' c (reads_start d)) a in h (sym p.0)

pub refuses_left : (s : List ℕ) (level i m l : ℕ) (u : Tree) (o : Operator) → o ≢ Power → level_of o ≡ level → Links s o m l →
    Grows s level i m u → Refuses s (Level (level + 1)) (Stops s (level + 1)) l → Refuses s (Level level) (Stops s level) i
refuses_left s level i m l u o h e a g f = record { none = λ k t r stops. left_none k t h e a f (g.only k t r stops) stops }

-- a power to the right
right_only : {s : List ℕ} {level i l n : ℕ} {u v : Tree} (k : ℕ) (t : Tree) → level ≡ 5 → Links s Power i l →
    Finds s (Level level) (Stops s level) l n v → Reads s (Rest level u) i k t → Stops s level k → (k ≡ n) × (t ≡ Binary Power u v)
right_only {s} {level} {i} {l} {n} {u} {v} k t e a f (done d g) stops = absurd (linked_apart s Power level i l (sym e) a (subst (λ x. Stops s level x) d stops))
right_only {s} {level} {i} {l} {n} {u} {v} k t e a f (left {k = l'} {o = o'} b c d x y) stops =
    let p = link_unique s o' Power i l' l (joins_link s o' i l' d (reads_start x)) a in absurd (b p.0)
right_only {s} {level} {i} {l} {n} {u} {v} k t e a f (right {k = l'} {v = v'} b c d x) stops =
    let p = link_unique s Power Power i l' l (joins_link s Power i l' c (reads_start d)) a in
    let q = f.only k v' (subst (λ z. Reads s (Level level) z k v') p.1 d) stops in
    (q.0, x ∙ ap (λ z. Binary Power u z) q.1)

pub finds_right : (s : List ℕ) (level i m l n : ℕ) (u v : Tree) → level ≡ 5 → Links s Power m l →
    Grows s level i m u → Finds s (Level level) (Stops s level) l n v → Finds s (Level level) (Stops s level) i n (Binary Power u v)
finds_right s level i m l n u v e a g f = record {
  reads = g.reads n (Binary Power u v) (right e (link_joins s Power m l a) f.reads refl);
  only = λ k t r stops. right_only k t e a f (g.only k t r stops) stops;
}

right_none : {s : List ℕ} {level i l : ℕ} {u : Tree} (k : ℕ) (t : Tree) → level ≡ 5 → Links s Power i l →
    Refuses s (Level level) (Stops s level) l → Reads s (Rest level u) i k t → Stops s level k → ⊥
right_none {s} {level} {i} {l} {u} k t e a f (done d g) stops = linked_apart s Power level i l (sym e) a (subst (λ x. Stops s level x) d stops)
right_none {s} {level} {i} {l} {u} k t e a f (left {k = l'} {o = o'} b c d x y) stops =
    let p = link_unique s o' Power i l' l (joins_link s o' i l' d (reads_start x)) a in b p.0
right_none {s} {level} {i} {l} {u} k t e a f (right {k = l'} {v = v'} b c d x) stops =
    let p = link_unique s Power Power i l' l (joins_link s Power i l' c (reads_start d)) a in
    f.none k v' (subst (λ z. Reads s (Level level) z k v') p.1 d) stops

pub refuses_right : (s : List ℕ) (level i m l : ℕ) (u : Tree) → level ≡ 5 → Links s Power m l →
    Grows s level i m u → Refuses s (Level level) (Stops s level) l → Refuses s (Level level) (Stops s level) i
refuses_right s level i m l u e a g f = record { none = λ k t r stops. right_none k t e a f (g.only k t r stops) stops }

-- no operator of the level follows
rest_done : {s : List ℕ} {level i : ℕ} {u : Tree} (k : ℕ) (t : Tree) → ((o : Operator) (l : ℕ) → Links s o i l → level_of o ≢ level) →
    Reads s (Rest level u) i k t → (k ≡ i) × (t ≡ u)
rest_done k t h (done d g) = (d, g)
rest_done {s} {level} {i} k t h (left {k = l'} {o = o'} b c d x y) = absurd (h o' l' (joins_link s o' i l' d (reads_start x)) c)
rest_done {s} {level} {i} k t h (right {k = l'} b c d x) = absurd (h Power l' (joins_link s Power i l' c (reads_start d)) (sym b))

pub finds_done : (s : List ℕ) (level i m : ℕ) (u : Tree) → ((o : Operator) (l : ℕ) → Links s o m l → level_of o ≢ level) →
    Grows s level i m u → Finds s (Level level) (Stops s level) i m u
finds_done s level i m u h g = record {
  reads = g.reads m u (done refl refl);
  only = λ k t r stops. rest_done k t h (g.only k t r stops);
}
