-- Arguments are found exactly.
use Rattle.std.proofs.Common.{◌≡◌, ◌≢◌, ℕ, ◌+◌, inl, inr, true, false, List, refl, ◌∙◌, ap, subst}
use Rattle.std.proofs.lemmas.Bool.{false_from_ne_true}
use Rattle.sno_text.specs.declared.bytes.Class.TheVariants.{Blank}
use Rattle.sno_text.specs.Bytes.{byte, is_blank, is_closing, IsWholeRun}
use Rattle.sno_text.specs.Trees.{Tree, Literal, One, And}
use Rattle.sno_text.specs.Grammar.{IsGap, Level, Arguments, More, Argument, Reads, arguments, last, next, empty, given}
use Rattle.sno_text.specs.inner.Links.{Starts, Stops, Finds, Refuses, Lists, Shuts, Closes}
use Rattle.sno_text.proofs.Runs.{run_end_unique}
use Rattle.sno_text.proofs.Starts.{reads_start, start_not_blank}
use Rattle.sno_text.proofs.Primaries.{end_byte_closes, inner_only, inner_none, start_no_end, closes_not_blank}

whole_at : (s : List ℕ) (i j : ℕ) → IsGap s i j → Closes s j → IsWholeRun Blank s i j
whole_at s i j g h = record { run = g; stop = closes_not_blank s j h }

false_here : (s : List ℕ) (i : ℕ) → Starts s i → is_blank (byte s i) ≡ false
false_here s i r = false_from_ne_true _ (start_not_blank s i r)

-- an empty argument
empty_only : {s : List ℕ} {i k : ℕ} (j : ℕ) (t : Tree) → IsWholeRun Blank s i k → Closes s k → Reads s Argument i j t → Closes s j → (j ≡ k) × (t ≡ Literal k k)
empty_only {s} {i} {k} j t g h (empty a e) stops =
    let f : j ≡ k = run_end_unique Blank s i j k (whole_at s i j a stops) g in (f, e ∙ ap (λ x. Literal x x) f)
empty_only {s} {i} {k} j t g h (given {k = k'} a r b) stops =
    let start : Starts s k' = reads_start r in
    let f : k' ≡ k = run_end_unique Blank s i k' k (record { run = a; stop = false_here s k' start }) g in
    absurd (start_no_end s k (subst (λ x. Starts s x) f start) (end_byte_closes s k h))

pub finds_empty : (s : List ℕ) (i k : ℕ) → IsWholeRun Blank s i k → Closes s k → Finds s Argument (Closes s) i k (Literal k k)
finds_empty s i k g h = record { reads = empty g.run refl; only = λ j t r stops. empty_only j t g h r stops }

given_only : {s : List ℕ} {i k m l : ℕ} {u : Tree} (j : ℕ) (t : Tree) → IsWholeRun Blank s i k → (Closes s k → ⊥) → Finds s (Level 0) (Stops s 0) k m u
    → IsWholeRun Blank s m l →
    Reads s Argument i j t → Closes s j → (j ≡ l) × (t ≡ u)
given_only {s} {i} {k} j t g h f b (empty a e) stops =
    let q : j ≡ k = run_end_unique Blank s i j k (whole_at s i j a stops) g in absurd (h (subst (λ x. Closes s x) q stops))
given_only {s} {i} {k} {m} {l} {u} j t g h f b (given {k = k'} {m = m'} a r c) stops = inner_only s i k m l u g f b k' m' j t a r c (end_byte_closes s j stops)

pub finds_given : (s : List ℕ) (i k m l : ℕ) (u : Tree) → IsWholeRun Blank s i k → (Closes s k → ⊥) → Finds s (Level 0) (Stops s 0) k m u
    → IsWholeRun Blank s m l → Finds s Argument (Closes s) i l u
finds_given s i k m l u g h f b = record { reads = given g.run f.reads b.run; only = λ j t r stops. given_only j t g h f b r stops }

given_none : {s : List ℕ} {i k : ℕ} (j : ℕ) (t : Tree) → IsWholeRun Blank s i k → (Closes s k → ⊥) → Refuses s (Level 0) (Stops s 0) k
    → Reads s Argument i j t → Closes s j → ⊥
given_none {s} {i} {k} j t g h f (empty a e) stops =
    let q : j ≡ k = run_end_unique Blank s i j k (whole_at s i j a stops) g in h (subst (λ x. Closes s x) q stops)
given_none {s} {i} {k} j t g h f (given {k = k'} {m = m'} a r c) stops = inner_none s i k g f k' m' j t a r c (end_byte_closes s j stops)

pub refuses_given : (s : List ℕ) (i k : ℕ) → IsWholeRun Blank s i k → (Closes s k → ⊥) → Refuses s (Level 0) (Stops s 0) k → Refuses s Argument (Closes s) i
refuses_given s i k g h f = record { none = λ j t r stops. given_none j t g h f r stops }

-- an argument before more of them is closed
pub more_closes : {s : List ℕ} {i j : ℕ} {u t : Tree} → Reads s (More u) i j t → Shuts s j → Closes s i
more_closes {s} {i} {j} (last e f) h = inr (rw (← e) h)
more_closes (next a b c) h = inl a

moved : (s : List ℕ) (m m' j : ℕ) (u u' t : Tree) → m ≡ m' → u ≡ u' → Reads s (More u) m j t → Reads s (More u') m' j t
moved s m m' j u u' t e f r = subst (λ k. Reads s (More u') k j t) e (subst (λ v. Reads s (More v) m j t) f r)

first_only : {s : List ℕ} {i m : ℕ} {u : Tree} (k : ℕ) (t : Tree) → Finds s Argument (Closes s) i m u → Reads s Arguments i k t → Shuts s k
    → Reads s (More (One u)) m k t
first_only {s} {i} {m} {u} k t f (arguments {m = n} {u = v} a b) stops =
    let e = f.only n v a (more_closes b stops) in moved s n m k (One v) (One u) t e.0 (ap One e.1) b

pub lists_first : (s : List ℕ) (i m : ℕ) (u : Tree) → Finds s Argument (Closes s) i m u → Lists s i m (One u)
lists_first s i m u f = record { reads = λ k t r. arguments f.reads r; only = λ k t r stops. first_only k t f r stops }

first_none : {s : List ℕ} {i : ℕ} (k : ℕ) (t : Tree) → Refuses s Argument (Closes s) i → Reads s Arguments i k t → Shuts s k → ⊥
first_none k t f (arguments {m = n} {u = v} a b) stops = f.none n v a (more_closes b stops)

pub refuses_lists : (s : List ℕ) (i : ℕ) → Refuses s Argument (Closes s) i → Refuses s Arguments (Shuts s) i
refuses_lists s i f = record { none = λ k t r stops. first_none k t f r stops }

pub comma_no_shut : (s : List ℕ) (i : ℕ) → byte s i ≡ 44 → Shuts s i → ⊥
unfolding is_closing
comma_no_shut s i e h = let g : is_closing 44 ≡ true = rw e at h in cc

next_only : {s : List ℕ} {i n : ℕ} {u v : Tree} (k : ℕ) (t : Tree) → byte s i ≡ 44 → Finds s Argument (Closes s) (i + 1) n v → Reads s (More u) i k t
    → Shuts s k → Reads s (More (And u v)) n k t
next_only {s} {i} k t e f (last a b) stops = absurd (comma_no_shut s i e (subst (λ x. Shuts s x) a stops))
next_only {s} {i} {n} {u} {v} k t e f (next {m = m} {v = v'} a b c) stops =
    let q = f.only m v' b (more_closes c stops) in moved s m n k (And u v') (And u v) t q.0 (ap (λ x. And u x) q.1) c

pub lists_next : (s : List ℕ) (i m n : ℕ) (u v : Tree) → byte s m ≡ 44 → Lists s i m u → Finds s Argument (Closes s) (m + 1) n v → Lists s i n (And u v)
lists_next s i m n u v e g f = record {
  reads = λ k t r. g.reads k t (next e f.reads r);
  only = λ k t r stops. next_only k t e f (g.only k t r stops) stops;
}

next_none : {s : List ℕ} {i : ℕ} {u : Tree} (k : ℕ) (t : Tree) → byte s i ≡ 44 → Refuses s Argument (Closes s) (i + 1) → Reads s (More u) i k t → Shuts s k → ⊥
next_none {s} {i} k t e f (last a b) stops = comma_no_shut s i e (subst (λ x. Shuts s x) a stops)
next_none k t e f (next {m = m} {v = v'} a b c) stops = f.none m v' b (more_closes c stops)

pub refuses_next : (s : List ℕ) (i m : ℕ) (u : Tree) → byte s m ≡ 44 → Lists s i m u → Refuses s Argument (Closes s) (m + 1) → Refuses s Arguments (Shuts s) i
refuses_next s i m u e g f = record { none = λ k t r stops. next_none k t e f (g.only k t r stops) stops }

last_only : {s : List ℕ} {i : ℕ} {u : Tree} (k : ℕ) (t : Tree) → byte s i ≢ 44 → Reads s (More u) i k t → (k ≡ i) × (t ≡ u)
last_only k t h (last a b) = (a, b)
last_only k t h (next a b c) = absurd (h a)

pub finds_lists : (s : List ℕ) (i m : ℕ) (u : Tree) → byte s m ≢ 44 → Lists s i m u → Finds s Arguments (Shuts s) i m u
finds_lists s i m u h g = record { reads = g.reads m u (last refl refl); only = λ k t r stops. last_only k t h (g.only k t r stops) }
