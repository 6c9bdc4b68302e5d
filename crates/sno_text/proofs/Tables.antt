-- The table of nodes grows, and what stands in it stays.
use Rattle.std.proofs.Common.{◌≡◌, ◌≢◌, ℕ, zero, suc, take, drop, min, nat_lt, append-nil, ◌+◌, ◌-◌, ◌^◌, ◌<◌, ◌≤◌, ◌⊎◌, inl, inr, Bool, true, false, List, []}
use Rattle.std.proofs.Common.{◌∷◌, ◌++◌, length, arith, refl, sym, ◌∙◌, ap, subst, Some, append_assoc, slice_get, length-append, pos}
use Rattle.std.proofs.lemmas.Bool.{cases_lt}
use Rattle.std.proofs.lemmas.List.{get_or_past}
use Rattle.std.proofs.lemmas.Option.{slice_get_within}
use Rattle.std.specs.List.{AllByRecursion}
use Rattle.sno_text.specs.declared.bytes.Class.{Class}
use Rattle.sno_text.specs.declared.bytes.Class.TheVariants.{Blank, NameByte, Digit}
use Rattle.sno_text.specs.declared.node.Node.{Node}
use Rattle.sno_text.specs.declared.node.Node.TheVariants as nodes
use Rattle.sno_value.specs.declared.ids.ExprId.{ExprId}
use Rattle.sno_text.specs.declared.table.Found.{Found}
use Rattle.sno_text.specs.Bytes.{byte, in_class, is_letter, is_digit, is_name_byte, is_opening, IsWholeRun}
use Rattle.sno_text.specs.inner.Bytes.{IsLiteralEnd, NoLiteralEnd}
use Rattle.sno_text.specs.Trees.{Tree, Variable, Integer, Literal, Keyword, Unary, Binary, Call, Item, One, And, fits, Holds, StandsFor, operands, IsOneOf}
use Rattle.sno_text.specs.Trees.{IsPart, whole, operand, Uses}
use Rattle.sno_text.specs.Grammar.{decimal, IsLiteral, Level, Primary}
use Rattle.sno_text.specs.inner.Links.{Stops, Finds, Refuses}
use Rattle.sno_text.specs.inner.Parsed.{IsSound, Grown, Extends, extended, Parsed}
use Rattle.sno_text.proofs.Primaries.{finds_keyword, refuses_keyword, finds_variable, finds_literal, refuses_literal, finds_integer, finds_group, refuses_group}
use Rattle.sno_text.proofs.Primaries.{refuses_unclosed}

pub grown_none : (old new : List Node) → new ≡ old → Grown old new
grown_none old new e = record { more = []; is = e ∙ sym (append-nil old) }

pub grown_push : (old new : List Node) (node : Node) → new ≡ old ++ node ∷ [] → Grown old new
grown_push old new node e = record { more = node ∷ []; is = e }

pub grown_trans : (old mid new : List Node) → Grown old mid → Grown mid new → Grown old new
grown_trans old mid new a b = record { more = a.more ++ b.more; is = b.is ∙ ap (λ x. x ++ b.more) a.is ∙ append_assoc old a.more b.more }

slice_get-append : {X : Type 0} (xs ys : List X) (i : ℕ) (x : X) → slice_get xs i ≡ Some x → slice_get (xs ++ ys) i ≡ Some x
slice_get-append [] ys i x e = cc
slice_get-append (z ∷ xs) ys zero x e = e
slice_get-append (z ∷ xs) ys (suc i) x e = slice_get-append xs ys i x e

slice_get-push : {X : Type 0} (xs : List X) (x : X) → slice_get (xs ++ x ∷ []) (length xs) ≡ Some x
slice_get-push [] x = refl
slice_get-push (z ∷ xs) x = slice_get-push xs x

pub holds_pushed : (old new : List Node) (node : Node) (id : ExprId) → new ≡ old ++ node ∷ [] → id.0 ≡ length old → Holds new id node
holds_pushed old new node id e f = rw (e, f) (slice_get-push old node)

pub length_pushed : (old new : List Node) (node : Node) → new ≡ old ++ node ∷ [] → length new ≡ length old + 1
length_pushed old new node e = ap length e ∙ simp length-append

pub length_grown : (old new : List Node) → Grown old new → length old ≤ length new
length_grown old new x = let e : length new ≡ length old + length x.more = ap length x.is ∙ simp length-append in omega arith

slice_get-early : {X : Type 0} (xs ys : List X) (i : ℕ) → i < length xs → slice_get (xs ++ ys) i ≡ slice_get xs i
slice_get-early [] ys i h = absurd (omega arith)
slice_get-early (z ∷ xs) ys zero h = refl
slice_get-early (z ∷ xs) ys (suc i) h = slice_get-early xs ys i (omega arith)

pub grown_of : {n : ℕ} {old new : List Node} → Extends n old new → Grown old new
grown_of (extended g f) = g

pub sound_of : {n : ℕ} {old new : List Node} → Extends n old new → (id : ℕ) (node : Node) → length old ≤ id → slice_get new id ≡ Some node → IsSound n id node
sound_of (extended g f) = f

pub extends_none : (n : ℕ) (old new : List Node) → new ≡ old → Extends n old new
extends_none n old new e = extended (grown_none old new e)
    (λ id node h g. let b = slice_get_within new id node g in let f : length new ≡ length old = ap length e in absurd (omega arith))

pub extends_same : (n : ℕ) (old : List Node) → Extends n old old
extends_same n old = extends_none n old old refl

pub extends_push : (n : ℕ) (old new : List Node) (node : Node) → new ≡ old ++ node ∷ [] → IsSound n (length old) node → Extends n old new
extends_push n old new node e f = extended (grown_push old new node e)
    (λ id other h g.
    let b = slice_get_within new id other g in
    let l : length new ≡ length old + 1 = length_pushed old new node e in
    let i : id ≡ length old = omega arith in
    let here : slice_get new (length old) ≡ Some node = rw e (slice_get-push old node) in
    let there : slice_get new (length old) ≡ Some other = rw i at g in
    let same : node ≡ other = cc in
    subst (λ m. IsSound n m other) (sym i) (subst (λ x. IsSound n (length old) x) same f))

pub extends_trans : (n : ℕ) (old mid new : List Node) → Extends n old mid → Extends n mid new → Extends n old new
extends_trans n old mid new a b =
    let grown = grown_of b in
    extended (grown_trans old mid new (grown_of a) grown)
    (λ id node h g. elim (cases_lt id (length mid)) [
      | inl lt ↦ sound_of a id node h (sym (slice_get-early mid grown.more id lt) ∙ (rw grown.is at g))
      | inr ge ↦ sound_of b id node ge g
    ])

holds_more : (old new : List Node) (id : ExprId) (node : Node) → Grown old new → Holds old id node → Holds new id node
holds_more old new id node x h = rw x.is (slice_get-append old x.more id.0 node h)

-- what stands in the table stays
pub stands_more : (old new : List Node) (t : Tree) (ids : List ExprId) → Grown old new → StandsFor old t ids → StandsFor new t ids
stands_more old new (Variable from to) ids x (id, e, h) = (id, e, holds_more old new id _ x h)
stands_more old new (Integer value) ids x (id, e, h) = (id, e, holds_more old new id _ x h)
stands_more old new (Literal from to) ids x (id, e, h) = (id, e, holds_more old new id _ x h)
stands_more old new (Keyword from to) ids x (id, e, h) = (id, e, holds_more old new id _ x h)
stands_more old new (Unary o t) ids x (id, a, e, h, f, g) = (id, a, e, holds_more old new id _ x h, f, stands_more old new t (a ∷ []) x g)
stands_more old new (Binary o t u) ids x (id, a, b, e, h, f, g, m, n) =
    (id, a, b, e, holds_more old new id _ x h, f, g, stands_more old new t (a ∷ []) x m, stands_more old new u (b ∷ []) x n)
stands_more old new (Call from to t) ids x (id, a, e, h, f, g) = (id, a, e, holds_more old new id _ x h, f, stands_more old new t a.items x g)
stands_more old new (Item from to t) ids x (id, a, e, h, f, g) = (id, a, e, holds_more old new id _ x h, f, stands_more old new t a.items x g)
stands_more old new (One t) ids x h = stands_more old new t ids x h
stands_more old new (And t u) ids x (before, id, e, f, g) = (before, id, e, stands_more old new t before x f, stands_more old new u (id ∷ []) x g)

holds_below : (table : List Node) (id : ExprId) (node : Node) → Holds table id node → id.0 < length table
holds_below table id node h = slice_get_within table id.0 node h

Below : List Node → ExprId → Type 0
Below table id = id.0 < length table

one_below : (table : List Node) (ids : List ExprId) (id : ExprId) → ids ≡ id ∷ [] → id.0 < length table → AllByRecursion (λ a. a.0 < length table) ids
one_below table ids id e h = rw e (h, tt)

append_below : (table : List Node) (xs : List ExprId) (id : ExprId) → AllByRecursion (λ a. a.0 < length table) xs
    → AllByRecursion (λ a. a.0 < length table) (id ∷ []) → AllByRecursion (λ a. a.0 < length table) (xs ++ id ∷ [])
append_below table [] id a b = b
append_below table (x ∷ xs) id a b = (a.0, append_below table xs id a.1 b)

-- numbers that stand for a tree are of the table
pub stands_below : (table : List Node) (t : Tree) (ids : List ExprId) → StandsFor table t ids → AllByRecursion (λ a. a.0 < length table) ids
stands_below table (Variable from to) ids (id, e, h) = one_below table ids id e (holds_below table id _ h)
stands_below table (Integer value) ids (id, e, h) = one_below table ids id e (holds_below table id _ h)
stands_below table (Literal from to) ids (id, e, h) = one_below table ids id e (holds_below table id _ h)
stands_below table (Keyword from to) ids (id, e, h) = one_below table ids id e (holds_below table id _ h)
stands_below table (Unary o t) ids (id, a, e, h, f, g) = one_below table ids id e (holds_below table id _ h)
stands_below table (Binary o t u) ids (id, a, b, e, h, f, g, m, n) = one_below table ids id e (holds_below table id _ h)
stands_below table (Call from to t) ids (id, a, e, h, f, g) = one_below table ids id e (holds_below table id _ h)
stands_below table (Item from to t) ids (id, a, e, h, f, g) = one_below table ids id e (holds_below table id _ h)
stands_below table (One t) ids h = stands_below table t ids h
stands_below table (And t u) ids (before, id, e, f, g) = rw e (append_below table before id (stands_below table t before f) (stands_below table u (id ∷ []) g))

pub stands_id_below : (table : List Node) (t : Tree) (id : ExprId) → StandsFor table t (id ∷ []) → id.0 < length table
stands_id_below table t id h = (stands_below table t (id ∷ []) h).0

-- a part stays one as the table grows
part_more : (old new : List Node) (k : ℕ) (ids : List ExprId) → Grown old new → IsPart old k ids → IsPart new k ids
part_more old new k ids x (whole id i e) = whole id i e
part_more old new k ids x (operand id node i h p) = operand id node i (holds_more old new id node x h) (part_more old new k (operands node) x p)

-- and among more numbers
one_before : (id : ExprId) (xs ys : List ExprId) → IsOneOf id xs → IsOneOf id (xs ++ ys)
one_before id [] ys h = absurd h
one_before id (x ∷ xs) ys (inl e) = inl e
one_before id (x ∷ xs) ys (inr h) = inr (one_before id xs ys h)

one_behind : (id : ExprId) (xs ys : List ExprId) → IsOneOf id ys → IsOneOf id (xs ++ ys)
one_behind id [] ys h = h
one_behind id (x ∷ xs) ys h = inr (one_behind id xs ys h)

part_of : (table : List Node) (k : ℕ) (xs ys : List ExprId) → ((id : ExprId) → IsOneOf id xs → IsOneOf id ys) → IsPart table k xs → IsPart table k ys
part_of table k xs ys f (whole id i e) = whole id (f id i) e
part_of table k xs ys f (operand id node i h p) = operand id node (f id i) h p

-- no node more
pub uses_none : (table : List Node) (ids : List ExprId) → Uses table (length table) ids
uses_none table ids = record { each = λ k low high. absurd (omega arith) }

-- the nodes of one part, and behind them those of another
pub uses_both : (n : ℕ) (mid new : List Node) (xs ys : List ExprId) → Uses mid n xs → Uses new (length mid) ys → Grown mid new → Uses new n (xs ++ ys)
uses_both n mid new xs ys a b x = record {
  each = λ k low high. elim (cases_lt k (length mid)) [
    | inl lt ↦ part_of new k xs (xs ++ ys) (λ id i. one_before id xs ys i) (part_more mid new k xs x (a.each k low lt))
    | inr ge ↦ part_of new k ys (xs ++ ys) (λ id i. one_behind id xs ys i) (b.each k ge high)
  ];
}

-- the same numbers in another order
one_split : (id : ExprId) (xs ys : List ExprId) → IsOneOf id (xs ++ ys) → IsOneOf id xs ⊎ IsOneOf id ys
one_split id [] ys h = inr h
one_split id (x ∷ xs) ys (inl e) = inl (inl e)
one_split id (x ∷ xs) ys (inr h) = elim (one_split id xs ys h) [ inl i ↦ inl (inr i) | inr i ↦ inr i ]

one_swapped : (id : ExprId) (xs ys : List ExprId) → IsOneOf id (xs ++ ys) → IsOneOf id (ys ++ xs)
one_swapped id xs ys h = elim (one_split id xs ys h) [ inl i ↦ one_behind id ys xs i | inr i ↦ one_before id ys xs i ]

pub uses_swapped : (n : ℕ) (table : List Node) (xs ys : List ExprId) → Uses table n (xs ++ ys) → Uses table n (ys ++ xs)
uses_swapped n table xs ys a = record { each = λ k low high. part_of table k (xs ++ ys) (ys ++ xs) (λ id i. one_swapped id xs ys i) (a.each k low high) }

-- the node of operands whose nodes were used
pub uses_pushed : (n : ℕ) (last new : List Node) (node : Node) (id : ExprId) → Uses last n (operands node) → new ≡ last ++ node ∷ []
    → id.0 ≡ length last → Uses new n (id ∷ [])
uses_pushed n last new node id a p q = record {
  each = λ k low high. elim (cases_lt k (length last)) [
    | inl lt ↦ operand id node (inl refl) (holds_pushed last new node id p q)
        (part_more last new k (operands node) (grown_push last new node p) (a.each k low lt))
    | inr ge ↦ whole id (inl refl) (let l = length_pushed last new node p in omega arith)
  ];
}

-- a token
gives_token : (s : List ℕ) (i e : ℕ) (old new : List Node) (id : ExprId) (node : Node) (t : Tree) (f : Bool) → Finds s Primary (Stops s 7) i e t
    → StandsFor new t (id ∷ []) → f ≡ fits t →
    i < e → e ≤ length s → new ≡ old ++ node ∷ [] → id.0 ≡ length old → Parsed s Primary (Stops s 7) i old new (Some (record { id = id; end = e; fits = f }))
gives_token s i e old new id node t f d st g o w p q = record {
  tree = t;
  finds = d;
  stands = st;
  fit = g;
  some = o;
  within = w;
  room = omega (arith, length_pushed old new node p);
  used = uses_pushed (length old) old new node id (uses_none old (operands node)) p q;
}

pub gives_keyword : (s : List ℕ) (i e : ℕ) (old new : List Node) (id : ExprId) → byte s i ≡ 38 → is_letter (byte s (i + 1)) ≡ true
    → IsWholeRun NameByte s (i + 1) e → e ≤ length s →
    new ≡ old ++ nodes.Keyword (record { start = i + 1; end = e }) ∷ [] → id.0 ≡ length old
    → Parsed s Primary (Stops s 7) i old new (Some (record { id = id; end = e; fits = true }))
gives_keyword s i e old new id h l r w p q =
    gives_token s i e old new id _ (Keyword (i + 1) e) true (finds_keyword s i e h (record { letter = l; rest = r }))
    (id, refl, holds_pushed old new _ id p q) refl
    (let o = r.run.order in omega arith) w p q

pub letter_is_name_byte : (b : ℕ) → is_letter b ≡ true → is_name_byte b ≡ true
unfolding is_name_byte
letter_is_name_byte b h = rw h refl

-- a run whose first byte is of the class goes further
pub run_some : (c : Class) (s : List ℕ) (i e : ℕ) → IsWholeRun c s i e → in_class c (byte s i) ≡ true → i < e
run_some c s i e r h = elim (cases_lt i e) [
  | inl lt ↦ lt
  | inr ge ↦ let o = r.run.order in let q : e ≡ i = omega arith in let f = rw q at r.stop in absurd (cc)
]

pub gives_variable : (s : List ℕ) (i e : ℕ) (old new : List Node) (id : ExprId) → is_letter (byte s i) ≡ true → IsWholeRun NameByte s i e
    → is_opening (byte s e) ≡ false → e ≤ length s →
    new ≡ old ++ nodes.Variable (record { start = i; end = e }) ∷ [] → id.0 ≡ length old
    → Parsed s Primary (Stops s 7) i old new (Some (record { id = id; end = e; fits = true }))
gives_variable s i e old new id l r h w p q =
    gives_token s i e old new id _ (Variable i e) true (finds_variable s i e (record { letter = l; rest = r }) h) (id, refl, holds_pushed old new _ id p q) refl
    (run_some NameByte s i e r (letter_is_name_byte _ l)) w p q

quote_not_zero : (b : ℕ) → (b ≡ 39) ⊎ (b ≡ 34) → b ≡ 0 → ⊥
quote_not_zero b (inl e) z = omega arith
quote_not_zero b (inr e) z = omega arith

next_literal : (s : List ℕ) (i at e b : ℕ) → (byte s i ≡ 39) ⊎ (byte s i ≡ 34) → b ≡ byte s i → IsLiteralEnd s b (i + 1) at → e ≡ at + 1 → IsLiteral s i e
next_literal s i at e b q f n g = let o = n.order in record {
  room = omega arith;
  quote = q;
  inside = λ k low high same. n.inside k (omega arith) (omega arith) (same ∙ sym f);
  line = λ k low high. n.line k (omega arith) (omega arith);
  closed = let h : e - 1 ≡ at = omega arith in rw h (n.here ∙ f);
}

pub gives_literal : (s : List ℕ) (i at b : ℕ) (old new : List Node) (id : ExprId) → (byte s i ≡ 39) ⊎ (byte s i ≡ 34) → b ≡ byte s i
    → IsLiteralEnd s b (i + 1) at →
    new ≡ old ++ nodes.Literal (record { start = i + 1; end = at }) ∷ [] → id.0 ≡ length old
    → Parsed s Primary (Stops s 7) i old new (Some (record { id = id; end = at + 1; fits = true }))
gives_literal s i at b old new id h f n p q =
    let e : (at + 1) - 1 ≡ at = omega arith in
    let l = next_literal s i at (at + 1) b h f n refl in
    let d : Finds s Primary (Stops s 7) i (at + 1) (Literal (i + 1) at) =
    subst (λ x. Finds s Primary (Stops s 7) i (at + 1) (Literal (i + 1) x)) e (finds_literal s i (at + 1) l) in
    gives_token s i (at + 1) old new id _ (Literal (i + 1) at) true d (id, refl, holds_pushed old new _ id p q) refl
    (let o = l.room in omega arith) (let w = n.within in omega arith) p q

literal_ends : (s : List ℕ) (i e b : ℕ) → b ≡ byte s i → IsLiteral s i e → e - 1 < length s → IsLiteralEnd s b (i + 1) (e - 1)
literal_ends s i e b f l lt = let o = l.room in record {
  order = omega arith;
  within = lt;
  here = l.closed ∙ sym f;
  inside = λ k low high same. l.inside k (omega arith) (omega arith) (same ∙ f);
  line = λ k low high. l.line k (omega arith) (omega arith);
}

pub refused_literal : (s : List ℕ) (i b : ℕ) → (byte s i ≡ 39) ⊎ (byte s i ≡ 34) → b ≡ byte s i → NoLiteralEnd s b (i + 1) → Refuses s Primary (Stops s 7) i
refused_literal s i b h f never = refuses_literal s i h (λ e l.
    elim (cases_lt (e - 1) (length s)) [
      | inl lt ↦ never.none (e - 1) (literal_ends s i e b f l lt)
      | inr ge ↦ let z : byte s (e - 1) ≡ 0 = get_or_past s (e - 1) 0 ge in quote_not_zero _ h (sym l.closed ∙ z)
    ])

pub gives_integer : (s : List ℕ) (i e n : ℕ) (f : Bool) (old new : List Node) (id : ExprId) → is_digit (byte s i) ≡ true
    → IsWholeRun Digit s i e → e ≤ length s →
    n ≡ decimal 0 (take (e - i) (drop i s)) → f ≡ nat_lt n (2 ^ 63) →
    new ≡ old ++ nodes.Integer (pos (min n (2 ^ 63 - 1))) ∷ [] → id.0 ≡ length old
    → Parsed s Primary (Stops s 7) i old new (Some (record { id = id; end = e; fits = f }))
gives_integer s i e n f old new id h r w d g p q =
    let some = run_some Digit s i e r h in
    gives_token s i e old new id _ (Integer n) f (rw d (finds_integer s i e (record { some = some; digits = r }))) (id, refl, holds_pushed old new _ id p q) g
    some w p q

pub gives_group : (s : List ℕ) (i k l : ℕ) (old new : List Node) (f : Found) → byte s i ≡ 40 → IsWholeRun Blank s (i + 1) k
    → Parsed s (Level 0) (Stops s 0) k old new (Some f) →
    IsWholeRun Blank s f.end l → byte s l ≡ 41 → l < length s
    → Parsed s Primary (Stops s 7) i old new (Some (record { id = f.id; end = l + 1; fits = f.fits }))
gives_group s i k l old new f h g d r c w = record {
  tree = d.tree;
  finds = finds_group s i k f.end l d.tree h g d.finds r c;
  stands = d.stands;
  fit = d.fit;
  some = let a = g.run.order in let b = d.some in let o = r.run.order in omega arith;
  within = omega arith;
  room = let a = g.run.order in let b = d.room in let o = r.run.order in omega arith;
  used = d.used;
}

pub refused_unclosed : (s : List ℕ) (i k l : ℕ) (old new : List Node) (f : Found) → byte s i ≡ 40 → IsWholeRun Blank s (i + 1) k
    → Parsed s (Level 0) (Stops s 0) k old new (Some f) →
    IsWholeRun Blank s f.end l → byte s l ≢ 41 → Refuses s Primary (Stops s 7) i
refused_unclosed s i k l old new f h g d r c = refuses_unclosed s i k f.end l d.tree h g d.finds r c

pub ruleset table_facts =
    (extends_none, refuses_keyword, gives_keyword, gives_variable, gives_literal, gives_integer, gives_group, refuses_group, refused_unclosed, refused_literal)
