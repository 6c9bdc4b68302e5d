-- What DEFINE does to the symbols: which names join them, and what is known of these.
use Rattle.std.proofs.Common.{◌≡◌, ℕ, zero, suc, ◌+◌, ◌==◌, ◌≤◌, nat_lt, Bool, true, false, cond, List, [], ◌∷◌, ◌++◌, if◌then◌else◌, length, take, drop}
use Rattle.std.proofs.Common.{position, option_map, refl, ap, sym, subst, arith, Option, None, Some, Result, Ok, Err}
use Rattle.std.specs.List.{AllByRecursion, slice_split, onto_first}
use Rattle.std.proofs.lemmas.List.{length-drop}
use Rattle.sno_store.specs.Arrays.{is_comma}
use Rattle.sno_store.specs.Store.{place, is_symbol}
use Rattle.sno_store.specs.declared.functions.Function.{Function}
use Rattle.sno_store.specs.declared.functions.Function.TheVariants.{Defined}
use Rattle.sno_store.specs.Definitions.{Prototype, prototype, prototype_in, lists_of, listed, names, with_names, is_sound, definition}
use Rattle.sno_store.specs.Functions.{with_function, definition_by, definition_in, with_definition}
use Rattle.sno_runtime.proofs.Members.{all_end, all_append}
use Rattle.sno_runtime.proofs.Numbered.{IsNumbered, numbered_with}

-- texts of at most n bytes
abbrev pub AreShort : ℕ → List (List ℕ) → Type 0
AreShort n texts = AllByRecursion (λ text. length text ≤ n) texts

pub short_more : (n m : ℕ) (texts : List (List ℕ)) → n ≤ m → AreShort n texts → AreShort m texts
short_more n m [] le h = tt
short_more n m (text ∷ texts) le h = (let short = h.0 in omega arith, short_more n m texts le h.1)

-- the parts of a text are no longer than the text

take_short : (k : ℕ) (xs : List ℕ) → length (take k xs) ≤ length xs
take_short zero xs = omega arith
take_short (suc k) [] = omega arith
take_short (suc k) (x ∷ xs) = let h = take_short k xs in omega arith

drop_short : (k : ℕ) (xs : List ℕ) → length (drop k xs) ≤ length xs
drop_short k xs = omega (arith, length-drop k xs)

onto_short : (x n : ℕ) (parts : List (List ℕ)) → AreShort n parts → AreShort (suc n) (onto_first x parts)
onto_short x n [] h = (omega arith, tt)
onto_short x n (part ∷ parts) h = (let short = h.0 in omega arith, short_more n (suc n) parts (omega arith) h.1)

parts_short : (xs : List ℕ) → AreShort (length xs) (slice_split is_comma xs)
parts_short [] = (omega arith, tt)
parts_short (x ∷ xs) = by (is_comma x) (parts_short xs)
  where
    by : (b : Bool) → AreShort (length xs) (slice_split is_comma xs)
        → AreShort (suc (length xs)) (cond b ([] ∷ slice_split is_comma xs) (onto_first x (slice_split is_comma xs)))
    by true h = (omega arith, short_more (length xs) (suc (length xs)) (slice_split is_comma xs) (omega arith) h)
    by false h = onto_short x (length xs) (slice_split is_comma xs) h

listed_short : (n : ℕ) (xs : List ℕ) → length xs ≤ n → AreShort n (listed xs)
listed_short n [] h = tt
listed_short n (x ∷ xs) h = short_more (length (x ∷ xs)) n (slice_split is_comma (x ∷ xs)) h (parts_short (x ∷ xs))

abbrev cut_by : List ℕ → Option ℕ → Option (List ℕ × List ℕ)
cut_by text o = option_map (λ place. (take place text, drop (place + 1) text)) o

names_in_lists : (n : ℕ) (function rest : List ℕ) (p : Prototype) (o : Option ℕ) → length function ≤ n → length rest ≤ n → lists_of function (cut_by rest o)
    ≡ Some p → AreShort n (names p)
names_in_lists n function rest p None f r is = absurd (cc is)
names_in_lists n function rest p (Some k) f r is =
    let formals = take_short k rest in
    let locals = drop_short (k + 1) rest in
    let e : record { function = function; formals = listed (take k rest); locals = listed (drop (k + 1) rest) } ≡ p = cc is in
    subst (λ (q : Prototype). AreShort n (names q)) e (
      f,
      all_append (λ text. length text ≤ n) (listed (take k rest)) (listed (drop (k + 1) rest)) (listed_short n (take k rest) (omega arith))
          (listed_short n (drop (k + 1) rest) (omega arith)),
    )

names_in_text : (n : ℕ) (text : List ℕ) (p : Prototype) (o : Option ℕ) → length text ≤ n → prototype_in (cut_by text o) ≡ Some p → AreShort n (names p)
names_in_text n text p None h is = absurd (cc is)
names_in_text n text p (Some k) h is =
    let function = take_short k text in
    let rest = drop_short (k + 1) text in
    names_in_lists n (take k text) (drop (k + 1) text) p (position (λ b. b == 41) (drop (k + 1) text)) (omega arith) (omega arith) is

-- the names of a prototype
pub names_short : (n : ℕ) (text : List ℕ) (p : Prototype) → length text ≤ n → prototype text ≡ Some p → AreShort n (names p)
names_short n text p h is = names_in_text n text p (position (λ b. b == 40) text) h is

-- names that join

pub joined_numbered : (ns symbols : List (List ℕ)) → IsNumbered symbols → IsNumbered (with_names ns symbols)
joined_numbered [] symbols k = k
joined_numbered (name ∷ ns) symbols k = joined_numbered ns (if is_symbol name symbols then symbols else symbols ++ name ∷ []) (by (is_symbol name symbols) refl)
  where
    by : (b : Bool) → is_symbol name symbols ≡ b → IsNumbered (if b then symbols else symbols ++ name ∷ [])
    by true is = k
    by false is = numbered_with name symbols is k

pub joined_short : (n : ℕ) (ns symbols : List (List ℕ)) → AreShort n ns → AreShort n symbols → AreShort n (with_names ns symbols)
joined_short n [] symbols h k = k
joined_short n (name ∷ ns) symbols h k = joined_short n ns (if is_symbol name symbols then symbols else symbols ++ name ∷ []) h.1 (by (is_symbol name symbols))
  where
    by : (b : Bool) → AreShort n (if b then symbols else symbols ++ name ∷ [])
    by true = k
    by false = all_end (λ text. length text ≤ n) symbols name k h.0

-- the symbols behind a definition are those before it and the names of its prototype
data HasNames (text : List ℕ) (symbols new : List (List ℕ)) : Type 0 where
  has_names : (p : Prototype) → prototype text ≡ Some p → new ≡ with_names (names p) symbols → HasNames text symbols new

abbrev Told : Type 0
Told = Result (List (List ℕ) × List Function) ℕ

abbrev made_by : List ℕ → List (List ℕ) → List Function → Prototype → List (List ℕ) × List Function
made_by entry symbols functions p = (
  with_names (names p) symbols,
  with_function (place p.function (with_names (names p) symbols))
      (Defined (definition entry p (with_names (names p) symbols))) functions,
)

defined_names : (text entry : List ℕ) (symbols : List (List ℕ)) (functions : List Function) (new : List (List ℕ) × List Function)
    → with_definition text entry symbols functions ≡ Ok new → HasNames text symbols new.0
defined_names text entry symbols functions new is = by (prototype text) refl is
  where
    within : (p : Prototype) (many : Bool) → prototype text ≡ Some p → if◌then◌else◌ {A = Told} many (Err 9) (Ok (made_by entry symbols functions p)) ≡ Ok new
        → HasNames text symbols new.0
    within p true has is = absurd (cc is)
    within p false has is =
        let same : made_by entry symbols functions p ≡ new = cc is in
        has_names p has (sym (ap (λ (made : List (List ℕ) × List Function). made.0) same))

    sound : (p : Prototype) (b : Bool) → prototype text ≡ Some p → if◌then◌else◌ {A = Told} b (definition_in entry p (with_names (names p) symbols) functions)
        (Err 12) ≡ Ok new → HasNames text symbols new.0
    sound p true has is = within p (nat_lt 1_000_000 (length (with_names (names p) symbols))) has is
    sound p false has is = absurd (cc is)

    by : (o : Option Prototype) → prototype text ≡ o → definition_by entry symbols functions o ≡ Ok new → HasNames text symbols new.0
    by None has is = absurd (cc is)
    by (Some p) has is = sound p (is_sound p) has is

pub defined_numbered : (text entry : List ℕ) (symbols : List (List ℕ)) (functions : List Function) (new : List (List ℕ) × List Function)
    → with_definition text entry symbols functions ≡ Ok new → IsNumbered symbols → IsNumbered new.0
defined_numbered text entry symbols functions new is k = by (defined_names text entry symbols functions new is)
  where
    by : HasNames text symbols new.0 → IsNumbered new.0
    by (has_names p has same) = subst IsNumbered (sym same) (joined_numbered (names p) symbols k)

pub defined_short : (n : ℕ) (text entry : List ℕ) (symbols : List (List ℕ)) (functions : List Function) (new : List (List ℕ) × List Function)
    → with_definition text entry symbols functions ≡ Ok new → length text ≤ n
    → AreShort n symbols → AreShort n new.0
defined_short n text entry symbols functions new is short k = by (defined_names text entry symbols functions new is)
  where
    by : HasNames text symbols new.0 → AreShort n new.0
    by (has_names p has same) = subst (AreShort n) (sym same) (joined_short n (names p) symbols (names_short n text p short has) k)
