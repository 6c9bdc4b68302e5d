-- Names that join the symbols, and what a store holds then.
use Rattle.std.proofs.Common.{◌≡◌, ℕ, suc, ◌+◌, ◌-◌, ◌<◌, ◌≤◌, eqb, Bool, true, false, ltb, List, [], ◌∷◌, ◌++◌, length, map, replicate, take, drop, get_or}
use Rattle.std.proofs.Common.{IsErrAnd, Vec, Result, Ok, Err, refl, sym, ap, subst, ◌∙◌, arith, if◌then◌else◌}
use Rattle.std.specs.Str.{bytes_eq}
use Rattle.std.specs.List.{list_all}
use Rattle.std.specs.declared.alloc.Global.{Global}
use Rattle.std.proofs.lemmas.List.Folds.{list_all_at}
use Rattle.std.proofs.lemmas.Bool.{ltb-true, ltb-false, lt-ltb, le-ltb, eqb-true, eqb-false, true_from_ne_false, both_ways}
use Rattle.std.proofs.lemmas.List.{append-nil, append_assoc, length-append, length-take, length_push, replicate-append-replicate, take_all, take_at, take-take}
use Rattle.std.proofs.lemmas.List.{at_drop_more, at_drop_all, map_push}
use Rattle.std.proofs.lemmas.Slice.Eq.{bytes_eq-Decides}
use Rattle.sno_value.specs.declared.ids.SymId.{SymId}
use Rattle.sno_value.specs.declared.value.Value.TheVariants.{Str}
use Rattle.sno_store.specs.declared.error.StoreError.{StoreError}
use Rattle.sno_store.specs.declared.error.StoreError.TheVariants.{NullName, Full, WrongType, BadPrototype, CallLevel, NoMemory}
use Rattle.sno_store.specs.Store.{Store, place, is_symbol, joining, with_symbol, IsJoined}
use Rattle.sno_store.specs.Definitions.{is_name, with_names}
use Rattle.sno_store.specs.Symbols.{HasMore}
use Rattle.sno_store.specs.inner.Symbols.{AreTooMany, AreJoined}

-- the symbols with one name
abbrev pub with_name : List ℕ → List (List ℕ) → List (List ℕ)
with_name name symbols = if is_symbol name symbols then symbols else symbols ++ name ∷ []

-- a symbol's place is the same among more
pub place_kept : (name : List ℕ) (symbols more : List (List ℕ)) → is_symbol name symbols ≡ true → place name (symbols ++ more) ≡ place name symbols
place_kept name [] more h = absurd (omega (arith, ltb-true 0 0 h))
place_kept name (symbol ∷ symbols) more h = by (bytes_eq name symbol) h (place_kept name symbols more)
  where
    by : (b : Bool) → ltb (if b then 0 else suc (place name symbols)) (suc (length symbols)) ≡ true
        → (is_symbol name symbols ≡ true → place name (symbols ++ more) ≡ place name symbols)
        → (if b then 0 else suc (place name (symbols ++ more))) ≡ (if b then 0 else suc (place name symbols))
    by true g rest = refl
    by false g rest =
        let inside = ltb-true (suc (place name symbols)) (suc (length symbols)) g in
        ap suc (rest (lt-ltb (place name symbols) (length symbols) (omega arith)))

-- a name that is no symbol has the next place
place_pushed : (name : List ℕ) (symbols : List (List ℕ)) → is_symbol name symbols ≡ false → place name (symbols ++ name ∷ []) ≡ length symbols
place_pushed name [] h = ap (λ b. if b then 0 else 1) ((bytes_eq-Decides name name).1 refl)
place_pushed name (symbol ∷ symbols) h = by (bytes_eq name symbol) h (place_pushed name symbols)
  where
    by : (b : Bool) → ltb (if b then 0 else suc (place name symbols)) (suc (length symbols)) ≡ false
        → (is_symbol name symbols ≡ false → place name (symbols ++ name ∷ []) ≡ length symbols)
        → (if b then 0 else suc (place name (symbols ++ name ∷ []))) ≡ suc (length symbols)
    by true g rest = absurd (omega (arith, ltb-false 0 (suc (length symbols)) g))
    by false g rest =
        let outside = ltb-false (suc (place name symbols)) (suc (length symbols)) g in
        ap suc (rest (le-ltb (place name symbols) (length symbols) (omega arith)))

pub is_joined : (name : List ℕ) (symbols : List (List ℕ)) → is_symbol name (with_name name symbols) ≡ true
is_joined name symbols = by (is_symbol name symbols) refl
  where
    by : (b : Bool) → is_symbol name symbols ≡ b → is_symbol name (if b then symbols else symbols ++ name ∷ []) ≡ true
    by true e = e
    by false e = lt-ltb (place name (symbols ++ name ∷ [])) (length (symbols ++ name ∷ []))
        (omega (arith, place_pushed name symbols e, length_push symbols name))

-- What a name that joined is given.
pub record IsGiven (name : List ℕ) (symbols : List (List ℕ)) (k : ℕ) : Type 0 where
  pub at : place name (with_name name symbols) ≡ k
  pub is_one : is_symbol name (with_name name symbols) ≡ true
  pub few : length symbols ≤ 1_000_000 → length (with_name name symbols) ≤ 1_000_000

abbrev number_by : Bool → Bool → ℕ → ℕ → Result ℕ StoreError
number_by found full k n = if found then Ok k else (if full then Err Full else Ok n)

given_by : (name : List ℕ) (symbols : List (List ℕ)) (k : ℕ) (found : Bool) → is_symbol name symbols ≡ found → (full : Bool)
    → eqb (length symbols) 1_000_000 ≡ full
    → number_by found full (place name symbols) (length symbols) ≡ Ok k → IsGiven name symbols k
given_by name symbols k true is full f e =
    let same : with_name name symbols ≡ symbols = ap (λ b. if b then symbols else symbols ++ name ∷ []) is in
    let number : place name symbols ≡ k = cc in
    record {
      at = ap (place name) same ∙ number;
      is_one = ap (is_symbol name) same ∙ is;
      few = λ h. subst (λ ss. length ss ≤ 1_000_000) (sym same) h;
    }
given_by name symbols k false is true f e = absurd (cc)
given_by name symbols k false is false f e =
    let more : with_name name symbols ≡ symbols ++ name ∷ [] = ap (λ b. if b then symbols else symbols ++ name ∷ []) is in
    let number : length symbols ≡ k = cc in
    let at = place_pushed name symbols is in
    record {
      at = ap (place name) more ∙ at ∙ number;
      is_one = ap (is_symbol name) more ∙ lt-ltb (place name (symbols ++ name ∷ [])) (length (symbols ++ name ∷ []))
          (omega (arith, at, length_push symbols name));
      few = λ h. subst (λ ss. length ss ≤ 1_000_000) (sym more) (omega (arith, length_push symbols name, h, eqb-false (length symbols) 1_000_000 f));
    }

pub given_number : (name : List ℕ) (symbols : List (List ℕ)) (k : ℕ) → joining name symbols ≡ Ok k → IsGiven name symbols k
given_number [] symbols k h = absurd (cc)
given_number (byte ∷ bytes) symbols k h = given_by (byte ∷ bytes) symbols k (is_symbol (byte ∷ bytes) symbols) refl (eqb (length symbols) 1_000_000) refl h

-- names only add symbols
one_added : (name : List ℕ) (symbols : List (List ℕ)) → (more : List (List ℕ)) × (with_name name symbols ≡ symbols ++ more)
one_added name symbols = by (is_symbol name symbols) refl
  where
    by : (b : Bool) → is_symbol name symbols ≡ b → (more : List (List ℕ)) × ((if b then symbols else symbols ++ name ∷ []) ≡ symbols ++ more)
    by true e = ([], sym (append-nil symbols))
    by false e = (name ∷ [], refl)

pub added : (ns symbols : List (List ℕ)) → (more : List (List ℕ)) × (with_names ns symbols ≡ symbols ++ more)
added [] symbols = ([], sym (append-nil symbols))
added (name ∷ ns) symbols =
    let first = one_added name symbols in
    let rest = added ns (with_name name symbols) in
    (first.0 ++ rest.0, rest.1 ∙ ap (λ ss. ss ++ rest.0) first.1 ∙ append_assoc symbols first.0 rest.0)

pub with_names-append : (xs ys symbols : List (List ℕ)) → with_names (xs ++ ys) symbols ≡ with_names ys (with_names xs symbols)
with_names-append [] ys symbols = refl
with_names-append (x ∷ xs) ys symbols = with_names-append xs ys (with_name x symbols)

pub grown : (ns symbols : List (List ℕ)) → length symbols ≤ length (with_names ns symbols)
grown ns symbols = let more = added ns symbols in omega (arith, ap length more.1, length-append symbols more.0)

-- the place of a name that joined, among the symbols that all names make
pub placed : (name : List ℕ) (ns symbols : List (List ℕ)) → is_symbol name symbols ≡ true → place name (with_names ns symbols) ≡ place name symbols
placed name ns symbols h = let more = added ns symbols in ap (place name) more.1 ∙ place_kept name symbols more.0 h

-- names before and behind those that are too many
pub too_many_more : (xs ys symbols : List (List ℕ)) (e : StoreError) → AreTooMany xs symbols e → AreTooMany (xs ++ ys) symbols e
too_many_more xs ys symbols NoMemory h = h
too_many_more xs ys symbols Full h =
    subst (λ ss. 1_000_000 < length ss) (sym (with_names-append xs ys symbols)) (omega (arith, h, grown ys (with_names xs symbols)))
too_many_more xs ys symbols NullName h = h
too_many_more xs ys symbols WrongType h = h
too_many_more xs ys symbols BadPrototype h = h
too_many_more xs ys symbols CallLevel h = h

pub too_many_behind : (xs ys symbols : List (List ℕ)) (e : StoreError) → AreTooMany ys (with_names xs symbols) e → AreTooMany (xs ++ ys) symbols e
too_many_behind xs ys symbols NoMemory h = h
too_many_behind xs ys symbols Full h = subst (λ ss. 1_000_000 < length ss) (sym (with_names-append xs ys symbols)) h
too_many_behind xs ys symbols NullName h = h
too_many_behind xs ys symbols WrongType h = h
too_many_behind xs ys symbols BadPrototype h = h
too_many_behind xs ys symbols CallLevel h = h

-- a name that finds no room
full_by : (name : List ℕ) (symbols : List (List ℕ)) (found : Bool) → is_symbol name symbols ≡ found → (full : Bool) → eqb (length symbols) 1_000_000 ≡ full
    → number_by found full (place name symbols) (length symbols) ≡ Err Full → 1_000_000 < length (with_name name symbols)
full_by name symbols true is full f e = absurd (cc)
full_by name symbols false is true f e =
    let more : with_name name symbols ≡ symbols ++ name ∷ [] = ap (λ b. if b then symbols else symbols ++ name ∷ []) is in
    subst (λ ss. 1_000_000 < length ss) (sym more) (omega (arith, length_push symbols name, eqb-true (length symbols) 1_000_000 f))
full_by name symbols false is false f e = absurd (cc)

others_by : (found full : Bool) (k n : ℕ) (e : StoreError) → number_by found full k n ≡ Err e → e ≡ Full
others_by true full k n e h = absurd (cc)
others_by false true k n e h = cc
others_by false false k n e h = absurd (cc)

-- why a name could not join, of some names behind it
stopped_by : (name : List ℕ) (ns symbols : List (List ℕ)) (e : StoreError) → is_name name ≡ true → joining name symbols ≡ Err e
    → AreTooMany (name ∷ ns) symbols e
stopped_by [] ns symbols e is h = absurd (cc)
stopped_by (byte ∷ bytes) ns symbols e is h =
    let full : e ≡ Full = others_by (is_symbol (byte ∷ bytes) symbols) (eqb (length symbols) 1_000_000) (place (byte ∷ bytes) symbols) (length symbols) e h in
    let room = full_by (byte ∷ bytes) symbols (is_symbol (byte ∷ bytes) symbols) refl (eqb (length symbols) 1_000_000) refl (h ∙ ap Err full) in
    subst (AreTooMany ((byte ∷ bytes) ∷ ns) symbols) (sym full) (omega (arith, room, grown ns (with_name (byte ∷ bytes) symbols)))

pub stopped : (name : List ℕ) (ns : List (List ℕ)) (old new : Store) (e : StoreError) → is_name name ≡ true → IsJoined name old new (Err e)
    → AreTooMany (name ∷ ns) old.symbols e × (new ≡ old)
stopped name ns old new NoMemory is h = (tt, h.1)
stopped name ns old new NullName is h = (stopped_by name ns old.symbols NullName is h.0, h.1)
stopped name ns old new Full is h = (stopped_by name ns old.symbols Full is h.0, h.1)
stopped name ns old new WrongType is h = (stopped_by name ns old.symbols WrongType is h.0, h.1)
stopped name ns old new BadPrototype is h = (stopped_by name ns old.symbols BadPrototype is h.0, h.1)
stopped name ns old new CallLevel is h = (stopped_by name ns old.symbols CallLevel is h.0, h.1)

pub too_many_same : (xs ys a b : List (List ℕ)) (e : StoreError) → with_names xs a ≡ with_names ys b → AreTooMany xs a e → AreTooMany ys b e
too_many_same xs ys a b NoMemory same h = h
too_many_same xs ys a b Full same h = subst (λ ss. 1_000_000 < length ss) same h
too_many_same xs ys a b NullName same h = h
too_many_same xs ys a b WrongType same h = h
too_many_same xs ys a b BadPrototype same h = h
too_many_same xs ys a b CallLevel same h = h

-- one of texts that all pass
all_at : (test : List ℕ → Bool) (texts : List (List ℕ)) (i : ℕ) (d : List ℕ) → i < length texts → list_all test texts ≡ true → test (get_or texts i d) ≡ true
all_at test texts i d within all =
    true_from_ne_false (test (get_or texts i d)) (λ none. both_ways (list_all test texts) (list_all_at test texts i d within none) all)

-- no symbols more
pub has_none : (c : Store) → HasMore c c
has_none c = record {
  symbols = take_all (length c.symbols) c.symbols (omega arith);
  others = let none : length c.symbols - length c.symbols ≡ 0 =
      omega arith in ap (λ vs. record c { values = vs }) (sym (ap (λ n. c.values ++ replicate n (Str [])) none ∙ append-nil c.values));
}

-- one name more
pub has_one : (name : List ℕ) (c : Store) → HasMore c (with_symbol name c)
has_one name c = by (is_symbol name c.symbols)
  where
    by : (b : Bool) → HasMore c (if b then c else record c { symbols = c.symbols ++ name ∷ []; values = c.values ++ Str [] ∷ [] })
    by true = has_none c
    by false =
        let one : 1 ≡ length (c.symbols ++ name ∷ []) - length c.symbols = omega (arith, length_push c.symbols name) in
        record {
          symbols = take_at c.symbols (name ∷ []) (length c.symbols) refl;
          others = ap (λ n. record c { symbols = c.symbols ++ name ∷ []; values = c.values ++ replicate n (Str []) }) one;
        }

pub with_symbol_symbols : (name : List ℕ) (c : Store) → (with_symbol name c).symbols ≡ with_name name c.symbols
with_symbol_symbols name c = by (is_symbol name c.symbols)
  where
    by : (b : Bool) → (if b then c else record c { symbols = c.symbols ++ name ∷ []; values = c.values ++ Str [] ∷ [] }).symbols
        ≡ (if b then c.symbols else c.symbols ++ name ∷ [])
    by true = refl
    by false = refl

-- more, and more behind that
pub has_both : (a b c : Store) → HasMore a b → HasMore b c → HasMore a c
has_both a b c h g =
    let first : length a.symbols ≤ length b.symbols = omega (arith, ap length h.symbols, length-take (length a.symbols) b.symbols) in
    let second : length b.symbols ≤ length c.symbols = omega (arith, ap length g.symbols, length-take (length b.symbols) c.symbols) in
    let counts : (length b.symbols - length a.symbols) + (length c.symbols - length b.symbols) ≡ length c.symbols - length a.symbols = omega arith in
    let values = append_assoc a.values (replicate (length b.symbols - length a.symbols) (Str [])) (replicate (length c.symbols - length b.symbols) (Str []))
    ∙ ap (λ vs. a.values ++ vs) (replicate-append-replicate (length b.symbols - length a.symbols) (length c.symbols - length b.symbols) (Str [])
    ∙ ap (λ n. replicate n (Str [])) counts) in
    record {
      symbols = sym (take-take (length a.symbols) (length b.symbols) c.symbols first) ∙ ap (take (length a.symbols)) g.symbols ∙ h.symbols;
      others =
          g.others ∙ ap (λ (x : Store). record x { symbols = c.symbols; values = x.values ++ replicate (length c.symbols - length b.symbols) (Str []) })
          h.others
          ∙ ap (λ vs. record a { symbols = c.symbols; values = vs }) values;
    }

-- a step of the call that joins names, with the name at i
module _ (texts : List (List ℕ)) (i : ℕ) (name : List ℕ) (t : (i < length texts) × (name ≡ get_or texts i name)) (initial : List (List ℕ))
    (old new : Store) where
  -- the symbols that all names make, from here on
  from_here : with_names (drop i texts) old.symbols ≡ with_names (name ∷ drop (i + 1) texts) old.symbols
  from_here =
      at_drop_more (λ ns. with_names ns old.symbols) texts i name t.0 ∙ ap (λ n. with_names (n ∷ drop (i + 1) texts) old.symbols) (sym t.1)

  pub step_stopped : (e : StoreError) → list_all is_name texts ≡ true → IsJoined name old new (Err e) → with_names (drop i texts) old.symbols
      ≡ with_names texts initial
      → AreTooMany texts initial e × (new ≡ old)
  step_stopped e are h same =
      let is : is_name name ≡ true = ap is_name t.1 ∙ all_at is_name texts i name t.0 are in
      let why = stopped name (drop (i + 1) texts) old new e is h in
      (too_many_same (name ∷ drop (i + 1) texts) texts old.symbols initial e (sym from_here ∙ same) why.0, why.1)

  module _ (id : SymId) (h : IsJoined name old new (Ok id)) (same : with_names (drop i texts) old.symbols ≡ with_names texts initial) where
    joined : new.symbols ≡ with_name name old.symbols
    joined = ap (λ (c : Store). c.symbols) h.1 ∙ with_symbol_symbols name old

    pub step_symbols : with_names (drop (i + 1) texts) new.symbols ≡ with_names texts initial
    step_symbols = ap (with_names (drop (i + 1) texts)) joined ∙ sym from_here ∙ same

    pub step_few : length old.symbols ≤ 1_000_000 → length new.symbols ≤ 1_000_000
    step_few few = subst (λ ss. length ss ≤ 1_000_000) (sym joined) ((given_number name old.symbols id.0 h.0).few few)

    pub step_more : (first : Store) → HasMore first old → HasMore first new
    step_more first more = has_both first old new more (subst (HasMore old) (sym h.1) (has_one name old))

    its_number : place name (with_names texts initial) ≡ id.0
    its_number =
        let given = given_number name old.symbols id.0 h.0 in
        ap (place name) (sym step_symbols) ∙ placed name (drop (i + 1) texts) new.symbols (ap (is_symbol name) joined ∙ given.is_one)
        ∙ ap (place name) joined ∙ given.at

    pub step_numbers : (so_far now : List SymId) → now ≡ so_far ++ id ∷ []
        → map (λ id. id.0) so_far ++ map (λ n. place n (with_names texts initial)) (drop i texts) ≡ map (λ n. place n (with_names texts initial)) texts
        → map (λ id. id.0) now ++ map (λ n. place n (with_names texts initial)) (drop (i + 1) texts) ≡ map (λ n. place n (with_names texts initial)) texts
    step_numbers so_far now pushed all =
        let P : List ℕ → ℕ = λ n. place n (with_names texts initial) in
        let number : (λ (id : SymId). id.0) id ≡ P name = sym its_number in
        ap (λ ids. map (λ (id : SymId). id.0) ids ++ map P (drop (i + 1) texts)) pushed
        ∙ ap (λ ks. ks ++ map P (drop (i + 1) texts)) (map_push (λ (id : SymId). id.0) so_far id)
        ∙ append_assoc (map (λ (id : SymId). id.0) so_far) (id.0 ∷ []) (map P (drop (i + 1) texts))
        ∙ ap (λ k. map (λ (id : SymId). id.0) so_far ++ k ∷ map P (drop (i + 1) texts)) number
        ∙ ap (λ n. map (λ (id : SymId). id.0) so_far ++ P n ∷ map P (drop (i + 1) texts)) t.1
        ∙ sym (ap (λ ks. map (λ (id : SymId). id.0) so_far ++ ks) (at_drop_more (map P) texts i name t.0)) ∙ all

-- behind the last name
pub join_ends : (texts : List (List ℕ)) (i : ℕ) (initial symbols : List (List ℕ)) (ids : List SymId) → length texts ≤ i
    → with_names (drop i texts) symbols ≡ with_names texts initial
    → map (λ id. id.0) ids ++ map (λ n. place n (with_names texts initial)) (drop i texts) ≡ map (λ n. place n (with_names texts initial)) texts
    → (symbols ≡ with_names texts initial) × (map (λ id. id.0) ids ≡ map (λ n. place n symbols) texts)
join_ends texts i initial symbols ids end same all =
    let whole : symbols ≡ with_names texts initial = sym (at_drop_all (λ ns. with_names ns symbols) texts i end) ∙ same in
    let P : List ℕ → ℕ = λ n. place n (with_names texts initial) in (
      whole,
      sym (append-nil (map (λ (id : SymId). id.0) ids)) ∙ sym (ap (λ ks. map (λ (id : SymId). id.0) ids ++ ks) (at_drop_all (map P) texts i end)) ∙ all
          ∙ ap (λ ss. map (λ n. place n ss) texts) (sym whole),
    )

-- a refusal that is passed on
pub join_passed : (ns : List (List ℕ)) (old new : Store) (e : StoreError) (result : Result (Vec SymId Global) StoreError) → IsErrAnd result (λ r. r ≡ e)
    → AreTooMany ns old.symbols e × HasMore old new → AreJoined ns old new result
join_passed ns old new e (Ok ids) is h = absurd is
join_passed ns old new e (Err r) is h = (subst (AreTooMany ns old.symbols) (sym is) h.0, h.1)
