-- What DATA makes of a prototype's names.
use Rattle.std.proofs.Common.{◌≡◌, ℕ, suc, ◌+◌, ◌<◌, ◌≤◌, eqb, leb, ltb, Bool, true, false, not, ◌&&◌, cond, nat_lt, List, [], ◌∷◌, ◌++◌, length, map, take}
use Rattle.std.proofs.Common.{drop, get_or, position, if◌then◌else◌, Vec, Some, None, Result, Ok, Err, IsErrAnd, is_ok, refl, sym, ap, subst, ◌∙◌, arith}
use Rattle.std.specs.List.{list_all, list_any, position_or_len}
use Rattle.std.specs.Str.{bytes_eq}
use Rattle.std.specs.declared.alloc.Global.{Global}
use Rattle.std.proofs.lemmas.Bool.{and_parts, leb-true, eqb-true, ltb-false}
use Rattle.std.proofs.lemmas.List.{append-nil, length-map, at_drop_more, at_drop_all, take_more}
use Rattle.sno_value.specs.declared.ids.SymId.{SymId}
use Rattle.sno_store.specs.declared.error.StoreError.{StoreError}
use Rattle.sno_store.specs.declared.error.StoreError.TheVariants.{NullName, Full, WrongType, BadPrototype, CallLevel, NoMemory}
use Rattle.sno_store.specs.declared.functions.Function.{Function}
use Rattle.sno_store.specs.declared.functions.Function.TheVariants.{Constructs}
use Rattle.sno_store.specs.Store.{Store, place, is_symbol, IsJoined}
use Rattle.sno_store.specs.Definitions.{Prototype, is_name, names, prototype, with_names}
use Rattle.sno_store.specs.Functions.{with_function}
use Rattle.sno_store.specs.Outcomes.{IsError}
use Rattle.sno_store.specs.Symbols.{HasMore}
use Rattle.sno_store.specs.inner.Symbols.{AreTooMany, AreJoined, IsTypedByParts}
use Rattle.sno_store.specs.Types.{DataType, are_new, is_of_language, makes_type, data_type, with_fields, type_in, type_by, with_type}
use Rattle.sno_store.proofs.NameLaws.{given_number, placed, has_both}
use Rattle.sno_store.proofs.DefineLaws.{begun_symbols, begun_more}

-- a step of the look for a name that stands twice, with the name at i
module _ (first : List ℕ) (texts : List (List ℕ)) (i : ℕ) (name : List ℕ) (t : (i < length texts) × (name ≡ get_or texts i name)) where
  from_here : are_new (first ∷ take i texts) (drop i texts)
      ≡ (not (list_any (bytes_eq name) (first ∷ take i texts)) && are_new (first ∷ take (i + 1) texts) (drop (i + 1) texts))
  from_here =
      at_drop_more (are_new (first ∷ take i texts)) texts i name t.0 ∙ ap (λ n. are_new (first ∷ take i texts) (n ∷ drop (i + 1) texts)) (sym t.1)
      ∙ ap (λ ns. not (list_any (bytes_eq name) (first ∷ take i texts)) && are_new (first ∷ ns) (drop (i + 1) texts))
      (ap (λ n. take i texts ++ n ∷ []) t.1 ∙ sym (take_more texts i name t.0))

  -- one that is new
  pub step_new : list_any (bytes_eq name) (first ∷ take i texts) ≡ false → are_new (first ∷ take i texts) (drop i texts) ≡ are_new (first ∷ []) texts
      → are_new (first ∷ take (i + 1) texts) (drop (i + 1) texts) ≡ are_new (first ∷ []) texts
  step_new none same = sym (ap (λ b. not b && are_new (first ∷ take (i + 1) texts) (drop (i + 1) texts)) none) ∙ sym from_here ∙ same

  -- and one that isn't
  pub step_twice : list_any (bytes_eq name) (first ∷ take i texts) ≡ true → are_new (first ∷ take i texts) (drop i texts) ≡ are_new (first ∷ []) texts
      → false ≡ are_new (first ∷ []) texts
  step_twice twice same = sym (ap (λ b. not b && are_new (first ∷ take (i + 1) texts) (drop (i + 1) texts)) twice) ∙ sym from_here ∙ same

pub new_ends : (first : List ℕ) (texts : List (List ℕ)) (i : ℕ) → length texts ≤ i → are_new (first ∷ take i texts) (drop i texts) ≡ are_new (first ∷ []) texts
    → true ≡ are_new (first ∷ []) texts
new_ends first texts i end same = sym (at_drop_all (are_new (first ∷ take i texts)) texts i end) ∙ same

-- what a prototype that makes a type is
pub record IsMade (p : Prototype) : Type 0 where
  pub few : length p.formals ≤ 99
  pub alone : p.locals ≡ []
  pub function : is_name p.function ≡ true
  pub formals : list_all is_name p.formals ≡ true

none_left : (ns : List (List ℕ)) → length ns ≡ 0 → ns ≡ []
none_left [] h = refl
none_left (n ∷ ns) h = absurd (omega arith)

pub is_made : (p : Prototype) → makes_type p ≡ true → IsMade p
is_made p h =
    let one = and_parts _ (not (is_of_language p.function)) h in
    let two = and_parts _ (are_new (p.function ∷ []) p.formals) one.0 in
    let three = and_parts _ (list_all is_name p.formals) two.0 in
    let four = and_parts _ (is_name p.function) three.0 in
    let five = and_parts _ (eqb (length p.locals) 0) four.0 in
    let six = and_parts (leb 1 (length p.formals)) (leb (length p.formals) 99) five.0 in
    record {
      few = leb-true (length p.formals) 99 six.1;
      alone = none_left p.locals (eqb-true (length p.locals) 0 five.1);
      function = four.1;
      formals = three.1;
    }

-- all its names
pub made_names : (p : Prototype) → makes_type p ≡ true → names p ≡ p.function ∷ p.formals
made_names p h = ap (λ ns. p.function ∷ (p.formals ++ ns)) (is_made p h).alone ∙ ap (λ ns. p.function ∷ ns) (append-nil p.formals)

pub made_few : (p : Prototype) → makes_type p ≡ true → length (names p) ≤ 100
made_few p h = omega (arith, ap length (made_names p h), (is_made p h).few)

-- a type made by parts, one stage after another: the names of the type and of its fields join
module _ (p : Prototype) (made : makes_type p ≡ true) (old one two : Store) (f : SymId) (fields : Vec SymId Global)
    (h1 : IsJoined p.function old one (Ok f)) (h2 : AreJoined p.formals one two (Ok fields)) where
  type_symbols : two.symbols ≡ with_names (names p) old.symbols
  type_symbols = h2.0 ∙ ap (with_names p.formals) (begun_symbols p old one f h1) ∙ ap (λ ns. with_names ns old.symbols) (sym (made_names p made))

  its_place : f.0 ≡ place p.function two.symbols
  its_place =
      let given = given_number p.function old.symbols f.0 h1.0 in
      sym (ap (place p.function) h2.0 ∙ placed p.function p.formals one.symbols (ap (is_symbol p.function) (begun_symbols p old one f h1) ∙ given.is_one)
      ∙ ap (place p.function) (begun_symbols p old one f h1) ∙ given.at)

  pub type_more : HasMore old two
  type_more = has_both old one two (begun_more p old one f h1) h2.1

  same_functions : two.functions ≡ old.functions
  same_functions = ap (λ (c : Store). c.functions) type_more.others

  pub same_types : two.types ≡ old.types
  same_types = ap (λ (c : Store). c.types) type_more.others

  -- there are as many fields as names
  pub few_fields : length fields.items ≤ 99
  few_fields = omega (arith, ap length h2.2, mapped fields.items, named p.formals, (is_made p made).few)
    where
      mapped : (ids : List SymId) → length (map (λ (id : SymId). id.0) ids) ≡ length ids
      mapped [] = refl
      mapped (id ∷ ids) = ap suc (mapped ids)

      named : (ns : List (List ℕ)) → length (map (λ n. place n two.symbols) ns) ≡ length ns
      named [] = refl
      named (n ∷ ns) = ap suc (named ns)

  pub type_done : (new : Store) (t : DataType) (number : ℕ) (ts : List DataType) (fs : List Function) → new ≡ record two { types = ts; functions = fs }
      → ts ≡ two.types ++ t ∷ [] → t ≡ record { name = p.function; fields = map (λ id. id.0) fields.items } → number ≡ length two.types
      → fs ≡ with_fields (map (λ id. id.0) fields.items) (with_function f.0 (Constructs number) two.functions)
      → IsTypedByParts p old new (Ok tt)
  type_done new t number ts fs en ets et ek efs =
      let symbols : new.symbols ≡ two.symbols = ap (λ (c : Store). c.symbols) en in
      let kept : two ≡ record new { types = old.types; functions = old.functions } =
      (λ i. record two { types = same_types i; functions = same_functions i })
      ∙ sym (ap (λ (c : Store). record c { types = old.types; functions = old.functions }) en) in
      let its : t ≡ data_type p two.symbols = et ∙ (λ i. record { name = p.function; fields = h2.2 i }) in
      let types : new.types ≡ old.types ++ data_type p two.symbols ∷ [] = ap (λ (c : Store). c.types) en ∙ ets ∙ (λ i. same_types i ++ its i ∷ []) in
      let number_is : number ≡ length old.types = ek ∙ ap length same_types in
      let functions : new.functions ≡ with_fields (map (λ n. place n two.symbols) p.formals)
      (with_function (place p.function two.symbols) (Constructs (length old.types)) old.functions) =
      ap (λ (c : Store). c.functions) en ∙ efs ∙ (λ i. with_fields (h2.2 i) (with_function (its_place i) (Constructs (number_is i)) (same_functions i))) in (
        symbols ∙ type_symbols,
        subst (λ ss. length ss ≤ 1_000_000) (sym symbols) h2.3,
        subst (HasMore old) kept type_more,
        types ∙ ap (λ ss. old.types ++ data_type p ss ∷ []) (sym symbols),
        functions ∙ ap (λ ss. with_fields (map (λ n. place n ss) p.formals) (with_function (place p.function ss) (Constructs (length old.types)) old.functions))
            (sym symbols),
      )

-- a refusal of the parts that is passed on
pub type_passed : (p : Prototype) (old new : Store) (e : StoreError) (result : Result (Unit {0}) StoreError) → IsErrAnd result (λ r. r ≡ e)
    → AreTooMany (names p) old.symbols e × HasMore old new → IsTypedByParts p old new result
type_passed p old new e (Ok done) is h = absurd is
type_passed p old new e (Err r) is h = (subst (AreTooMany (names p) old.symbols) (sym is) h.0, h.1)

abbrev Typed : Type 0
Typed = List (List ℕ) × List DataType × List Function

module _ (text : List ℕ) (p : Prototype) (symbols : List (List ℕ)) (types : List DataType) (functions : List Function) (is : Some p ≡ prototype text)
    (made : makes_type p ≡ true)
    (room : eqb (length types) 100_000 ≡ false) where
  judged : with_type text symbols types functions ≡ type_in p (with_names (names p) symbols) types functions
  judged =
      ap (type_by symbols types functions) (sym is)
      ∙ ap (λ b. if b then (if eqb (length types) 100_000 then Err 9 else type_in p (with_names (names p) symbols) types functions) else Err 12) made
      ∙ ap (λ b. if b then Err 9 else type_in p (with_names (names p) symbols) types functions) room

  abbrev all_of : List (List ℕ) → Typed
  all_of ss = (
    ss,
    types ++ data_type p ss ∷ [],
    with_fields (map (λ n. place n ss) p.formals) (with_function (place p.function ss) (Constructs (length types)) functions),
  )

  accepted : ltb 1_000_000 (length (with_names (names p) symbols)) ≡ false → with_type text symbols types functions ≡ Ok (all_of (with_names (names p) symbols))
  accepted few = judged ∙ ap (λ b. if b then Err 9 else Ok (all_of (with_names (names p) symbols))) few

  -- a refusal where the symbols would not be too many
  pub type_refused : (e : StoreError) → ltb 1_000_000 (length (with_names (names p) symbols)) ≡ false → AreTooMany (names p) symbols e
      → IsError (with_type text symbols types functions) e
  type_refused NoMemory few h = ap is_ok (accepted few)
  type_refused Full few h = absurd (omega (arith, h, ltb-false 1_000_000 (length (with_names (names p) symbols)) few))
  type_refused NullName few h = absurd h
  type_refused WrongType few h = absurd h
  type_refused BadPrototype few h = absurd h
  type_refused CallLevel few h = absurd h

-- the place of a field by its symbol
pub position_mapped : {A B : Type 0} (f : A → B) (test : B → Bool) (xs : List A) → position test (map f xs) ≡ position (λ x. test (f x)) xs
position_mapped {A = A} f test xs =
    ap (λ n. if nat_lt n (length (map f xs)) then Some n else None) (at xs)
    ∙ ap (λ n. if nat_lt (position_or_len (λ x. test (f x)) xs) n then Some (position_or_len (λ x. test (f x)) xs) else None) (length-map xs f)
  where
    at : (ys : List A) → position_or_len test (map f ys) ≡ position_or_len (λ y. test (f y)) ys
    at [] = refl
    at (y ∷ ys) = ap (λ n. cond (not (test (f y))) (1 + n) 0) (at ys)
