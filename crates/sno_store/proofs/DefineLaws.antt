-- What DEFINE makes of a prototype's names.
use Rattle.std.proofs.Common.{◌≡◌, ℕ, ◌<◌, ◌≤◌, Bool, true, false, not, ◌&&◌, leb, List, [], ◌∷◌, ◌++◌, ◌-◌, length, map, take, replicate, ltb, if◌then◌else◌}
use Rattle.std.proofs.Common.{Vec, Some, Result, Ok, Err, IsErrAnd, is_ok, refl, sym, ap, subst, ◌∙◌, arith}
use Rattle.std.specs.List.{list_all}
use Rattle.std.specs.declared.alloc.Global.{Global}
use Rattle.std.proofs.lemmas.Bool.{and_parts, leb-true, ltb-true, ltb-false, lt-ltb}
use Rattle.std.proofs.lemmas.List.Folds.{list_all-append}
use Rattle.sno_value.specs.declared.ids.SymId.{SymId}
use Rattle.sno_value.specs.declared.value.Value.{Value}
use Rattle.sno_value.specs.declared.value.Value.TheVariants.{Str}
use Rattle.std.proofs.lemmas.List.{take_at}
use Rattle.sno_store.specs.declared.error.StoreError.{StoreError}
use Rattle.sno_store.specs.declared.error.StoreError.TheVariants.{NullName, Full, WrongType, BadPrototype, CallLevel, NoMemory}
use Rattle.sno_store.specs.Store.{Store, place, is_symbol, IsJoined}
use Rattle.sno_store.specs.Definitions.{Definition, Prototype, is_name, is_device, names, is_sound, entry_label, with_names, definition, prototype}
use Rattle.sno_store.specs.declared.functions.Function.{Function}
use Rattle.sno_store.specs.declared.functions.Function.TheVariants.{Defined}
use Rattle.sno_store.specs.Functions.{with_function, definition_in, definition_by, with_definition}
use Rattle.sno_store.specs.Outcomes.{IsError}
use Rattle.sno_store.specs.Symbols.{HasMore}
use Rattle.sno_store.specs.inner.Symbols.{AreTooMany, AreJoined, IsDefinedByParts}
use Rattle.sno_store.proofs.NameLaws.{with_name, place_kept, is_joined, given_number, added, with_names-append, placed, grown, has_both, has_one}
use Rattle.sno_store.proofs.NameLaws.{with_symbol_symbols, too_many_more, too_many_behind, too_many_same}

-- whether a name may be one of a prototype
abbrev pub may_be : List ℕ → Bool
may_be name = is_name name && not (is_device name)

are_names : (ns : List (List ℕ)) → list_all may_be ns ≡ true → list_all is_name ns ≡ true
are_names [] h = refl
are_names (n ∷ ns) h =
    let parts = and_parts (may_be n) (list_all may_be ns) h in
    let first = and_parts (is_name n) (not (is_device n)) parts.0 in
    (λ i. first.0 i && are_names ns parts.1 i)

-- the names of a sound prototype are names
pub record HasNames (p : Prototype) : Type 0 where
  pub function : is_name p.function ≡ true
  pub formals : list_all is_name p.formals ≡ true
  pub locals : list_all is_name p.locals ≡ true

pub sound_names : (p : Prototype) → is_sound p ≡ true → HasNames p
sound_names p h =
    let all = and_parts (leb (length (names p)) 100) (list_all may_be (names p)) h in
    let parts = and_parts (may_be p.function) (list_all may_be (p.formals ++ p.locals)) all.1 in
    let others = and_parts (list_all may_be p.formals) (list_all may_be p.locals) (sym (list_all-append may_be p.formals p.locals) ∙ parts.1) in
    record {
      function = (and_parts (is_name p.function) (not (is_device p.function)) parts.0).0;
      formals = are_names p.formals others.0;
      locals = are_names p.locals others.1;
    }

-- and there are few
pub sound_few : (p : Prototype) → is_sound p ≡ true → length (names p) ≤ 100
sound_few p h = leb-true (length (names p)) 100 (and_parts (leb (length (names p)) 100) (list_all may_be (names p)) h).0

still_symbol : (name : List ℕ) (ns symbols : List (List ℕ)) → is_symbol name symbols ≡ true → is_symbol name (with_names ns symbols) ≡ true
still_symbol name ns symbols h =
    lt-ltb (place name (with_names ns symbols)) (length (with_names ns symbols))
    (omega (arith, placed name ns symbols h, grown ns symbols, ltb-true (place name symbols) (length symbols) h))

-- names that joined have the same places among more symbols
places_kept : (ns symbols more : List (List ℕ)) → map (λ n. place n (with_names ns symbols ++ more)) ns ≡ map (λ n. place n (with_names ns symbols)) ns
places_kept [] symbols more = refl
places_kept (n ∷ ns) symbols more =
    let first = place_kept n (with_names ns (with_name n symbols)) more (still_symbol n ns (with_name n symbols) (is_joined n symbols)) in
    (λ i. first i ∷ places_kept ns (with_name n symbols) more i)

joined_later : (ns ms symbols : List (List ℕ)) → map (λ n. place n (with_names ms (with_names ns symbols))) ns ≡ map (λ n. place n (with_names ns symbols)) ns
joined_later ns ms symbols =
    let more = added ms (with_names ns symbols) in ap (λ ss. map (λ n. place n ss) ns) more.1 ∙ places_kept ns symbols more.0

pub label_is : (entry function : List ℕ) → 0 < length entry → entry_label entry function ≡ entry
label_is [] function h = absurd (omega arith)
label_is (byte ∷ bytes) function h = refl

pub label_null : (entry function : List ℕ) → length entry ≡ 0 → entry_label entry function ≡ function
label_null [] function h = refl
label_null (byte ∷ bytes) function h = absurd (omega arith)

-- the function's name joined
pub begun_symbols : (p : Prototype) (old one : Store) (f : SymId) → IsJoined p.function old one (Ok f) → one.symbols ≡ with_name p.function old.symbols
begun_symbols p old one f h = ap (λ (c : Store). c.symbols) h.1 ∙ with_symbol_symbols p.function old

pub begun_more : (p : Prototype) (old one : Store) (f : SymId) → IsJoined p.function old one (Ok f) → HasMore old one
begun_more p old one f h = subst (HasMore old) (sym h.1) (has_one p.function old)

-- and the formals, or the locals, could not
pub formals_stopped : (p : Prototype) (old one : Store) (f : SymId) (e : StoreError) → IsJoined p.function old one (Ok f)
    → AreTooMany p.formals one.symbols e → AreTooMany (names p) old.symbols e
formals_stopped p old one f e h many =
    let all = too_many_more p.formals p.locals one.symbols e many in
    too_many_same (p.formals ++ p.locals) (names p) one.symbols old.symbols e (ap (with_names (p.formals ++ p.locals)) (begun_symbols p old one f h)) all

pub locals_stopped : (p : Prototype) (old one two : Store) (f : SymId) (e : StoreError) → IsJoined p.function old one (Ok f)
    → two.symbols ≡ with_names p.formals one.symbols
    → AreTooMany p.locals two.symbols e → AreTooMany (names p) old.symbols e
locals_stopped p old one two f e h formals many =
    let behind = too_many_behind p.formals p.locals one.symbols e (subst (λ ss. AreTooMany p.locals ss e) formals many) in
    too_many_same (p.formals ++ p.locals) (names p) one.symbols old.symbols e (ap (with_names (p.formals ++ p.locals)) (begun_symbols p old one f h)) behind

-- a function defined by parts, one stage after another: the names of the function, of its formals and of its locals join
module _ (p : Prototype) (entry : List ℕ) (old one two three : Store) (f : SymId) (formals locals : Vec SymId Global)
    (h1 : IsJoined p.function old one (Ok f)) (h2 : AreJoined p.formals one two (Ok formals)) (h3 : AreJoined p.locals two three (Ok locals)) where
  last_symbols : three.symbols ≡ with_names (p.formals ++ p.locals) one.symbols
  last_symbols = h3.0 ∙ ap (with_names p.locals) h2.0 ∙ sym (with_names-append p.formals p.locals one.symbols)

  all_symbols : three.symbols ≡ with_names (names p) old.symbols
  all_symbols = last_symbols ∙ ap (with_names (p.formals ++ p.locals)) (begun_symbols p old one f h1)

  its_place : f.0 ≡ place p.function three.symbols
  its_place =
      let given = given_number p.function old.symbols f.0 h1.0 in
      sym (ap (place p.function) last_symbols ∙ placed p.function (p.formals ++ p.locals) one.symbols (ap (is_symbol p.function) (begun_symbols p old one f h1)
      ∙ given.is_one) ∙ ap (place p.function) (begun_symbols p old one f h1) ∙ given.at)

  its_formals : map (λ id. id.0) formals.items ≡ map (λ n. place n three.symbols) p.formals
  its_formals =
      h2.2 ∙ ap (λ ss. map (λ n. place n ss) p.formals) h2.0 ∙ sym (joined_later p.formals p.locals one.symbols)
      ∙ ap (λ ss. map (λ n. place n ss) p.formals) (ap (with_names p.locals) (sym h2.0) ∙ sym h3.0)

  pub more_all : HasMore old three
  more_all = has_both old one three (begun_more p old one f h1) (has_both one two three h2.1 h3.1)

  same_functions : three.functions ≡ old.functions
  same_functions = ap (λ (c : Store). c.functions) more_all.others

  pub parts_done : (new : Store) (d : Definition) (ds : List Function) → new ≡ record three { functions = ds }
      → ds ≡ with_function f.0 (Defined d) three.functions
      → d ≡ record { entry = entry_label entry p.function; formals = map (λ id. id.0) formals.items; locals = map (λ id. id.0) locals.items }
      → IsDefinedByParts p entry old new (Ok tt)
  parts_done new d ds en eds ed =
      let symbols : new.symbols ≡ three.symbols = ap (λ (c : Store). c.symbols) en in
      let kept : three ≡ record new { functions = old.functions } =
      (λ i. record three { functions = same_functions i }) ∙ sym (ap (λ (c : Store). record c { functions = old.functions }) en) in
      let its : d ≡ definition entry p three.symbols =
      ed ∙ (λ i. record { entry = entry_label entry p.function; formals = its_formals i; locals = h3.2 i }) in
      let all : new.functions ≡ with_function (place p.function three.symbols) (Defined (definition entry p three.symbols)) old.functions =
      ap (λ (c : Store). c.functions) en ∙ eds ∙ (λ i. with_function (its_place i) (Defined (its i)) (same_functions i)) in (
        symbols ∙ all_symbols,
        subst (λ ss. length ss ≤ 1_000_000) (sym symbols) h3.3,
        subst (HasMore old) kept more_all,
        all ∙ ap (λ ss. with_function (place p.function ss) (Defined (definition entry p ss)) old.functions) (sym symbols),
      )

-- a refusal of the parts that is passed on
pub parts_passed : (p : Prototype) (entry : List ℕ) (old new : Store) (e : StoreError) (result : Result (Unit {0}) StoreError) → IsErrAnd result (λ r. r ≡ e)
    → AreTooMany (names p) old.symbols e × HasMore old new → IsDefinedByParts p entry old new result
parts_passed p entry old new e (Ok done) is h = absurd is
parts_passed p entry old new e (Err r) is h = (subst (AreTooMany (names p) old.symbols) (sym is) h.0, h.1)

-- a refusal where the symbols would not be too many
pub define_refused : (text entry : List ℕ) (p : Prototype) (symbols : List (List ℕ)) (functions : List Function) (e : StoreError)
    → Some p ≡ prototype text → is_sound p ≡ true
    → ltb 1_000_000 (length (with_names (names p) symbols)) ≡ false → AreTooMany (names p) symbols e → IsError (with_definition text entry symbols functions) e
define_refused text entry p symbols functions e is sound room why = by e why
  where
    meant : with_definition text entry symbols functions
        ≡ Ok (
          with_names (names p) symbols,
          with_function (place p.function (with_names (names p) symbols))
              (Defined (definition entry p (with_names (names p) symbols))) functions,
        )
    meant =
        ap (definition_by entry symbols functions) (sym is)
        ∙ ap (λ b. if b then definition_in entry p (with_names (names p) symbols) functions else Err 12) sound
        ∙ ap (λ b. if b then Err 9
        else Ok (
          with_names (names p) symbols,
          with_function (place p.function (with_names (names p) symbols))
              (Defined (definition entry p (with_names (names p) symbols))) functions,
        )) room

    by : (e : StoreError) → AreTooMany (names p) symbols e → IsError (with_definition text entry symbols functions) e
    by NoMemory h = ap is_ok meant
    by Full h = absurd (omega (arith, h, ltb-false 1_000_000 (length (with_names (names p) symbols)) room))
    by NullName h = absurd h
    by WrongType h = absurd h
    by BadPrototype h = absurd h
    by CallLevel h = absurd h

-- what joined is taken back
pub taken_back : (old new : Store) (count : ℕ) (symbols : List (List ℕ)) (values : List Value) → HasMore old new → count ≡ length old.symbols
    → length old.values ≡ length old.symbols
    → symbols ≡ take count new.symbols → values ≡ take count new.values → record new { symbols = symbols; values = values } ≡ old
taken_back old new count symbols values more all same es ev =
    let ss : symbols ≡ old.symbols = es ∙ ap (λ n. take n new.symbols) all ∙ more.symbols in
    let vs : values ≡ old.values =
    ev ∙ ap (take count) (ap (λ (c : Store). c.values) more.others) ∙ take_at old.values (replicate (length new.symbols - length old.symbols) (Str []))
    count (same ∙ sym all) in
    (λ i. record new { symbols = ss i; values = vs i }) ∙ ap (λ (c : Store). record c { symbols = old.symbols; values = old.values }) more.others
