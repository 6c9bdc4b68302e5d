-- Calls: what is moved out of variables, what is seen of it, and what comes back.
use Rattle.std.proofs.Common.{◌≡◌, ℕ, ◌+◌, ◌-◌, ◌<◌, ◌≤◌, eqb, Bool, true, false, ◌==◌, ◌⊎◌, inl, inr, Some, slice_get}
use Rattle.std.proofs.Common.{List, [], ◌∷◌, ◌++◌, length, map, get_or, set}
use Rattle.std.proofs.Common.{zero, suc, take, drop, None}
use Rattle.std.proofs.Common.{refl, sym, ap, ◌∙◌, arith, if◌then◌else◌}
use Rattle.std.specs.List.{list_any, sum}
use Rattle.std.proofs.lemmas.Bool.{eqb-true, eqb-false, cases_lt, or_from, or_parts}
use Rattle.std.proofs.lemmas.List.{length-set, get_or-set_same, get_or-set_other, get_or_past, set-set, set_comm, same_lists, map-append}
use Rattle.std.proofs.lemmas.List.{length-append, length-drop, length-take-le, take_all, drop_all, drop_more, take-append-le, drop-append-le, take-append-drop}
use Rattle.std.proofs.lemmas.List.{nil_from_length, append_assoc}
use Rattle.std.proofs.lemmas.List.Sums.{sum_by-cons, sum_by_push}
use Rattle.sno_value.specs.declared.ids.SymId.{SymId}
use Rattle.sno_value.specs.declared.value.Value.{Value}
use Rattle.sno_value.specs.declared.value.Value.TheVariants.{Str}
use Rattle.sno_store.specs.Calls.{with_nulls, with_arguments, entered, restored, function_value}
use Rattle.sno_store.specs.Definitions.{Definition}
use Rattle.sno_store.specs.inner.Seen.{moved, known, numbered, saved_seen, calls_seen}

abbrev pub numbers : List SymId → List ℕ
numbers symbols = map (λ symbol. symbol.0) symbols

-- a variable is null, and what it had is known
kept_value : {V : Type 0} (null : V) (values : List V) (s t : ℕ)
    → (if s == t then get_or values s null else get_or (set values s null) t null) ≡ get_or values t null
kept_value {V} null values s t = by (eqb s t) refl
  where
    by : (b : Bool) → eqb s t ≡ b → (if b then get_or values s null else get_or (set values s null) t null) ≡ get_or values t null
    by true e = ap (λ k. get_or values k null) (eqb-true s t e)
    by false e = get_or-set_other values s t null null (λ same. eqb-false s t e (sym same))

known_rest : (values : List Value) (s : ℕ) (ts : List ℕ) →
    known s (get_or values s (Str [])) (map (λ t. (t, get_or (set values s (Str [])) t (Str []))) ts) ≡ map (λ t. (t, get_or values t (Str []))) ts
known_rest values s [] = refl
known_rest values s (t ∷ ts) = (λ n. (t, kept_value (Str []) values s t n) ∷ known_rest values s ts n)

-- what is seen of values that were moved: each symbol with what its variable had
seen_moved : (symbols : List SymId) (values : List Value) → saved_seen (moved symbols values) ≡ map (λ t. (t, get_or values t (Str []))) (numbers symbols)
seen_moved [] values = refl
seen_moved (symbol ∷ symbols) values =
    ap (λ ss. (symbol.0, get_or values symbol.0 (Str [])) ∷ known symbol.0 (get_or values symbol.0 (Str [])) ss)
    (seen_moved symbols (set values symbol.0 (Str [])))
    ∙ ap (λ ss. (symbol.0, get_or values symbol.0 (Str [])) ∷ ss) (known_rest values symbol.0 (numbers symbols))

moved-append : (xs ys : List SymId) (values : List Value) → moved (xs ++ ys) values ≡ moved xs values ++ moved ys (with_nulls (Str []) (numbers xs) values)
moved-append [] ys values = refl
moved-append (x ∷ xs) ys values = ap (λ ms. (x, get_or values x.0 (Str [])) ∷ ms) (moved-append xs ys (set values x.0 (Str [])))

-- what is set before is set again
set_through : {V : Type 0} (xs ys : List V) (j k : ℕ) (a v : V) → set xs k v ≡ set ys k v → set (set xs j a) k v ≡ set (set ys j a) k v
set_through xs ys j k a v h = by (eqb j k) refl
  where
    by : (b : Bool) → eqb j k ≡ b → set (set xs j a) k v ≡ set (set ys j a) k v
    by true e =
        ap (λ i. set (set xs i a) k v) (eqb-true j k e) ∙ set-set xs k a v ∙ h ∙ sym (set-set ys k a v) ∙ ap (λ i. set (set ys i a) k v) (sym (eqb-true j k e))
    by false e = set_comm xs j k a v (eqb-false j k e) ∙ ap (λ r. set r j a) h ∙ sym (set_comm ys j k a v (eqb-false j k e))

set_known : (s : ℕ) (v : Value) (ss : List (ℕ × Value)) (values : List Value) → set (restored (known s v ss) values) s v ≡ set (restored ss values) s v
set_known s v [] values = refl
set_known s v (t ∷ ss) values = by (eqb s t.0) refl (set_known s v ss values)
  where
    by : (b : Bool) → eqb s t.0 ≡ b → set (restored (known s v ss) values) s v ≡ set (restored ss values) s v
        → set (set (restored (known s v ss) values) t.0 (if b then v else t.1)) s v ≡ set (set (restored ss values) t.0 t.1) s v
    by true e h =
        ap (λ i. set (set (restored (known s v ss) values) i v) s v) (sym (eqb-true s t.0 e)) ∙ set-set (restored (known s v ss) values) s v v
        ∙ h ∙ sym (set-set (restored ss values) s t.1 v) ∙ ap (λ i. set (set (restored ss values) i t.1) s v) (eqb-true s t.0 e)
    by false e h = set_through (restored (known s v ss) values) (restored ss values) t.0 s t.1 v h

-- what is kept brings back what is seen
pub restored_seen : (ss : List (SymId × Value)) (values : List Value) → restored (saved_seen ss) values ≡ restored (numbered ss) values
restored_seen [] values = refl
restored_seen (s ∷ ss) values =
    set_known s.0.0 s.1 (saved_seen ss) values ∙ ap (λ r. set r s.0.0 s.1) (restored_seen ss values)

set_under : {V : Type 0} (ss : List (ℕ × V)) (values : List V) (k : ℕ) (v w : V) → set (restored ss (set values k w)) k v ≡ set (restored ss values) k v
set_under [] values k v w = set-set values k w v
set_under (s ∷ ss) values k v w = set_through (restored ss (set values k w)) (restored ss values) s.0 k s.1 v (set_under ss values k v w)

-- the first variable comes back whatever it has
restored_first : (s : SymId × Value) (ss : List (SymId × Value)) (values : List Value) (w : Value) →
    restored (numbered (s ∷ ss)) (set values s.0.0 w) ≡ restored (saved_seen (s ∷ ss)) values
restored_first s ss values w = set_under (numbered ss) values s.0.0 s.1 w ∙ sym (restored_seen (s ∷ ss) values)

pub restored_begun : (saved : List (SymId × Value)) (s : SymId × Value) (values : List Value) (w : Value) → Some s ≡ slice_get saved 0 →
    restored (numbered saved) (set values s.0.0 w) ≡ restored (saved_seen saved) values
restored_begun [] s values w e = absurd (cc)
restored_begun (t ∷ ts) s values w e =
    let same : s ≡ t = cc in ap (λ (x : SymId × Value). restored (numbered (t ∷ ts)) (set values x.0.0 w)) same ∙ restored_first t ts values w

pub stands_at : {A : Type 0} (xs : List A) (k : ℕ) (x : A) → k < length xs → ((d : A) → x ≡ get_or xs k d) → Some x ≡ slice_get xs k
stands_at [] k x within is = absurd (omega arith)
stands_at (y ∷ ys) zero x within is = ap Some (is x)
stands_at (y ∷ ys) (suc k) x within is = stands_at ys k x (omega arith) is

head_behind : {A : Type 0} (xs : List A) (k : ℕ) → slice_get (drop k xs) 0 ≡ slice_get xs k
head_behind [] zero = refl
head_behind [] (suc k) = refl
head_behind (x ∷ xs) zero = refl
head_behind (x ∷ xs) (suc k) = head_behind xs k

no_head : {A : Type 0} (xs : List A) → slice_get xs 0 ≡ None → xs ≡ []
no_head [] none = refl
no_head (x ∷ xs) none = absurd (cc)

first_value : (saved : List (SymId × Value)) (s : SymId × Value) (values : List Value) → Some s ≡ slice_get saved 0 →
    get_or values s.0.0 (Str []) ≡ function_value (Str []) (saved_seen saved) values
first_value [] s values e = absurd (cc)
first_value (t ∷ ts) s values e = let same : s ≡ t = cc in ap (λ (x : SymId × Value). get_or values x.0.0 (Str [])) same

-- the value of the function of a call, whose values stand behind the first k
pub begun_value : (ss : List (SymId × Value)) (k : ℕ) (s : SymId × Value) (values : List Value) → Some s ≡ slice_get ss k →
    get_or values s.0.0 (Str []) ≡ function_value (Str []) (saved_seen (drop k ss)) values
begun_value ss k s values e = first_value (drop k ss) s values (e ∙ sym (head_behind ss k))

pub begun_values : (ss : List (SymId × Value)) (k : ℕ) (s : SymId × Value) (values : List Value) (w : Value) → Some s ≡ slice_get ss k →
    restored (numbered (drop k ss)) (set values s.0.0 w) ≡ restored (saved_seen (drop k ss)) values
begun_values ss k s values w e = restored_begun (drop k ss) s values w (e ∙ sym (head_behind ss k))

pub not_begun : (ss : List (SymId × Value)) (k : ℕ) → slice_get ss k ≡ None → drop k ss ≡ []
not_begun ss k none = no_head (drop k ss) (head_behind ss k ∙ none)

-- the last value comes back first
pub restored_last : (ss : List (SymId × Value)) (s : SymId × Value) (values : List Value) → restored (numbered (ss ++ s ∷ [])) values
    ≡ restored (numbered ss) (set values s.0.0 s.1)
restored_last [] s values = refl
restored_last (t ∷ ss) s values = ap (λ r. set r t.0.0 t.1) (restored_last ss s values)

-- the last of the values behind the first k comes back
pub restored_more : (before after : List (SymId × Value)) (s : SymId × Value) (k : ℕ) (values : List Value) → before ≡ after ++ s ∷ [] → k ≤ length after →
    restored (numbered (drop k after)) (set values s.0.0 s.1) ≡ restored (numbered (drop k before)) values
restored_more before after s k values is within =
    sym (restored_last (drop k after) s values) ∙ ap (λ ss. restored (numbered ss) values) (sym (drop-append-le k after (s ∷ []) within))
    ∙ ap (λ ss. restored (numbered (drop k ss)) values) (sym is)

pub kept_more : {A : Type 0} (before after : List A) (x : A) (k : ℕ) → before ≡ after ++ x ∷ [] → k ≤ length after → take k after ≡ take k before
kept_more before after x k is within = sym (take-append-le k after (x ∷ []) within) ∙ ap (take k) (sym is)

-- two lists of values that differ at most where these are
pub record Alike {V : Type 0} (fs : List ℕ) (xs ys : List V) : Type 0 where
  pub lengths : length xs ≡ length ys
  pub others : (k : ℕ) (d : V) → list_any (λ f. f == k) fs ≡ false → get_or xs k d ≡ get_or ys k d

-- a value that both have been given
set_alike : {V : Type 0} (xs ys : List V) (j k : ℕ) (a d : V) → length xs ≡ length ys → (eqb j k ≡ false → get_or xs k d ≡ get_or ys k d)
    → get_or (set xs j a) k d ≡ get_or (set ys j a) k d
set_alike {V} xs ys j k a d lengths others = by (eqb j k) refl
  where
    inside : (j ≡ k) → (k < length xs) ⊎ (length xs ≤ k) → get_or (set xs j a) k d ≡ get_or (set ys j a) k d
    inside e (inl within) =
        ap (λ i. get_or (set xs i a) k d) e ∙ get_or-set_same xs k a d within ∙ sym (get_or-set_same ys k a d (omega arith))
        ∙ ap (λ i. get_or (set ys i a) k d) (sym e)
    inside e (inr past) =
        get_or_past (set xs j a) k d (omega (arith, length-set xs j a)) ∙ sym (get_or_past (set ys j a) k d (omega (arith, length-set ys j a)))

    by : (b : Bool) → eqb j k ≡ b → get_or (set xs j a) k d ≡ get_or (set ys j a) k d
    by true e = inside (eqb-true j k e) (cases_lt k (length xs))
    by false e =
        get_or-set_other xs j k a d (λ same. eqb-false j k e (sym same)) ∙ others e ∙ sym (get_or-set_other ys j k a d (λ same. eqb-false j k e (sym same)))

set_lengths : {V : Type 0} (xs ys : List V) (j : ℕ) (a : V) → length xs ≡ length ys → length (set xs j a) ≡ length (set ys j a)
set_lengths xs ys j a e = length-set xs j a ∙ e ∙ sym (length-set ys j a)

-- with the first formal set, they differ at most where the others are
alike_rest : {V : Type 0} (f : ℕ) (fs : List ℕ) (xs ys : List V) (a : V) → Alike (f ∷ fs) xs ys → Alike fs (set xs f a) (set ys f a)
alike_rest f fs xs ys a h = record {
  lengths = set_lengths xs ys f a h.lengths;
  others = λ k d e. set_alike xs ys f k a d h.lengths (λ o. h.others k d (or_from (f == k) (list_any (λ g. g == k) fs) o e));
}

alike_set : {V : Type 0} (fs : List ℕ) (xs ys : List V) (j : ℕ) (a : V) → Alike fs xs ys → Alike fs (set xs j a) (set ys j a)
alike_set fs xs ys j a h = record {
  lengths = set_lengths xs ys j a h.lengths;
  others = λ k d e. set_alike xs ys j k a d h.lengths (λ o. h.others k d e);
}

arguments_alike : {V : Type 0} (null : V) (fs : List ℕ) (arguments xs ys : List V) → Alike fs xs ys → with_arguments null fs arguments xs
    ≡ with_arguments null fs arguments ys
arguments_alike null [] arguments xs ys h = same_lists xs ys h.lengths (λ k d within. h.others k d refl)
arguments_alike null (f ∷ fs) [] xs ys h = arguments_alike null fs [] (set xs f null) (set ys f null) (alike_rest f fs xs ys null h)
arguments_alike null (f ∷ fs) (a ∷ arguments) xs ys h = arguments_alike null fs arguments (set xs f a) (set ys f a) (alike_rest f fs xs ys a h)

nulls_alike : {V : Type 0} (null : V) (fs ls : List ℕ) (xs ys : List V) → Alike fs xs ys → Alike fs (with_nulls null ls xs) (with_nulls null ls ys)
nulls_alike null fs [] xs ys h = h
nulls_alike null fs (l ∷ ls) xs ys h = nulls_alike null fs ls (set xs l null) (set ys l null) (alike_set fs xs ys l null h)

length-with_nulls : {V : Type 0} (null : V) (fs : List ℕ) (xs : List V) → length (with_nulls null fs xs) ≡ length xs
length-with_nulls null [] xs = refl
length-with_nulls null (f ∷ fs) xs = length-with_nulls null fs (set xs f null) ∙ length-set xs f null

untouched : {V : Type 0} (null : V) (fs : List ℕ) (xs : List V) (k : ℕ) (d : V) → list_any (λ f. f == k) fs ≡ false
    → get_or (with_nulls null fs xs) k d ≡ get_or xs k d
untouched null [] xs k d e = refl
untouched null (f ∷ fs) xs k d e =
    let parts = or_parts (f == k) (list_any (λ g. g == k) fs) e in
    untouched null fs (set xs f null) k d parts.1 ∙ get_or-set_other xs f k null d (λ same. eqb-false f k parts.0 (sym same))

-- formals that are null before they are given their arguments
pub given : {V : Type 0} (null : V) (fs ls : List ℕ) (arguments xs : List V) →
    with_arguments null fs arguments (with_nulls null ls (with_nulls null fs xs)) ≡ with_arguments null fs arguments (with_nulls null ls xs)
given null fs ls arguments xs =
    arguments_alike null fs arguments (with_nulls null ls (with_nulls null fs xs)) (with_nulls null ls xs)
    (nulls_alike null fs ls (with_nulls null fs xs) xs (record { lengths = length-with_nulls null fs xs; others = untouched null fs xs }))

length-moved : (symbols : List SymId) (values : List Value) → length (moved symbols values) ≡ length symbols
length-moved [] values = refl
length-moved (symbol ∷ symbols) values = ap (λ n. suc n) (length-moved symbols (set values symbol.0 (Str [])))

-- what a call saves behind what others have saved, one list of symbols after another
saved_behind : (before : List (SymId × Value)) (function : SymId) (formals locals : List SymId) (values : List Value) (a b c : List (SymId × Value))
    (one two : List Value) →
    a ≡ before ++ moved (function ∷ []) values → one ≡ with_nulls (Str []) (numbers (function ∷ [])) values →
    b ≡ a ++ moved formals one → two ≡ with_nulls (Str []) (numbers formals) one →
    c ≡ b ++ moved locals two →
    c ≡ before ++ moved ((function ∷ formals) ++ locals) values
saved_behind before function formals locals values a b c one two ea e1 eb e2 ec =
    let first : b ≡ before ++ moved (function ∷ formals) values =
    eb ∙ (λ i. ea i ++ moved formals (e1 i)) ∙ append_assoc before (moved (function ∷ []) values) (moved formals (set values function.0 (Str []))) in
    ec ∙ (λ i. first i ++ moved locals ((e2 ∙ ap (with_nulls (Str []) (numbers formals)) e1) i))
    ∙ append_assoc before (moved (function ∷ formals) values) (moved locals (with_nulls (Str []) (numbers (function ∷ formals)) values))
    ∙ ap (λ ms. before ++ ms) (sym (moved-append (function ∷ formals) locals values))

-- calls stand one behind the other
calls_push : (counts : List ℕ) (ss ms : List (SymId × Value)) (n : ℕ) → sum counts ≡ length ss → n ≡ length ms →
    calls_seen (counts ++ n ∷ []) (ss ++ ms) ≡ calls_seen counts ss ++ saved_seen ms ∷ []
calls_push [] ss ms n e m =
    let none : ss ≡ [] = nil_from_length ss (sym e) in
    ap (λ xs. saved_seen (take n (xs ++ ms)) ∷ []) none ∙ ap (λ xs. saved_seen xs ∷ []) (take_all n ms (omega arith))
calls_push (c ∷ cs) ss ms n e m =
    let whole = sum_by-cons (λ x. x) c cs in
    let within : c ≤ length ss = omega (arith, whole, e) in
    let rest : sum cs ≡ length (drop c ss) = omega (arith, length-drop c ss, whole, e) in
    (λ i. saved_seen (take-append-le c ss ms within i) ∷ calls_seen (cs ++ n ∷ []) (drop-append-le c ss ms within i))
    ∙ ap (λ rs. saved_seen (take c ss) ∷ rs) (calls_push cs (drop c ss) ms n rest m)

pub length-calls : (counts : List ℕ) (ss : List (SymId × Value)) → length (calls_seen counts ss) ≡ length counts
length-calls [] ss = refl
length-calls (c ∷ cs) ss = ap (λ n. suc n) (length-calls cs (drop c ss))

-- a call has begun
pub opened : (counts : List ℕ) (before : List (SymId × Value)) (function : SymId) (formals locals : List SymId) (values : List Value)
    (a b c : List (SymId × Value)) (one two : List Value) (n : ℕ) →
    sum counts ≡ length before → n ≡ 1 + length formals + length locals →
    a ≡ before ++ moved (function ∷ []) values → one ≡ with_nulls (Str []) (numbers (function ∷ [])) values →
    b ≡ a ++ moved formals one → two ≡ with_nulls (Str []) (numbers formals) one →
    c ≡ b ++ moved locals two →
    (calls_seen (counts ++ n ∷ []) c ≡ calls_seen counts before
    ++ map (λ t. (t, get_or values t (Str []))) (function.0 ∷ (numbers formals ++ numbers locals)) ∷ [])
    × (sum (counts ++ n ∷ []) ≡ length c)
opened counts before function formals locals values a b c one two n e m ea e1 eb e2 ec =
    let symbols = (function ∷ formals) ++ locals in
    let behind = saved_behind before function formals locals values a b c one two ea e1 eb e2 ec in
    let long : n ≡ length (moved symbols values) = omega (arith, length-moved symbols values, length-append (function ∷ formals) locals, m) in (
      ap (calls_seen (counts ++ n ∷ [])) behind ∙ calls_push counts before (moved symbols values) n e long
          ∙ ap (λ call. calls_seen counts before ++ call ∷ []) (seen_moved symbols values
          ∙ ap (λ ts. map (λ t. (t, get_or values t (Str []))) (function.0 ∷ ts)) (map-append (λ (id : SymId). id.0) formals locals)),
      omega (arith, sum_by_push (λ x. x) counts n, ap length behind, length-append before (moved symbols values), long, e),
    )

-- the innermost call, and those around it
pub record Innermost (counts : List ℕ) (n : ℕ) (ss : List (SymId × Value)) : Type 0 where
  pub within : n ≤ length ss
  pub calls : calls_seen (counts ++ n ∷ []) ss ≡ calls_seen counts (take (length ss - n) ss) ++ saved_seen (drop (length ss - n) ss) ∷ []
  pub rest : sum counts ≡ length (take (length ss - n) ss)

pub innermost : (counts : List ℕ) (n : ℕ) (ss : List (SymId × Value)) → sum (counts ++ n ∷ []) ≡ length ss → Innermost counts n ss
innermost counts n ss e =
    let held = length ss - n in
    let whole = sum_by_push (λ x. x) counts n in
    let rest : sum counts ≡ length (take held ss) = omega (arith, whole, e, length-take-le held ss (omega arith)) in
    let last : n ≡ length (drop held ss) = omega (arith, whole, e, length-drop held ss) in
    record {
      within = omega (arith, whole, e);
      calls = ap (calls_seen (counts ++ n ∷ [])) (sym (take-append-drop held ss)) ∙ calls_push counts (take held ss) (drop held ss) n rest last;
      rest = rest;
    }

-- the argument at a place is given to the next formal
pub given_next : (f : ℕ) (fs : List ℕ) (arguments values : List Value) (i : ℕ) →
    with_arguments (Str []) fs (drop (i + 1) arguments) (set values f (get_or arguments i (Str [])))
    ≡ with_arguments (Str []) (f ∷ fs) (drop i arguments) values
given_next f fs arguments values i = by (cases_lt i (length arguments))
  where
    by : (i < length arguments) ⊎ (length arguments ≤ i)
        → with_arguments (Str []) fs (drop (i + 1) arguments) (set values f (get_or arguments i (Str [])))
        ≡ with_arguments (Str []) (f ∷ fs) (drop i arguments) values
    by (inl within) = ap (λ rest. with_arguments (Str []) (f ∷ fs) rest values) (sym (drop_more arguments i (Str []) within))
    by (inr past) =
        (λ k. with_arguments (Str []) fs (drop (i + 1) arguments) (set values f (get_or_past arguments i (Str []) past k)))
        ∙ ap (λ rest. with_arguments (Str []) fs rest (set values f (Str []))) (drop_all (i + 1) arguments (omega arith))
        ∙ ap (λ rest. with_arguments (Str []) (f ∷ fs) rest values) (sym (drop_all i arguments past))

length-with_arguments : {V : Type 0} (null : V) (fs : List ℕ) (arguments xs : List V) → length (with_arguments null fs arguments xs) ≡ length xs
length-with_arguments null [] arguments xs = refl
length-with_arguments null (f ∷ fs) [] xs = length-with_arguments null fs [] (set xs f null) ∙ length-set xs f null
length-with_arguments null (f ∷ fs) (a ∷ arguments) xs = length-with_arguments null fs arguments (set xs f a) ∙ length-set xs f a

-- a call changes no variable's number
pub length-entered : {V : Type 0} (null : V) (function : ℕ) (d : Definition) (arguments xs : List V) → length (entered null function d arguments xs) ≡ length xs
length-entered null function d arguments xs =
    length-with_arguments null d.formals arguments (with_nulls null (function ∷ d.locals) xs) ∙ length-with_nulls null (function ∷ d.locals) xs

pub length-restored : {V : Type 0} (ss : List (ℕ × V)) (xs : List V) → length (restored ss xs) ≡ length xs
length-restored [] xs = refl
length-restored (s ∷ ss) xs = length-set (restored ss xs) s.0 s.1 ∙ length-restored ss xs
