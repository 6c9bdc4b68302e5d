-- Which places keys were given, when one is given a place: other keys keep theirs.
use Rattle.std.proofs.Common.{◌≡◌, ◌==◌, ℕ, ℤ, pos, negsuc, suc, Bool, false, cond, List, [], ◌∷◌, Some, None, refl, sym, ap, subst, ◌∙◌, ◌<◌, ◌<ℤ◌, if◌then◌else◌}
use Rattle.std.specs.declared.cmp.Ordering.{Ordering}
use Rattle.std.specs.Ordering.{nat_cmp, int_cmp, ordering_then, is_eq, match_ordering, MatchOrdering}
use Rattle.std.specs.declared.cmp.Ordering.TheVariants.{Less, Equal, Greater}
use Rattle.std.specs.BTreeMap.{get, insert_entry}
use Rattle.std.specs.Map.{lookup}
use Rattle.std.specs.Cmp.Lexicographic.{bytes_decides, slice_cmp, texts_ties}
use Rattle.std.proofs.lemmas.Cmp.{ranked, int_ranked}
use Rattle.sno_value.specs.declared.ids.ObjId.{ObjId}
use Rattle.sno_value.specs.declared.value.Value.{Value}
use Rattle.sno_value.specs.declared.value.Name.TheVariants.{Var, Elem, Entry, Field}
use Rattle.sno_value.specs.declared.value.Value.TheVariants.{Str, Int, Pat, Expr, Name, Array, Table, Data}
use Rattle.sno_store.specs.declared.doubles.KeyDoubles.{KeyDoubles}
use Rattle.sno_store.specs.inner.Doubles.{id_of, id_cmp, key_place, text_place, Stay}

-- a key joins the entries that the test doesn't pass
pub lookup_other : {K : Type 0} (cmp : K → K → Ordering) (test : K → Bool) (k : K) (v : ℕ) → test k ≡ false
    → ((e : K) → cmp k e ≡ Equal → test e ≡ false) → (es : List (K × ℕ)) → lookup test (insert_entry cmp es k v) ≡ lookup test es
lookup_other cmp test k v apart same [] = ap (λ b. cond b (Some v) None) apart
lookup_other cmp test k v apart same (e ∷ es) = by (lookup_other cmp test k v apart same es) (cmp k e.0) refl where
  by : lookup test (insert_entry cmp es k v) ≡ lookup test es → (o : Ordering) → cmp k e.0 ≡ o
      → lookup test (match_ordering o ((k, v) ∷ e ∷ es) ((e.0, v) ∷ es) (e ∷ insert_entry cmp es k v)) ≡ lookup test (e ∷ es)
  by more Less h = ap (λ b. cond b (Some v) (lookup test (e ∷ es))) apart
  by more Equal h =
      ap (λ b. cond b (Some v) (lookup test es)) (same e.0 h) ∙ sym (ap (λ b. cond b (Some e.1) (lookup test es)) (same e.0 h))
  by more Greater h = ap (cond (test e.0) (Some e.1)) more

-- texts that compare equal are equal
pub text_equal : (a b : List ℕ) → slice_cmp nat_cmp a b ≡ Equal → a ≡ b
text_equal a b h = (bytes_decides a b).0 (texts_ties a b ∙ ap is_eq h)

pub text_apart : (a b : List ℕ) → (a ≡ b → ⊥) → is_eq (slice_cmp nat_cmp a b) ≡ false
text_apart a b other = by (slice_cmp nat_cmp a b) refl where
  by : (o : Ordering) → slice_cmp nat_cmp a b ≡ o → is_eq o ≡ false
  by Less h = refl
  by Equal h = absurd (other (text_equal a b h))
  by Greater h = refl

both_equal : (a b : Ordering) → ordering_then a b ≡ Equal → (a ≡ Equal) × (b ≡ Equal)
both_equal Less b h = absurd (cc)
both_equal Equal b h = (refl, h)
both_equal Greater b h = absurd (cc)

nat_equal : (a b : ℕ) → nat_cmp a b ≡ Equal → a ≡ b
nat_equal a b h = subst (λ o. MatchOrdering o (a < b) (a ≡ b) (b < a)) h (ranked a b (nat_cmp a b) refl)

int_equal : (a b : ℤ) → int_cmp a b ≡ Equal → a ≡ b
int_equal a b h = subst (λ o. MatchOrdering o (a <ℤ b) (a ≡ b) (b <ℤ a)) h (int_ranked a b (int_cmp a b) refl)

id_equal : (a b : ℕ × ℤ × ℕ) → id_cmp a b ≡ Equal → a ≡ b
id_equal a b h =
    let whole = both_equal (ordering_then (nat_cmp a.0 b.0) (int_cmp a.1 b.1)) (nat_cmp a.2 b.2) h in
    let first = both_equal (nat_cmp a.0 b.0) (int_cmp a.1 b.1) whole.0 in
    ap (λ x. (x, a.1, a.2)) (nat_equal a.0 b.0 first.0) ∙ ap (λ x. (b.0, x, a.2)) (int_equal a.1 b.1 first.1)
    ∙ ap (λ x. (b.0, b.1, x)) (nat_equal a.2 b.2 whole.1)

-- the key that has an id
nat_of : ℤ → ℕ
nat_of (pos n) = n
nat_of (negsuc n) = 0

object : ℤ → ObjId
object n = record { 0 = nat_of n }

key_with : ℕ × ℤ × ℕ → Value
key_with id =
    if id.0 == 1 then Name (Var (record { 0 = nat_of id.1 }))
    else if id.0 == 2 then Name (Elem (object id.1) id.2)
    else if id.0 == 3 then Name (Entry (object id.1) id.2)
    else if id.0 == 4 then Name (Field (object id.1) id.2)
    else if id.0 == 5 then Int id.1
    else if id.0 == 6 then Array (object id.1)
    else if id.0 == 7 then Table (object id.1)
    else if id.0 == 8 then Data (object id.1)
    else if id.0 == 9 then Pat (record { 0 = nat_of id.1 })
    else Expr (record { 0 = nat_of id.1 })

key_back : (key : Value) → ((text : List ℕ) → key ≡ Str text → ⊥) → key_with (id_of key) ≡ key
unfolding key_with object nat_of
key_back (Str text) other = absurd (other text refl)
key_back (Name (Var a)) other = refl
key_back (Name (Elem a i)) other = refl
key_back (Name (Entry a i)) other = refl
key_back (Name (Field a i)) other = refl
key_back (Int n) other = refl
key_back (Array a) other = refl
key_back (Table a) other = refl
key_back (Data a) other = refl
key_back (Pat a) other = refl
key_back (Expr a) other = refl

-- where a key is no text, it has an id
pub by_id : (doubles : KeyDoubles) (key : Value) → ((text : List ℕ) → key ≡ Str text → ⊥)
    → get id_cmp doubles.others (id_of key) ≡ key_place doubles key
by_id doubles (Str text) other = absurd (other text refl)
by_id doubles (Name a) other = refl
by_id doubles (Int n) other = refl
by_id doubles (Array a) other = refl
by_id doubles (Table a) other = refl
by_id doubles (Data a) other = refl
by_id doubles (Pat a) other = refl
by_id doubles (Expr a) other = refl

-- a text was given a place
pub stay_text : (old new : KeyDoubles) (text : List ℕ) → Stay text (text_place old.texts) (text_place new.texts)
    → new.others ≡ old.others → Stay (Str text) (key_place old) (key_place new)
stay_text old new text stay same = record { each = each } where
  other : (key : Value) → get id_cmp new.others (id_of key) ≡ get id_cmp old.others (id_of key)
  other key = ap (λ m. get id_cmp m (id_of key)) same

  each : (key : Value) → (key ≡ Str text → ⊥) → key_place new key ≡ key_place old key
  each (Str t) apart = stay.each t (λ e. apart (ap Str e))
  each (Name a) apart = other (Name a)
  each (Int n) apart = other (Int n)
  each (Array a) apart = other (Array a)
  each (Table a) apart = other (Table a)
  each (Data a) apart = other (Data a)
  each (Pat a) apart = other (Pat a)
  each (Expr a) apart = other (Expr a)

-- a key that is no text was given a place
pub stay_id : (old new : KeyDoubles) (own : Value) → ((text : List ℕ) → own ≡ Str text → ⊥) → new.texts ≡ old.texts
    → ((id : ℕ × ℤ × ℕ) → is_eq (id_cmp (id_of own) id) ≡ false → get id_cmp new.others id ≡ get id_cmp old.others id)
    → Stay own (key_place old) (key_place new)
stay_id old new own no_text same stay = record { each = each } where
  apart : (key : Value) → ((text : List ℕ) → key ≡ Str text → ⊥) → (key ≡ own → ⊥) → is_eq (id_cmp (id_of own) (id_of key)) ≡ false
  apart key none other = by (id_cmp (id_of own) (id_of key)) refl where
    by : (o : Ordering) → id_cmp (id_of own) (id_of key) ≡ o → is_eq o ≡ false
    by Less h = refl
    by Equal h =
        absurd (other (sym (key_back key none) ∙ sym (ap key_with (id_equal (id_of own) (id_of key) h)) ∙ key_back own no_text))
    by Greater h = refl

  by_others : (key : Value) → ((text : List ℕ) → key ≡ Str text → ⊥) → (key ≡ own → ⊥)
      → get id_cmp new.others (id_of key) ≡ get id_cmp old.others (id_of key)
  by_others key none other = stay (id_of key) (apart key none other)

  each : (key : Value) → (key ≡ own → ⊥) → key_place new key ≡ key_place old key
  each (Str t) other = ap (λ m. text_place m t) same
  each (Name a) other = by_others (Name a) (λ t e. absurd (cc)) other
  each (Int n) other = by_others (Int n) (λ t e. absurd (cc)) other
  each (Array a) other = by_others (Array a) (λ t e. absurd (cc)) other
  each (Table a) other = by_others (Table a) (λ t e. absurd (cc)) other
  each (Data a) other = by_others (Data a) (λ t e. absurd (cc)) other
  each (Pat a) other = by_others (Pat a) (λ t e. absurd (cc)) other
  each (Expr a) other = by_others (Expr a) (λ t e. absurd (cc)) other
