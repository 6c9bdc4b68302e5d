-- A variable's string that bytes are put behind.
use Rattle.std.proofs.Common.{◌≡◌, ℕ, List, [], ◌++◌, refl, ap, sym, ◌∙◌, None, Some}
use Rattle.std.proofs.lemmas.List.{set-get_or, set-set}
use Rattle.sno_value.specs.declared.ids.SymId.{SymId}
use Rattle.sno_value.specs.declared.value.Name.TheVariants.{Var}
use Rattle.sno_value.specs.declared.value.Value.{Value as Stored}
use Rattle.sno_value.specs.declared.value.Value.TheVariants as stored
use Rattle.sno_store.specs.Store.{Store, value_of, with_value as with_stored}
use Rattle.sno_runtime.specs.Runtime.{Runtime}
use Rattle.sno_runtime.specs.inner.Growing.{lengthened, string_in}

-- a variable that is set twice has its last value
pub set_twice : (id : SymId) (v w : Stored) (store : Store) → with_stored (Var id) w (with_stored (Var id) v store) ≡ with_stored (Var id) w store
set_twice id v w store = ap (λ (vs : List Stored). record store { values = vs }) (set-set store.values id.0 v w)

-- a variable that is set to what it holds stays
pub set_same : (id : SymId) (v : Stored) (store : Store) → v ≡ value_of store (Var id) → with_stored (Var id) v store ≡ store
set_same id v store is =
    ap (λ (w : Stored). with_stored (Var id) w store) is
    ∙ ap (λ (vs : List Stored). record store { values = vs }) (set-get_or store.values id.0 (stored.Str []))

-- which string a value is, and what stands behind it then
pub is_string : (v : Stored) (text : List ℕ) → string_in v ≡ Some text → v ≡ stored.Str text
is_string (stored.Str bytes) text is =
    let same : bytes ≡ text = cc is in
    ap stored.Str same
is_string (stored.Int number) text is = absurd (cc is)
is_string (stored.Pat id) text is = absurd (cc is)
is_string (stored.Expr id) text is = absurd (cc is)
is_string (stored.Name target) text is = absurd (cc is)
is_string (stored.Array id) text is = absurd (cc is)
is_string (stored.Table id) text is = absurd (cc is)
is_string (stored.Data id) text is = absurd (cc is)

pub no_string : (v : Stored) (bytes : List ℕ) → string_in v ≡ None → lengthened bytes v ≡ v
no_string (stored.Str text) bytes is = absurd (cc is)
no_string (stored.Int number) bytes is = refl
no_string (stored.Pat id) bytes is = refl
no_string (stored.Expr id) bytes is = refl
no_string (stored.Name target) bytes is = refl
no_string (stored.Array id) bytes is = refl
no_string (stored.Table id) bytes is = refl
no_string (stored.Data id) bytes is = refl

-- a variable's string that was taken out, and put back as it was or with bytes behind it
module _ (id : SymId) (v : Stored) (text : List ℕ) (s out back : Runtime) (has : string_in (value_of s.store (Var id)) ≡ Some text)
    (taken : out ≡ record s { store = with_stored (Var id) v s.store }) where
  put : (w : Stored) → back ≡ record out { store = with_stored (Var id) w out.store } → back ≡ record s { store = with_stored (Var id) w s.store }
  put w is =
      is
      ∙ (ap (λ (r : Runtime). record r { store = with_stored (Var id) w r.store }) taken
      ∙ ap (λ (c : Store). record s { store = c }) (set_twice id v w s.store))

  pub put_back : back ≡ record out { store = with_stored (Var id) (stored.Str text) out.store } → back ≡ s
  put_back is =
      put (stored.Str text) is
      ∙ ap (λ (c : Store). record s { store = c })
      (set_same id (stored.Str text) s.store (sym (is_string (value_of s.store (Var id)) text has)))

  pub put_longer : (bytes longer : List ℕ) → longer ≡ text ++ bytes
      → back ≡ record out { store = with_stored (Var id) (stored.Str longer) out.store }
      → back ≡ record s { store = with_stored (Var id) (lengthened bytes (value_of s.store (Var id))) s.store }
  put_longer bytes longer more is =
      put (stored.Str longer) is
      ∙ ap (λ (w : Stored). record s { store = with_stored (Var id) w s.store })
      (ap stored.Str more ∙ ap (lengthened bytes) (sym (is_string (value_of s.store (Var id)) text has)))
