-- What private calls say of symbols and of the variables that join. Private contracts alone cite it.
use Rattle.std.specs.Prelude.{◌≡◌, ℕ, ◌-◌, ◌≤◌, List, [], ◌++◌, length, replicate, slice_index_or, take}
use Rattle.std.specs.Prelude.{Option, Some, None, if◌then◌else◌}
use Rattle.sno_value.specs.Keys.{name_of}
use Rattle.sno_value.specs.declared.value.Value.TheVariants.{Str}
use Rattle.sno_store.specs.Store.{Store, place, is_symbol}

-- the number of a name, if it is a symbol
abbrev pub found : List ℕ → List (List ℕ) → Option ℕ
found name symbols = if is_symbol name symbols then Some (place name symbols) else None

-- a symbol is the name that has a key, where one has it, and isn't INPUT
abbrev pub HasKey : ℕ → ℕ → List (List ℕ) → Type 0
HasKey symbol key symbols =
    (1 ≤ key) × (1 ≤ length (name_of key) → (slice_index_or symbols symbol [] ≡ name_of key) × (symbol ≡ 7 → ⊥))

-- nothing but some symbols more, whose variables begin with null
pub record HasMore (old new : Store) : Type 0 where
  pub symbols : take (length old.symbols) new.symbols ≡ old.symbols
  pub others : new ≡ record old {
    symbols = new.symbols;
    values = old.values ++ replicate (length new.symbols - length old.symbols) (Str []);
  }
