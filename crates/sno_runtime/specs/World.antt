-- What a program can change, as far as its forms reach today.
use Rattle.std.specs.Prelude.{ℕ, ℤ, pos, Bool, true, false, if◌then◌else◌, List, [], ◌∷◌, codes}
use Rattle.sno_pattern.specs.Pattern.{Arb, Bal, Rem, Fail, Leaf, Fence, Abort, Succeed}
use Rattle.sno_store.specs.Objects.{Object}
use Rattle.sno_store.specs.declared.functions.Function.{Function}
use Rattle.sno_store.specs.Types.{DataType}
use Rattle.sno_runtime.specs.Values.{Value, Str, Pat}

-- the keywords that the program sets, and those that count
pub record Keywords : Type 0 where
  -- &ANCHOR and &TRIM
  pub anchor : ℤ
  pub trim : ℤ
  -- &STLIMIT: the most statements that may begin
  pub limit : ℕ
  -- &STCOUNT: how many have begun
  pub begun : ℕ
  -- &STNO: the number of the one that is performed
  pub statement : ℕ
  -- the most that &STLIMIT may be, the most steps of a match, and whether DATA is a function, which no program changes
  pub cap : ℕ
  pub steps : ℕ
  pub has_data : Bool

pub record World : Type 0 where
  -- how many pattern nodes there are
  pub nodes : ℕ
  -- the symbols in the order in which they joined, and by their numbers the values of the variables
  pub symbols : List (List ℕ)
  pub values : List Value
  -- the arrays, the tables and the objects of the program's own types, by their numbers
  pub objects : List (Object Value)
  -- these types, by their numbers
  pub types : List DataType
  -- what the names of functions are, by the numbers of their symbols
  pub functions : List Function
  -- how many calls are open
  pub level : ℕ
  -- the bytes of the input that are left
  pub input : List ℕ
  pub keywords : Keywords

-- before a program's first statement
abbrev pub new_keywords : Bool → ℕ → ℕ → Keywords
new_keywords anchored cap steps =
    record {
      anchor = if anchored then pos 1 else pos 0;
      trim = pos 0;
      limit = cap;
      begun = 0;
      statement = 0;
      cap = cap;
      steps = steps;
      has_data = true;
    }

-- the same for a listing, in which DATA is no function, so that it assigns to variables alone
abbrev pub listing_keywords : Bool → ℕ → ℕ → Keywords
listing_keywords anchored cap steps = record (new_keywords anchored cap steps) { has_data = false }

-- A new store has the variables that begin with a pattern, and INPUT and OUTPUT, which begin with null.
abbrev pub new_world : List ℕ → Keywords → World
new_world input keywords =
    record {
      nodes = 7;
      symbols = codes "ARB" ∷ codes "BAL" ∷ codes "REM" ∷ codes "FAIL" ∷ codes "FENCE" ∷ codes "ABORT" ∷ codes "SUCCEED"
          ∷ codes "INPUT" ∷ codes "OUTPUT" ∷ [];
      values = Pat (Leaf Arb) ∷ Pat (Leaf Bal) ∷ Pat (Leaf Rem) ∷ Pat (Leaf Fail) ∷ Pat Fence ∷ Pat Abort
          ∷ Pat Succeed ∷ Str [] ∷ Str [] ∷ [];
      objects = [];
      types = [];
      functions = [];
      level = 0;
      input = input;
      keywords = keywords;
    }
