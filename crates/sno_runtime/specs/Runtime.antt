-- What contracts see of a runtime, and what its functions did.
use Rattle.std.specs.Prelude.{◌≡◌, ℕ, ◌<◌, ◌≤◌, ◌+◌, true, false, List, [], ◌++◌, length, map, slice_index_or}
use Rattle.std.specs.Prelude.{None, Result, Ok, Err}
use Rattle.std.specs.List.{AllByRecursion}
use Rattle.sno_value.specs.declared.ids.PatId.{PatId}
use Rattle.sno_pattern.specs.Pattern.{Pattern}
use Rattle.sno_pattern.specs.Table.{Node, tree}
use Rattle.sno_store.specs.Store.{Store, place}
use Rattle.sno_runtime.specs.Values.{shown, shown_objects, IsValueOf, IsObjectOf}
use Rattle.sno_runtime.specs.declared.stops.Exit.{Exit}
use Rattle.sno_runtime.specs.declared.stops.Exit.TheVariants.{Failure, Halt}
use Rattle.sno_io.specs.Devices.{Feed}
use Rattle.sno_io.specs.Lines.{Input}
use Rattle.sno_runtime.specs.World.{World, Keywords}

pub record Runtime : Type 0 where
  pub nodes : List Node
  -- how many nodes there would be besides, had each that was taken again been made anew
  pub counted : ℕ
  pub store : Store
  -- the input that was read and is still held
  pub reading : Input
  pub keywords : Keywords

-- how many nodes the program has made
abbrev pub made_nodes : Runtime → ℕ
made_nodes s = length s.nodes + s.counted

-- the world that a state shows, where `more` input may come behind what is held
abbrev pub world : Runtime → List ℕ → World
world s more = record {
  nodes = made_nodes s;
  symbols = s.store.symbols;
  values = map (shown s.nodes) s.store.values;
  objects = shown_objects s.nodes s.store.objects;
  types = s.store.types;
  functions = s.store.functions;
  level = length s.store.calls;
  input = s.reading.held ++ more;
  keywords = s.keywords;
}

-- No symbol and no name of a type has more than 1,000,000 bytes, and each symbol stands once; the values are of this
-- table, those that calls have saved too.
pub record IsKnown (nodes : List Node) (store : Store) : Type 0 where
  pub symbols : AllByRecursion (λ symbol. length symbol ≤ 1_000_000) store.symbols
  pub numbered : (i : ℕ) → i < length store.symbols → place (slice_index_or store.symbols i []) store.symbols ≡ i
  pub values : AllByRecursion (IsValueOf nodes) store.values
  pub objects : AllByRecursion (IsObjectOf nodes) store.objects
  pub types : AllByRecursion (λ data_type. length data_type.name ≤ 1_000_000) store.types
  pub calls : AllByRecursion (AllByRecursion (λ saved. IsValueOf nodes saved.1)) store.calls

-- the nodes of a table that has grown
abbrev pub Grows : List Node → List Node → Type 0
Grows old new = (more : List Node) × (new ≡ old ++ more)

abbrev pub OnAnswer : {X : Type 0} → (X → Type 0) → Result X Exit → Type 0
OnAnswer P (Ok x) = P x
OnAnswer P (Err e) = Unit {0}

-- the reader hasn't failed, and is that of the call before
pub record IsReady (s : Runtime) (f : Feed) : Type 0 where
  pub going : s.reading.stopped ≡ None
  pub same : s.reading.told_end ≡ true → f.at_end ≡ true
  pub sound : f.broken ≡ false

-- it goes on behind a value or a failure
abbrev pub OnGoing : {X : Type 0} → Result X Exit → Type 0 → Type 0
OnGoing (Ok x) P = P
OnGoing (Err Failure) P = P
OnGoing (Err (Halt why)) P = Unit {0}

-- an answer that stands for itself, of which nothing else is said
abbrev pub itself : {X : Type 0} → List Node → X → X
itself nodes x = x

-- a pattern's number as an answer
abbrev pub tree_of : List Node → PatId → Pattern
tree_of nodes id = tree nodes id.0

abbrev pub IsPatternOf : List Node → PatId → Type 0
IsPatternOf nodes id = id.0 < length nodes
