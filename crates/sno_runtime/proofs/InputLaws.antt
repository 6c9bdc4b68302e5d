-- A line of input that becomes a value.
use Rattle.std.proofs.Common.{Vec, Global, ◌≡◌, ℕ, zero, suc, ◌+◌, ℤ, pos, negsuc, ◌==◌, ◌<◌, ◌≤◌, nat_lt, Bool, true, false, if◌then◌else◌, List, [], ◌∷◌}
use Rattle.std.proofs.Common.{◌⊎◌, inl, inr, ◌++◌, length, take, refl, ap, sym, ◌∙◌, subst, arith, append_assoc}
use Rattle.std.proofs.Common.{Option, None, Some, Result, Ok, Err, OnOk, IsErrOf}
use Rattle.std.specs.List.{list_all, range_with_len}
use Rattle.std.proofs.lemmas.Bool.{le-ltb, lt-ltb}
use Rattle.sno_value.specs.Strings.{trimmed}
use Rattle.sno_value.specs.declared.value.Value.{Value as Stored}
use Rattle.sno_pattern.specs.Table.{Node}
use Rattle.sno_io.specs.Lines.{Input, next_line, first_line, GivesLine, ReadsLine}
use Rattle.sno_io.specs.declared.lines.LineError.{LineError}
use Rattle.sno_io.specs.declared.lines.LineError.TheVariants as too
use Rattle.sno_runtime.specs.declared.stops.Exit.{Exit}
use Rattle.sno_runtime.specs.declared.stops.Exit.TheVariants.{Halt}
use Rattle.sno_runtime.specs.declared.stops.Stop.TheVariants.{NoMemory}
use Rattle.sno_runtime.specs.World.{World}
use Rattle.sno_runtime.specs.Values.{Value, shown, IsValueOf}
use Rattle.sno_runtime.specs.Action.{Action}
use Rattle.sno_value.specs.declared.value.Name.{Name as Target}
use Rattle.sno_runtime.specs.Variables.{line_kept, reads_line, holds, reads, is_input}
use Rattle.sno_runtime.specs.Runtime.{Runtime, world, IsReady, OnAnswer, OnGoing}
use Rattle.sno_runtime.specs.inner.Runtime.{MeetsReading, Reads, HasCause, value_of_line}
use Rattle.sno_io.specs.Devices.{Feed}
use Rattle.sno_runtime.proofs.Outcomes.{grows_none}

-- what is trimmed begins the text

pub trimmed_begins : (xs : List ℕ) → take (length (trimmed xs)) xs ≡ trimmed xs
unfolding trimmed
trimmed_begins [] = refl
trimmed_begins (x ∷ xs) =
    elim (list_all (λ b. b == 32) (x ∷ xs)) as (λ b. take (length (if b then [] else x ∷ trimmed xs)) (x ∷ xs) ≡ (if b then [] else x ∷ trimmed xs))
    [ true ↦ refl | false ↦ ap (λ r. x ∷ r) (trimmed_begins xs) ]

trimmed_short : (xs : List ℕ) → length (trimmed xs) ≤ length xs
unfolding trimmed
trimmed_short [] = omega arith
trimmed_short (x ∷ xs) =
    let h = trimmed_short xs in
    elim (list_all (λ b. b == 32) (x ∷ xs)) as (λ b. length (if b then [] else x ∷ trimmed xs) ≤ length (x ∷ xs)) [ true ↦ omega arith | false ↦ omega arith ]

pub kept_trimmed : (trim : ℤ) (line : List ℕ) → (trim ≡ pos 0 → ⊥) → line_kept trim line ≡ trimmed line
kept_trimmed (pos zero) line h = absurd (h refl)
kept_trimmed (pos (suc n)) line h = refl
kept_trimmed (negsuc n) line h = refl

kept_short : (trim : ℤ) (line : List ℕ) (most : ℕ) → length line ≤ most → length (line_kept trim line) ≤ most
kept_short (pos zero) line most h = h
kept_short (pos (suc n)) line most h = let s = trimmed_short line in omega arith
kept_short (negsuc n) line most h = let s = trimmed_short line in omega arith

-- what the answer is of a text that is left

long_line : (text : List ℕ) → 1_000_000 < length (first_line text) → (rest : List ℕ) × (next_line text ≡ Some (first_line text, rest))
long_line [] h = absurd (omega arith)
long_line (byte ∷ bytes) h = (_, refl)

line_meets : (a b : Runtime) (text rest : List ℕ) (w after : World) (outcome : Result (Option (Vec ℕ Global)) LineError) → w.input ≡ text
    → after ≡ record w { input = rest } → GivesLine outcome text rest
    → MeetsReading (shown b.nodes) (reads_line w) after (value_of_line w.keywords.trim outcome)
line_meets a b text rest w after (Ok None) is same h = rw (is, h.0, same, h.1) refl
line_meets a b text rest w after (Ok (Some line)) is same h =
    let fits : nat_lt 1_000_000 (length line.items) ≡ false = le-ltb 1_000_000 (length line.items) h.1 in
    rw (is, h.0, fits, same) refl
line_meets a b text rest w after (Err too.TooLong) is same h =
    let l = long_line text h.1 in
    let long : nat_lt 1_000_000 (length (first_line text)) ≡ true = lt-ltb 1_000_000 (length (first_line text)) h.1 in
    rw (is, l.1, long) (refl, refl)
line_meets a b text rest w after (Err too.ReadFault) is same h = tt
line_meets a b text rest w after (Err too.NoMemory) is same h = tt

line_answer : (nodes : List Node) (trim : ℤ) (text rest : List ℕ) (outcome : Result (Option (Vec ℕ Global)) LineError) → GivesLine outcome text rest
    → OnAnswer (IsValueOf nodes) (value_of_line trim outcome)
line_answer nodes trim text rest (Ok None) h = tt
line_answer nodes trim text rest (Ok (Some line)) h = kept_short trim line.items 1_000_000 h.1
line_answer nodes trim text rest (Err too.TooLong) h = tt
line_answer nodes trim text rest (Err too.ReadFault) h = tt
line_answer nodes trim text rest (Err too.NoMemory) h = tt

line_ready : (b : Runtime) (g : Feed) (trim : ℤ) (outcome : Result (Option (Vec ℕ Global)) LineError) → OnOk outcome (b.reading.stopped ≡ None)
    → OnOk outcome (g.broken ≡ false) → (b.reading.told_end ≡ true → g.at_end ≡ true)
    → OnGoing (value_of_line trim outcome) (IsReady b g)
line_ready b g trim (Ok None) going sound same = record { going = going; same = same; sound = sound }
line_ready b g trim (Ok (Some line)) going sound same = record { going = going; same = same; sound = sound }
line_ready b g trim (Err too.TooLong) going sound same = tt
line_ready b g trim (Err too.ReadFault) going sound same = tt
line_ready b g trim (Err too.NoMemory) going sound same = tt

line_cause : (g : Feed) (trim : ℤ) (outcome : Result (Option (Vec ℕ Global)) LineError) → (IsErrOf outcome too.ReadFault → g.broken ≡ true)
    → HasCause (value_of_line trim outcome) g
line_cause g trim (Ok None) h = tt
line_cause g trim (Ok (Some line)) h = tt
line_cause g trim (Err too.TooLong) h = tt
line_cause g trim (Err too.ReadFault) h = h refl
line_cause g trim (Err too.NoMemory) h = tt

pub line_reads : (a : Runtime) (reading : Input) (f g : Feed) (outcome : Result (Option (Vec ℕ Global)) LineError)
    → ReadsLine f.left g.left a.reading reading outcome → OnOk outcome (reading.stopped ≡ None) → OnOk outcome (g.broken ≡ false)
    → (reading.told_end ≡ true → g.at_end ≡ true) → (IsErrOf outcome too.ReadFault → g.broken ≡ true)
    → Reads shown IsValueOf reads_line a (record a { reading = reading }) f g (value_of_line a.keywords.trim outcome)
line_reads a reading f g outcome line going sound same fault = record {
  given = line.given;
  consumed = line.consumed;
  ended = line.ended;
  grows = grows_none a.nodes;
  meets = λ more none. line_meets a (record a { reading = reading }) _ _ (world a (line.given ++ more)) (world (record a { reading = reading }) more) outcome
      (sym (append_assoc a.reading.held line.given more)) refl (line.line more none);
  answer = line_answer a.nodes a.keywords.trim _ _ outcome (line.line [] (λ told. refl));
  kept = refl;
  calls = refl;
  tells = same;
  ready = line_ready (record a { reading = reading }) g a.keywords.trim outcome going sound same;
  cause = line_cause g a.keywords.trim outcome fault;
}

-- the value of a line may be refused memory

reads_no_memory : (act : Action Value) (a b : Runtime) (f g : Feed) (r : Result Stored Exit) → Reads shown IsValueOf act a b f g r
    → Reads shown IsValueOf act a b f g (Err (Halt NoMemory))
reads_no_memory act a b f g r did = record {
  given = did.given;
  consumed = did.consumed;
  ended = did.ended;
  grows = did.grows;
  meets = λ more none. tt;
  answer = tt;
  kept = did.kept;
  calls = did.calls;
  tells = did.tells;
  ready = tt;
  cause = tt;
}

pub reads_made : (act : Action Value) (a b : Runtime) (f g : Feed) (r made : Result Stored Exit) → (r ≡ Err (Halt NoMemory)) ⊎ (r ≡ made)
    → Reads shown IsValueOf act a b f g made → Reads shown IsValueOf act a b f g r
reads_made act a b f g r made (inl refused) did = subst (λ (r : Result Stored Exit). Reads shown IsValueOf act a b f g r) (sym refused)
    (reads_no_memory act a b f g made did)
reads_made act a b f g r made (inr same) did = subst (λ (r : Result Stored Exit). Reads shown IsValueOf act a b f g r) (sym same) did

-- what a variable gives

reads_input : (name : Target) → is_input name ≡ true → reads name ≡ reads_line
reads_input name h = let f : Bool → Action Value = λ b w. if b then reads_line w else holds name w in ap f h

reads_held : (name : Target) → is_input name ≡ false → reads name ≡ holds name
reads_held name h = let f : Bool → Action Value = λ b w. if b then reads_line w else holds name w in ap f h

pub input_read : (name : Target) (a b : Runtime) (f g : Feed) (r : Result Stored Exit) → is_input name ≡ true → Reads shown IsValueOf reads_line a b f g r
    → Reads shown IsValueOf (reads name) a b f g r
input_read name a b f g r h did = subst (λ (act : Action Value). Reads shown IsValueOf act a b f g r) (sym (reads_input name h)) did

pub held_read : (name : Target) (a b : Runtime) (f g : Feed) (r : Result Stored Exit) → is_input name ≡ false → Reads shown IsValueOf (holds name) a b f g r
    → Reads shown IsValueOf (reads name) a b f g r
held_read name a b f g r h did = subst (λ (act : Action Value). Reads shown IsValueOf act a b f g r) (sym (reads_held name h)) did

-- the numbers from one on, and one more
range_last : (a n : ℕ) → range_with_len a (suc n) ≡ range_with_len a n ++ (a + n) ∷ []
range_last a zero = let e : a + 0 ≡ a = omega arith in ap (λ k. k ∷ []) (sym e)
range_last a (suc n) =
    let e : (a + 1) + n ≡ a + suc n = omega arith in
    ap (λ ks. a ∷ ks) (range_last (a + 1) n ∙ ap (λ k. range_with_len (a + 1) n ++ k ∷ []) e)

pub range_pushed : (n : ℕ) (old new : List ℕ) → old ≡ range_with_len 0 n → new ≡ old ++ n ∷ [] → new ≡ range_with_len 0 (n + 1)
range_pushed n old new is more =
    let e : n + 1 ≡ suc n = omega arith in
    let z : 0 + n ≡ n = omega arith in
    more ∙ (ap (λ xs. xs ++ n ∷ []) is ∙ (sym (range_last 0 n ∙ ap (λ k. range_with_len 0 n ++ k ∷ []) z) ∙ ap (range_with_len 0) (sym e)))
