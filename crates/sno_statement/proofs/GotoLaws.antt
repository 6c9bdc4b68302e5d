-- Labels, and where statements go on.
use Rattle.std.proofs.Common.{◌≡◌, ℕ, zero, suc, ◌+◌, arith, Bool, true, false, List, [], ◌∷◌, if◌then◌else◌, refl, ◌∙◌, ap, subst, slice_get}
use Rattle.std.proofs.Common.{length, codes, option_map, ◌==◌, Option, None, Some, Result, Err}
use Rattle.std.specs.Str.{bytes_eq}
use Rattle.std.proofs.lemmas.Bool.Decides.{Decides-eqb}
use Rattle.std.proofs.lemmas.Slice.Eq.{bytes_eq-Decides}
use Rattle.sno_text.specs.declared.node.Span.{Span}
use Rattle.sno_text.specs.declared.statement.Statement.{Statement}
use Rattle.sno_value.specs.declared.value.Value.{Value as Stored}
use Rattle.sno_text.specs.Program.{Program, IsLabelled}
use Rattle.sno_runtime.specs.declared.stops.Exit.{Exit}
use Rattle.sno_expression.specs.Forms.{token}
use Rattle.sno_runtime.specs.Action.{Error, Action, stops, either}
use Rattle.sno_runtime.specs.Values.{shown}
use Rattle.sno_runtime.specs.Variables.{text_of}
use Rattle.sno_statement.specs.Statements.{by_text}
use Rattle.sno_statement.specs.declared.targets.Goto.{Goto}
use Rattle.sno_statement.specs.declared.targets.Goto.TheVariants.{Statement as ToStatement, Return, FReturn}
use Rattle.sno_statement.specs.Steps.{has_label, labelled, label_number, goto_of, goes, goes_to, goes_to_computed}
use Rattle.sno_runtime.specs.inner.Converted.{IsThere}
use Rattle.sno_runtime.specs.Runtime.{Runtime, itself}
use Rattle.sno_runtime.specs.inner.Runtime.{Does, any}
use Rattle.sno_runtime.proofs.Conversions.{missing_in}

-- a statement with a label

labelled_by : (text label : List ℕ) (o : Option Span) → either false (λ span. bytes_eq (token text span) label) o ≡ true → (span : Span) × (o ≡ Some span)
    × (token text span ≡ label)
labelled_by text label None h = absurd (cc h)
labelled_by text label (Some span) h = let d = bytes_eq-Decides (token text span) label in (span, refl, d.0 h)

has_its_label : (text label : List ℕ) (st : Statement) (span : Span) → st.label ≡ Some span → token text span ≡ label → has_label text label st ≡ true
has_its_label text label st span is same = rw is (let d = bytes_eq-Decides (token text span) label in d.1 same)

-- the first of the statements with a label

abbrev Behind : List ℕ → List ℕ → List Statement → ℕ → ℕ → Type 0
Behind text label statements n m = (k : ℕ) × (st : Statement) × (m ≡ k + n) × (slice_get statements k ≡ Some st) × (has_label text label st ≡ true)

first_labelled : (text label : List ℕ) (statements : List Statement) (n m : ℕ) → labelled text label statements n ≡ Some m → Behind text label statements n m
first_labelled text label [] n m h = absurd (cc h)
first_labelled text label (statement ∷ statements) n m h = by (has_label text label statement) refl (first_labelled text label statements (n + 1) m) h
  where
    by : (b : Bool) → has_label text label statement ≡ b → (labelled text label statements (n + 1) ≡ Some m → Behind text label statements (n + 1) m)
        → (if b then Some n else labelled text label statements (n + 1)) ≡ Some m
        → Behind text label (statement ∷ statements) n m
    by true e rest is = let same : n ≡ m = cc is in (0, statement, omega arith, refl, e)
    by false e rest is = let f = rest is in let at = f.2 in (suc f.0, f.1, omega arith, f.3, f.4)

none_labelled : (text label : List ℕ) (statements : List Statement) (n k : ℕ) (st : Statement) → labelled text label statements n ≡ None
    → slice_get statements k ≡ Some st → has_label text label st ≡ true → ⊥
none_labelled text label [] n k st none at has = cc at
none_labelled text label (statement ∷ statements) n zero st none at has =
    let same : statement ≡ st = cc at in
    let is : has_label text label statement ≡ true = ap (has_label text label) same ∙ has in
    cc (rw is at none)
none_labelled text label (statement ∷ statements) n (suc k) st none at has =
    by (has_label text label statement) (λ is. none_labelled text label statements (n + 1) k st is at has) none
  where
    by : (b : Bool) → (labelled text label statements (n + 1) ≡ None → ⊥) → (if b then Some n else labelled text label statements (n + 1)) ≡ None → ⊥
    by true rest is = cc is
    by false rest is = rest is

-- The number of the statement with a label is that of the one that is labelled, and there is none where none is.

pub label_found : (program : Program) (label : List ℕ) (n : ℕ) → IsLabelled program.text program.statements label n
    → ((m : ℕ) → IsLabelled program.text program.statements label m → m ≡ n) → label_number program label ≡ Some n
label_found program label n is only = by (label_number program label) refl
  where
    by : (o : Option ℕ) → label_number program label ≡ o → o ≡ Some n
    by None e = absurd (none_labelled program.text label program.statements 1 is.0 is.1 e is.4 (has_its_label program.text label is.1 is.2 is.5 is.6))
    by (Some m) e =
        let f = first_labelled program.text label program.statements 1 m e in
        let l = labelled_by program.text label f.1.label f.4 in
        ap (λ k. Some k) (only m (f.0, f.1, l.0, f.2, f.3, l.1, l.2))

pub label_missing : (program : Program) (label : List ℕ) → ((n : ℕ) → IsLabelled program.text program.statements label n → ⊥)
    → label_number program label ≡ None
label_missing program label none = by (label_number program label) refl
  where
    by : (o : Option ℕ) → label_number program label ≡ o → o ≡ None
    by None e = refl
    by (Some m) e =
        let f = first_labelled program.text label program.statements 1 m e in
        let l = labelled_by program.text label f.1.label f.4 in
        absurd (none m (f.0, f.1, l.0, f.2, f.3, l.1, l.2))

-- where a label leads

pub leads_within : (program : Program) (label : List ℕ) (o : Option ℕ) → bytes_eq label (codes "RETURN") ≡ false → bytes_eq label (codes "FRETURN") ≡ false
    → label_number program label ≡ o → goto_of program label ≡ option_map ToStatement o
leads_within program label o other neither at =
    ap (λ (b : Bool). if b then Some Return else if bytes_eq label (codes "FRETURN") then Some FReturn
    else option_map ToStatement (label_number program label)) other
    ∙ (ap (λ (b : Bool). if b then Some FReturn else option_map ToStatement (label_number program label)) neither ∙ ap (option_map ToStatement) at)

-- the label that is the text of a value

abbrev goes_by : Program → Runtime → Stored → Action Goto
goes_by program s v = by_text (goes_to_computed program) (shown s.nodes v)

pub textless : (program : Program) (v : Stored) (s : Runtime) (e : Exit) → IsThere {X = List ℕ} (λ t. t) (text_of (shown s.nodes v)) (Err e)
    → Does {X = Goto} itself any (goes_by program s v) s s (Err e)
textless program v s e there = missing_in {X = List ℕ} {Y = Goto} (λ t. t) itself any (text_of (shown s.nodes v)) (goes_by program s v) s e
    (λ none. rw none refl) there

pub not_empty : (bytes : List ℕ) (n : ℕ) (b : Bool) → n ≡ length bytes → b ≡ (n == 0) → b ≡ false → bytes ≡ [] → ⊥
not_empty bytes n b long is h none = let d = Decides-eqb n 0 in let z : n ≡ 0 = long ∙ ap length none in let e : b ≡ true = is ∙ d.1 z in cc

goes_by_text : (program : Program) (v : Stored) (bytes : List ℕ) (s : Runtime) (r : Result Goto Exit) → text_of (shown s.nodes v)
    ≡ Some bytes → (bytes ≡ [] → ⊥)
    → Does itself any (goes_to program bytes) s s r → Does itself any (goes_by program s v) s s r
goes_by_text program v [] s r is some did = absurd (some refl)
goes_by_text program v (byte ∷ bytes) s r is some did = rw is did

pub goes_by_label : (program : Program) (v : Stored) (bytes : List ℕ) (goto : Option Goto) (s : Runtime) (r : Result Goto Exit) → text_of (shown s.nodes v)
    ≡ Some bytes → (bytes ≡ [] → ⊥) → goto ≡ goto_of program bytes
    → Does itself any (either (stops (Error 5)) goes goto) s s r → Does itself any (goes_by program s v) s s r
goes_by_label program v bytes goto s r is some leads did =
    goes_by_text program v bytes s r is some (subst (λ (g : Option Goto). Does itself any (either (stops (Error 5)) goes g) s s r) leads did)
