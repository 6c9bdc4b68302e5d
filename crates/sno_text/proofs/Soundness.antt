-- The tokens of a statement lie in its text, and its expressions are of the table.
use Rattle.std.proofs.Common.{◌≡◌, ℕ, ◌+◌, ◌-◌, ◌≤◌, inl, inr, List, length, arith, subst, Some, None, Option}
use Rattle.sno_value.specs.declared.ids.ExprId.{ExprId}
use Rattle.sno_text.specs.declared.bytes.Class.TheVariants.{NameByte}
use Rattle.sno_text.specs.declared.node.Node.{Node}
use Rattle.sno_text.specs.declared.node.Span.{Span}
use Rattle.sno_text.specs.declared.phrase.Phrase.{Phrase}
use Rattle.sno_text.specs.declared.statement.Statement.{Statement}
use Rattle.sno_text.specs.declared.statement.Core.{Core}
use Rattle.sno_text.specs.declared.statement.Jump.{Jump}
use Rattle.sno_text.specs.declared.statement.Jump.TheVariants as jumps
use Rattle.sno_text.specs.declared.statement.Target.{Target}
use Rattle.sno_text.specs.declared.statement.Target.TheVariants as targets
use Rattle.sno_text.specs.Trees.{Tree}
use Rattle.sno_text.specs.Program.{IsOptionWithin, IsOptionBelow, IsTargetOf, IsTargetOptionOf, IsJumpOf, IsCoreOf, IsStatementOf}
use Rattle.sno_text.specs.Statements.{TargetTree, Label, Computed, JumpTree, Fall, Always, Either, CoreTree, IsLabel, IsPlace, label, computed, IsTarget}
use Rattle.sno_text.specs.Statements.{HasOther, IsBranch, always, success, failure, HasJump, HasLabel, HasEntry, StatementTree, IsStatement}
use Rattle.sno_text.specs.Pieces.{StandsTarget, StandsJump, StandsExpression, StandsCores}
use Rattle.sno_text.specs.inner.Pieces.{StandsTargets}
use Rattle.sno_text.specs.Phrases.{StandsPhrase}
use Rattle.sno_text.specs.inner.Judging.{statement_of}
use Rattle.sno_text.proofs.Runs.{in_text}
use Rattle.sno_text.proofs.Tables.{stands_id_below, run_some}
use Rattle.sno_text.proofs.Targets.{label_name_byte}

label_within : (s : List ℕ) (i j : ℕ) → IsLabel s i j → (i ≤ j) × (j ≤ length s)
label_within s i j l =
    let some = run_some NameByte s i j l.rest (label_name_byte _ l.first) in
    let last = l.rest.run.each (j - 1) (omega arith) (omega arith) in
    let here = in_text NameByte s (j - 1) last in
    (omega arith, omega arith)

label_option : (s : List ℕ) (i j : ℕ) (x : Option Span) → HasLabel s i j x → IsOptionWithin x (length s)
label_option s i j None h = tt
label_option s i j (Some span) (l, e) = let w = label_within s i j l in rw e w

entry_option : (s : List ℕ) (i j : ℕ) (x : Option Span) → HasEntry s i j x → IsOptionWithin x (length s)
entry_option s i j None h = tt
entry_option s i j (Some span) (k, b, h) = label_option s k j (Some span) h

none_within : (x : Option Span) (n : ℕ) → x ≡ None → IsOptionWithin x n
none_within x n e = rw e tt

pub label_of : (s : List ℕ) (i : ℕ) (t : StatementTree) → IsStatement s i t → IsOptionWithin t.label (length s)
label_of s i t (inl r) = label_option s i r.after_label t.label r.label
label_of s i t (inr r) = rw r.label (label_option s i r.after_label (Some r.span) r.has_label)

pub entry_of : (s : List ℕ) (i : ℕ) (t : StatementTree) → IsStatement s i t → IsOptionWithin t.entry (length s)
entry_of s i t (inl r) = none_within t.entry (length s) r.entry
entry_of s i t (inr r) = entry_option s r.after_label r.after_entry t.entry r.entry

pub option_wider : (x : Option Span) (n m : ℕ) → n ≤ m → IsOptionWithin x n → IsOptionWithin x m
option_wider None n m h w = tt
option_wider (Some span) n m h (a, b) = (a, omega arith)

place_of : (s : List ℕ) (table : List Node) (i j : ℕ) (c : Target) (t : TargetTree) → StandsTarget table c t → IsPlace s i j t
    → IsTargetOf (length s) (length table) c
place_of s table i j (targets.Label span) (Label place) e (label l f) =
    let same : place ≡ record { start = i; end = j } = cc in
    let w = label_within s i j l in
    rw (e, same) w
place_of s table i j (targets.Label span) (Label place) e (computed h r f) = absurd (cc)
place_of s table i j (targets.Label span) (Computed u) e p = absurd e
place_of s table i j (targets.Computed id) (Label place) e p = absurd e
place_of s table i j (targets.Computed id) (Computed u) e p = stands_id_below table u id e

target_of : (s : List ℕ) (table : List Node) (i j : ℕ) (c : Target) (t : TargetTree) → StandsTarget table c t → IsTarget s i j t
    → IsTargetOf (length s) (length table) c
target_of s table i j c t h r = place_of s table r.from r.to c t h r.place

other_of : (s : List ℕ) (table : List Node) (letter i j : ℕ) (c : Option Target) (t : Option TargetTree) → StandsTargets table c t → HasOther s letter i j t
    → IsTargetOptionOf (length s) (length table) c
other_of s table letter i j None t h r = tt
other_of s table letter i j (Some c) None h r = absurd h
other_of s table letter i j (Some c) (Some t) h (k, b, e, r) = target_of s table (k + 1) j c t h r

one_of : (s : List ℕ) (table : List Node) (i j : ℕ) (c : Option Target) (t : TargetTree) → StandsTargets table c (Some t) → IsTarget s i j t
    → IsTargetOptionOf (length s) (length table) c
one_of s table i j None t h r = tt
one_of s table i j (Some c) t h r = target_of s table i j c t h r

branch_of : (s : List ℕ) (table : List Node) (i j : ℕ) (c : Jump) (g : JumpTree) → StandsJump table c g → IsBranch s i j g
    → IsJumpOf (length s) (length table) c
branch_of s table i j jumps.Fall g h r = tt
branch_of s table i j (jumps.Always a) Fall h r = absurd h
branch_of s table i j (jumps.Always a) (Either d e) h r = absurd h
branch_of s table i j (jumps.Always a) (Always b) h (always {t = t} r f) = let same : b ≡ t =
    cc in target_of s table i j a t (subst (StandsTarget table a) same h) r
branch_of s table i j (jumps.Always a) (Always b) h (success d r f) = absurd (cc)
branch_of s table i j (jumps.Always a) (Always b) h (failure d r f) = absurd (cc)
branch_of s table i j (jumps.Either a b) Fall h r = absurd h
branch_of s table i j (jumps.Either a b) (Always d) h r = absurd h
branch_of s table i j (jumps.Either a b) (Either d e) h (always r f) = absurd (cc)
branch_of s table i j (jumps.Either a b) (Either d e) h (success {t = t} {u = u} x r f) =
    let first : d ≡ Some t = cc in
    let second : e ≡ u = cc in
    (one_of s table (i + 1) r.0 a t (subst (StandsTargets table a) first h.0) r.1, other_of s table 70 r.0 j b u (subst (StandsTargets table b) second h.1) r.2)
branch_of s table i j (jumps.Either a b) (Either d e) h (failure {t = t} {u = u} x r f) =
    let first : d ≡ u = cc in
    let second : e ≡ Some t = cc in
    (other_of s table 83 r.0 j a u (subst (StandsTargets table a) first h.0) r.2, one_of s table (i + 1) r.0 b t (subst (StandsTargets table b) second h.1) r.1)

jump_of : (s : List ℕ) (table : List Node) (i j : ℕ) (c : Jump) (g : JumpTree) → StandsJump table c g → HasJump s i j g → IsJumpOf (length s) (length table) c
jump_of s table i j jumps.Fall g h r = tt
jump_of s table i j (jumps.Always a) Fall h r = absurd h
jump_of s table i j (jumps.Either a b) Fall h r = absurd h
jump_of s table i j (jumps.Always a) (Always b) h (k, l, d, e, f, r) = branch_of s table l j (jumps.Always a) (Always b) h r
jump_of s table i j (jumps.Always a) (Either b c) h (k, l, d, e, f, r) = absurd h
jump_of s table i j (jumps.Either a b) (Always c) h (k, l, d, e, f, r) = absurd h
jump_of s table i j (jumps.Either a b) (Either c g) h (k, l, d, e, f, r) = branch_of s table l j (jumps.Either a b) (Either c g) h r

expression_of : (table : List Node) (c : Option ExprId) (t : Option Tree) → StandsExpression table c t → IsOptionBelow c (length table)
expression_of table None t h = tt
expression_of table (Some id) None h = absurd h
expression_of table (Some id) (Some t) h = stands_id_below table t id h

core_of : (table : List Node) (c : Option Core) (t : Option CoreTree) → StandsCores table c t → IsCoreOf (length table) c
core_of table None t h = tt
core_of table (Some c) None h = absurd h
core_of table (Some c) (Some t) h =
    (stands_id_below table t.subject c.subject h.0, expression_of table c.pattern t.pattern h.1, expression_of table c.object t.object h.3)

no_jump : (n : ℕ) (table : List Node) (c : Jump) → StandsJump table c Fall → IsJumpOf n (length table) c
no_jump n table jumps.Fall h = tt
no_jump n table (jumps.Always a) h = absurd h
no_jump n table (jumps.Either a b) h = absurd h

jump_statement : (s : List ℕ) (table : List Node) (i : ℕ) (t : StatementTree) (c : Jump) → StandsJump table c t.jump → IsStatement s i t
    → IsJumpOf (length s) (length table) c
jump_statement s table i t c h (inl r) = jump_of s table r.after_core r.after_jump c t.jump h r.jump
jump_statement s table i t c h (inr r) = no_jump (length s) table c (subst (StandsJump table c) r.jump h)

target_wider : (n m k l : ℕ) (c : Target) → n ≤ m → k ≤ l → IsTargetOf n k c → IsTargetOf m l c
target_wider n m k l (targets.Label span) h g (a, b) = (a, omega arith)
target_wider n m k l (targets.Computed id) h g a = omega arith

target_option_wider : (n m k l : ℕ) (c : Option Target) → n ≤ m → k ≤ l → IsTargetOptionOf n k c → IsTargetOptionOf m l c
target_option_wider n m k l None h g a = tt
target_option_wider n m k l (Some c) h g a = target_wider n m k l c h g a

jump_wider : (n m k l : ℕ) (c : Jump) → n ≤ m → k ≤ l → IsJumpOf n k c → IsJumpOf m l c
jump_wider n m k l jumps.Fall h g a = tt
jump_wider n m k l (jumps.Always c) h g a = target_wider n m k l c h g a
jump_wider n m k l (jumps.Either c d) h g a = (target_option_wider n m k l c h g a.0, target_option_wider n m k l d h g a.1)

below_wider : (k l : ℕ) (c : Option ExprId) → k ≤ l → IsOptionBelow c k → IsOptionBelow c l
below_wider k l None g a = tt
below_wider k l (Some id) g a = omega arith

core_wider : (k l : ℕ) (c : Option Core) → k ≤ l → IsCoreOf k c → IsCoreOf l c
core_wider k l None g a = tt
core_wider k l (Some c) g a = (let b = a.0 in omega arith, below_wider k l c.pattern g a.1, below_wider k l c.object g a.2)

-- a statement that was read
pub sound_statement : (s : List ℕ) (n i : ℕ) (table : List Node) (t : StatementTree) (p : Phrase) (line : ℕ) → length s ≤ n → IsStatement s i t
    → StandsPhrase table p t → IsStatementOf n (length table) (statement_of p line)
sound_statement s n i table t p line h r a = record {
  label = rw a.0 (option_wider t.label (length s) n h (label_of s i t r));
  core = core_of table p.core t.core a.1;
  jump = jump_wider (length s) n (length table) (length table) p.jump h (omega arith) (jump_statement s table i t p.jump a.2 r);
  entry = rw a.3 (option_wider t.entry (length s) n h (entry_of s i t r));
}

pub sound_wider : (n k l : ℕ) (st : Statement) → k ≤ l → IsStatementOf n k st → IsStatementOf n l st
sound_wider n k l st g a = record {
  label = a.label;
  core = core_wider k l st.core g a.core;
  jump = jump_wider n n k l st.jump (omega arith) g a.jump;
  entry = a.entry;
}
