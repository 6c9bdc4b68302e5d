-- The grammar of statements. s is the joined text up to the end of the statement, which begins at a place of it.
use Rattle.std.specs.Prelude.{◌≡◌, ◌≢◌, ℕ, ◌+◌, ◌⊎◌, ◌||◌, ◌&&◌, Bool, true, false, List, length, Option, Some, None}
use Rattle.std.specs.Prelude.{codes}
use Rattle.sno_text.specs.declared.bytes.Class.TheVariants.{NameByte}
use Rattle.sno_text.specs.declared.node.Span.{Span}
use Rattle.sno_text.specs.Bytes.{byte, is_letter, is_digit, IsWholeRun}
use Rattle.sno_text.specs.Trees.{Tree, fits}
use Rattle.sno_text.specs.Grammar.{IsGap, IsBlanks, Level, Element, Reads}
use Rattle.sno_text.specs.Lines.{part}

pub data TargetTree : Type 0 where
  Label : Span → TargetTree
  Computed : Tree → TargetTree

pub data JumpTree : Type 0 where
  Fall : JumpTree
  Always : TargetTree → JumpTree
  -- on success, on failure
  Either : Option TargetTree → Option TargetTree → JumpTree

pub record CoreTree : Type 0 where
  pub subject : Tree
  pub pattern : Option Tree
  pub equals : Bool
  pub object : Option Tree

pub record StatementTree : Type 0 where
  pub label : Option Span
  pub core : Option CoreTree
  pub jump : JumpTree
  pub entry : Option Span

-- A label is a letter or digit and then letters, digits, '.' or '_', taken as long as it goes.
pub record IsLabel (s : List ℕ) (i j : ℕ) : Type 0 where
  pub first : (is_letter (byte s i) || is_digit (byte s i)) ≡ true
  pub rest : IsWholeRun NameByte s i j

-- place = label | "$" element
pub data IsPlace (s : List ℕ) (i j : ℕ) (t : TargetTree) : Type 0 where
  label : IsLabel s i j → t ≡ Label (record { start = i; end = j }) → IsPlace s i j t
  computed : {u : Tree} → byte s i ≡ 36 → Reads s Element (i + 1) j u → t ≡ Computed u → IsPlace s i j t

-- target = "(" [b] place [b] ")"
pub record IsTarget (s : List ℕ) (i j : ℕ) (t : TargetTree) : Type 0 where
  pub from : ℕ
  pub to : ℕ
  pub last : ℕ
  pub opening : byte s i ≡ 40
  pub before : IsGap s (i + 1) from
  pub place : IsPlace s from to t
  pub after : IsGap s to last
  pub closing : byte s last ≡ 41
  pub end : j ≡ last + 1

-- [[b] letter target]
abbrev pub HasOther : List ℕ → ℕ → ℕ → ℕ → Option TargetTree → Type 0
HasOther s letter i j None = j ≡ i
HasOther s letter i j (Some t) = (k : ℕ) × IsGap s i k × (byte s k ≡ letter) × IsTarget s (k + 1) j t

-- target [[b] letter target]
abbrev pub HasTargets : List ℕ → ℕ → ℕ → ℕ → TargetTree → Option TargetTree → Type 0
HasTargets s letter i j t u = (k : ℕ) × IsTarget s i k t × HasOther s letter k j u

-- branch = target | "S" target [[b] "F" target] | "F" target [[b] "S" target]
pub data IsBranch (s : List ℕ) (i j : ℕ) (g : JumpTree) : Type 0 where
  always : {t : TargetTree} → IsTarget s i j t → g ≡ Always t → IsBranch s i j g
  success : {t : TargetTree} {u : Option TargetTree} → byte s i ≡ 83 → HasTargets s 70 (i + 1) j t u
      → g ≡ Either (Some t) u → IsBranch s i j g
  failure : {t : TargetTree} {u : Option TargetTree} → byte s i ≡ 70 → HasTargets s 83 (i + 1) j t u
      → g ≡ Either u (Some t) → IsBranch s i j g

-- [b goto], goto = ":" [b] branch
abbrev pub HasJump : List ℕ → ℕ → ℕ → JumpTree → Type 0
HasJump s i j Fall = j ≡ i
HasJump s i j g = (k l : ℕ) × IsBlanks s i k × (byte s k ≡ 58) × IsGap s (k + 1) l × IsBranch s l j g

-- [b expr]
abbrev pub HasExpression : List ℕ → ℕ → ℕ → Option Tree → Type 0
HasExpression s i j None = j ≡ i
HasExpression s i j (Some t) = (k : ℕ) × IsBlanks s i k × Reads s (Level 0) k j t

-- [b "=" [b expr]]
abbrev pub HasObject : List ℕ → ℕ → ℕ → Bool → Option Tree → Type 0
HasObject s i j true t = (k : ℕ) × IsBlanks s i k × (byte s k ≡ 61) × HasExpression s (k + 1) j t
HasObject s i j false t = (j ≡ i) × (t ≡ None)

-- core = element [b expr] [b "=" [b expr]]
pub record IsCore (s : List ℕ) (i j : ℕ) (c : CoreTree) : Type 0 where
  pub after_subject : ℕ
  pub after_pattern : ℕ
  pub subject : Reads s Element i after_subject c.subject
  pub pattern : HasExpression s after_subject after_pattern c.pattern
  pub object : HasObject s after_pattern j c.equals c.object

-- [b core]
abbrev pub HasCore : List ℕ → ℕ → ℕ → Option CoreTree → Type 0
HasCore s i j None = j ≡ i
HasCore s i j (Some c) = (k : ℕ) × IsBlanks s i k × IsCore s k j c

-- [label]
abbrev pub HasLabel : List ℕ → ℕ → ℕ → Option Span → Type 0
HasLabel s i j None = j ≡ i
HasLabel s i j (Some span) = IsLabel s i j × (span ≡ record { start = i; end = j })

-- [b label]
abbrev pub HasEntry : List ℕ → ℕ → ℕ → Option Span → Type 0
HasEntry s i j None = j ≡ i
HasEntry s i j (Some span) = (k : ℕ) × IsBlanks s i k × HasLabel s k j (Some span)

-- The label of the statement, where it has one, is not this one.
abbrev pub IsNotLabelled : List ℕ → StatementTree → List ℕ → Type 0
IsNotLabelled s t name = (span : Span) → t.label ≡ Some span → part s span ≢ name

-- statement = [label] [b core] [b goto] [b]
pub record IsPlain (s : List ℕ) (i : ℕ) (t : StatementTree) : Type 0 where
  pub after_label : ℕ
  pub after_core : ℕ
  pub after_jump : ℕ
  pub label : HasLabel s i after_label t.label
  pub core : HasCore s after_label after_core t.core
  pub jump : HasJump s after_core after_jump t.jump
  pub rest : IsGap s after_jump (length s)
  pub entry : t.entry ≡ None
  pub some : t.label ≡ None → t.core ≡ None → t.jump ≢ Fall
  pub no_end : IsNotLabelled s t (codes "END")
  pub no_return : IsNotLabelled s t (codes "RETURN")
  pub no_freturn : IsNotLabelled s t (codes "FRETURN")

-- statement = "END" [b label] [b]
pub record IsEnd (s : List ℕ) (i : ℕ) (t : StatementTree) : Type 0 where
  pub after_label : ℕ
  pub after_entry : ℕ
  pub span : Span
  pub label : t.label ≡ Some span
  pub has_label : HasLabel s i after_label (Some span)
  pub is_end : part s span ≡ codes "END"
  pub entry : HasEntry s after_label after_entry t.entry
  pub rest : IsGap s after_entry (length s)
  pub core : t.core ≡ None
  pub jump : t.jump ≡ Fall

abbrev pub IsStatement : List ℕ → ℕ → StatementTree → Type 0
IsStatement s i t = IsPlain s i t ⊎ IsEnd s i t

-- each integer is at most 9223372036854775807
abbrev pub option_fits : Option Tree → Bool
option_fits None = true
option_fits (Some t) = fits t

abbrev pub core_fits : CoreTree → Bool
core_fits c = (fits c.subject && option_fits c.pattern) && option_fits c.object

abbrev pub core_option_fits : Option CoreTree → Bool
core_option_fits None = true
core_option_fits (Some c) = core_fits c

abbrev pub target_fits : TargetTree → Bool
target_fits (Label span) = true
target_fits (Computed t) = fits t

abbrev pub target_option_fits : Option TargetTree → Bool
target_option_fits None = true
target_option_fits (Some t) = target_fits t

abbrev pub jump_fits : JumpTree → Bool
jump_fits Fall = true
jump_fits (Always t) = target_fits t
jump_fits (Either t u) = target_option_fits t && target_option_fits u

abbrev pub statement_fits : StatementTree → Bool
statement_fits t = core_option_fits t.core && jump_fits t.jump
