-- A whole text is an expression or none.
use Rattle.std.proofs.Common.{◌≡◌, ◌≢◌, ℕ, ◌≤◌, inl, inr, Bool, true, false, List, [], ◌∷◌, length, arith, refl, sym, ◌∙◌, subst, Some, Contains}
use Rattle.std.proofs.lemmas.List.{get_or_past}
use Rattle.sno_text.specs.declared.bytes.Class.TheVariants.{Blank}
use Rattle.sno_text.specs.declared.node.Node.{Node}
use Rattle.sno_text.specs.declared.table.Found.{Found}
use Rattle.sno_text.specs.Bytes.{byte, IsWholeRun}
use Rattle.sno_text.specs.Trees.{Tree, fits, Stands, Uses}
use Rattle.sno_text.specs.Grammar.{IsGap, Level, IsExpression}
use Rattle.sno_text.specs.inner.Links.{Stops, Refuses}
use Rattle.sno_text.specs.inner.Parsed.{Extends, Gives, Parsed}
use Rattle.sno_text.specs.Program.{IsTable}
use Rattle.sno_text.specs.Refusals.{HasOpenLiteral, IsTooLarge, IsNoExpression, IsAccepted, IsSyntax, has_open_literal, is_deep}
use Rattle.sno_text.proofs.Tables.{sound_of}
use Rattle.sno_text.proofs.Primaries.{IsEndByte, end_byte_zero, inner_only, inner_none}

ends_there : (s : List ℕ) → IsEndByte (byte s (length s))
ends_there s = end_byte_zero _ (get_or_past s (length s) 0 (omega arith))

pub no_expression : (s : List ℕ) (k : ℕ) → IsWholeRun Blank s 0 k → Refuses s (Level 0) (Stops s 0) k → IsNoExpression s
no_expression s k g f t e = inner_none s 0 k g f e.from e.to (length s) t e.before e.reads e.after (ends_there s)

pub no_end : (s : List ℕ) (k l : ℕ) (old new : List Node) (f : Found) → IsWholeRun Blank s 0 k → Parsed s (Level 0) (Stops s 0) k old new (Some f)
    → IsWholeRun Blank s f.end l → l ≢ length s → IsNoExpression s
no_end s k l old new f g d h never t e =
    never (sym (inner_only s 0 k f.end l d.tree g d.finds h e.from e.to (length s) t e.before e.reads e.after (ends_there s)).0)

pub is_expression : (s : List ℕ) (k l : ℕ) (old new : List Node) (f : Found) → IsWholeRun Blank s 0 k → (d : Gives s (Level 0) (Stops s 0) k old new f)
    → IsWholeRun Blank s f.end l → l ≡ length s → (Contains s 10 → ⊥) → IsExpression s d.tree
is_expression s k l old new f g d h e one =
    record { one_line = one; from = k; to = f.end; before = g.run; reads = d.finds.reads; after = subst (λ x. IsGap s f.end x) e h.run }

-- an integer out of range
pub too_big : (s : List ℕ) (k l : ℕ) (old new : List Node) (f : Found) → IsWholeRun Blank s 0 k → Parsed s (Level 0) (Stops s 0) k old new (Some f)
    → IsWholeRun Blank s f.end l → l ≡ length s → (Contains s 10 → ⊥) → f.fits ≡ false →
    (t : Tree) × IsExpression s t × (fits t ≡ false)
too_big s k l old new f g d h e one b = (d.tree, is_expression s k l old new f g d h e one, sym d.fit ∙ b)

pub accepted : (s : List ℕ) (k l : ℕ) (old new : List Node) (f : Found) → (HasOpenLiteral s → ⊥) → (IsTooLarge s → ⊥) → IsWholeRun Blank s 0 k
    → Parsed s (Level 0) (Stops s 0) k old new (Some f) →
    IsWholeRun Blank s f.end l → l ≡ length s → (Contains s 10 → ⊥) → f.fits ≡ true → old ≡ [] → (t : Tree) × IsAccepted s t
    × Stands new f.id t × Uses new 0 (f.id ∷ [])
accepted s k l old new f a c g d h e one b none = (
  d.tree,
  record {
    closed = a;
    small = c;
    reads = is_expression s k l old new f g d h e one;
    only = λ u x. (inner_only s 0 k f.end l d.tree g d.finds h x.from x.to (length s) u x.before x.reads x.after (ends_there s)).1;
    fit = sym d.fit ∙ b;
  },
  d.stands,
  subst (λ (x : List Node). Uses new (length x) (f.id ∷ [])) none d.used,
)

pub not_large : (s : List ℕ) → length s ≤ 8000 → is_deep 0 0 s ≡ false → IsTooLarge s → ⊥
not_large s h e (inl f) = omega arith
not_large s h e (inr f) = cc

pub not_open : (s : List ℕ) (b : Bool) → b ≡ has_open_literal 0 s → b ≡ false → HasOpenLiteral s → ⊥
not_open s b e f h = cc

-- a text with an LF
pub two_lines : (s : List ℕ) → Contains s 10 → IsNoExpression s
two_lines s h t e = e.one_line h

-- a text that isn't of the grammar
pub refused_three : (s : List ℕ) → (HasOpenLiteral s → ⊥) → length s ≤ 8000 → is_deep 0 0 s ≡ false → IsNoExpression s → IsSyntax 3 s
refused_three s h g k no_tree = inr (inl (refl, h, not_large s g k, no_tree))

-- the table of a whole text
pub whole_table : (n : ℕ) (new : List Node) → Extends n [] new → IsTable n new
whole_table n new x = record {
  operands = λ id node h. (sound_of x id node (omega arith) h).operands;
  spans = λ id node h. (sound_of x id node (omega arith) h).spans;
  named = λ id node h. (sound_of x id node (omega arith) h).named;
}

pub ruleset expression_facts = (no_expression, no_end, too_big, accepted, two_lines, whole_table)
