-- A statement is judged by the first row of the table that fits.
use Rattle.std.proofs.Common.{◌≡◌, ◌≢◌, ℕ, zero, suc, ◌<◌, ◌≤◌, inl, inr, true, false, List, [], ◌∷◌, length, take, arith, sym, ◌∙◌, ap, Some, None, codes}
use Rattle.std.proofs.Common.{is_some}
use Rattle.std.specs.declared.vec.Vec.{Vec}
use Rattle.std.specs.declared.alloc.Global.{Global}
use Rattle.sno_text.specs.declared.error.ReadError.{ReadError}
use Rattle.sno_text.specs.declared.error.ReadError.TheVariants.{Syntax, DuplicateLabel, TooLarge}
use Rattle.sno_text.specs.declared.node.Node.{Node}
use Rattle.sno_text.specs.declared.node.Span.{Span}
use Rattle.sno_text.specs.declared.phrase.Phrase.{Phrase}
use Rattle.sno_text.specs.Refusals.{HasOpenLiteral}
use Rattle.sno_text.specs.Lines.{joined, part, line_of}
use Rattle.sno_text.specs.Program.{SpansWithin, IsOptionWithin}
use Rattle.sno_text.specs.inner.Program.{number_of}
use Rattle.sno_text.proofs.Soundness.{label_of, option_wider}
use Rattle.sno_text.specs.inner.Parsed.{Extends, extended, IsSound}
use Rattle.sno_text.specs.Statements.{StatementTree, statement_fits}
use Rattle.sno_text.specs.Phrases.{GivesPhrase}
use Rattle.sno_text.specs.Programs.{Row, IsTooLargeBytes, IsStatementAt, HasLargeInteger, HasDuplicate, HasNoEntry, IsRefusedAt}
use Rattle.sno_text.specs.inner.Judging.{Knows, IsShapeRefused, IsLabelRefused, Accepts}
use Rattle.sno_text.specs.declared.node.Node.TheVariants as nodes

abbrev Entries : Type 0
Entries = List (Vec ℕ Global × ℕ)

first_rows : (a b c below : Type 0) (x y z e : ReadError) → Row a x e (Row b y e (Row c z e ⊥)) → Row a x e (Row b y e (Row c z e below))
first_rows a b c below x y z e (inl h) = inl h
first_rows a b c below x y z e (inr (n, inl h)) = inr (n, inl h)
first_rows a b c below x y z e (inr (n, inr (m, inl h))) = inr (n, inr (m, inl h))
first_rows a b c below x y z e (inr (n, inr (m, inr (k, h)))) = absurd h

-- the rows before the grammar
pub shape_refused : (s j : List ℕ) (count line : ℕ) (before : List StatementTree) (entries : Entries) (span : Span) (e : ReadError) → j ≡ joined s
    → line ≡ line_of s span → Knows s before count entries →
    IsShapeRefused count (part j span) line e → IsRefusedAt s before span e
shape_refused s j count line before entries span e f g k h = rw (k.many, ← g, ← f) (first_rows _ _ _ _ _ _ _ e h)

-- none of them fits
pub record Shaped (s : List ℕ) (count : ℕ) (span : Span) : Type 0 where
  pub few : count < 100000
  pub closed : HasOpenLiteral (part (joined s) span) → ⊥
  pub small : IsTooLargeBytes (part (joined s) span) → ⊥

pub shaped : (s j : List ℕ) (count : ℕ) (span : Span) → j ≡ joined s → (count < 100000) × (HasOpenLiteral (part j span) → ⊥)
    × (IsTooLargeBytes (part j span) → ⊥) → Shaped s count span
shaped s j count span f (a, b, c) = record { few = a; closed = rw (← f) b; small = rw (← f) c }

below_shape : (s : List ℕ) (count line : ℕ) (before : List StatementTree) (entries : Entries) (span : Span) (e : ReadError) (below : Type 0)
    → Knows s before count entries → Shaped s count span → below →
    Row (100000 ≤ length before) (TooLarge (line_of s span)) e
    (Row (HasOpenLiteral (part (joined s) span)) (Syntax (line_of s span) 1) e
    (Row (IsTooLargeBytes (part (joined s) span)) (TooLarge (line_of s span)) e below))
below_shape s count line before entries span e below k a h =
    inr (λ many. (let f = a.few in let g = k.many in absurd (omega arith)), inr (a.closed, inr (a.small, h)))

-- it isn't of the grammar
pub grammar_refused : (s : List ℕ) (count line : ℕ) (before : List StatementTree) (entries : Entries) (span : Span) (e : ReadError) → e ≡ Syntax line 3
    → line ≡ line_of s span → Knows s before count entries → Shaped s count span →
    ((u : StatementTree) → IsStatementAt s span u → ⊥) → IsRefusedAt s before span e
grammar_refused s count line before entries span e f g k a none = below_shape s count line before entries span e _ k a (inl (none, f ∙ ap (λ x. Syntax x 3) g))

-- an integer is too large
pub integer_refused : (s : List ℕ) (count line : ℕ) (before : List StatementTree) (entries : Entries) (span : Span) (e : ReadError) (n i : ℕ)
    (old new : List Node) (p : Phrase) → e ≡ Syntax line 2 → line ≡ line_of s span →
    Knows s before count entries → Shaped s count span → GivesPhrase (IsStatementAt s span) n i old new p → p.fits ≡ false → IsRefusedAt s before span e
integer_refused s count line before entries span e n i old new p f g k a r h =
    below_shape s count line before entries span e _ k a
    (inr (λ none. none r.tree r.reads, inl ((r.tree, r.reads, sym r.fits ∙ h), f ∙ ap (λ x. Syntax x 2) g)))

fits_none : (s : List ℕ) (span : Span) (n i : ℕ) (old new : List Node) (p : Phrase) → GivesPhrase (IsStatementAt s span) n i old new p → p.fits ≡ true
    → HasLargeInteger s span → ⊥
fits_none s span n i old new p r h (t, a, b) =
    let same : t ≡ r.tree = r.only t a in
    let f : statement_fits t ≡ true = ap statement_fits same ∙ sym r.fits ∙ h in cc

label_is : (s : List ℕ) (span : Span) (n i : ℕ) (old new : List Node) (p : Phrase) (r : GivesPhrase (IsStatementAt s span) n i old new p) (t : StatementTree)
    (x : Span) → IsStatementAt s span t → t.label ≡ Some x → p.label ≡ Some x
label_is s span n i old new p r t x a e = r.stands.0 ∙ ap (λ u. u.label) (sym (r.only t a)) ∙ e

entry_is : (s : List ℕ) (span : Span) (n i : ℕ) (old new : List Node) (p : Phrase) (r : GivesPhrase (IsStatementAt s span) n i old new p) (t : StatementTree)
    (x : Span) → IsStatementAt s span t → t.entry ≡ Some x → p.entry ≡ Some x
entry_is s span n i old new p r t x a e = r.stands.3 ∙ ap (λ u. u.entry) (sym (r.only t a)) ∙ e

no_duplicate : (s : List ℕ) (count : ℕ) (before : List StatementTree) (entries : Entries) (span : Span) (n i : ℕ) (old new : List Node) (p : Phrase)
    → Knows s before count entries → GivesPhrase (IsStatementAt s span) n i old new p →
    ((x : Span) → p.label ≡ Some x → number_of entries (part s x) ≡ None) → HasDuplicate s before span → ⊥
no_duplicate s count before entries span n i old new p k r fresh (t, x, a, e, h) = k.complete (part s x) (fresh x (label_is s span n i old new p r t x a e)) h

-- by its labels
pub label_refused : (s : List ℕ) (count line : ℕ) (before : List StatementTree) (entries : Entries) (span : Span) (e : ReadError) (n i : ℕ)
    (old new : List Node) (p : Phrase) → line ≡ line_of s span →
    Knows s before count entries → Shaped s count span → GivesPhrase (IsStatementAt s span) n i old new p → p.fits ≡ true → IsLabelRefused s entries p line e
    → IsRefusedAt s before span e
label_refused s count line before entries span e n i old new p g k a r h (inl (x, l, d, f)) =
    below_shape s count line before entries span e _ k a (inr (
      λ none. none r.tree r.reads,
      inr (
        fits_none s span n i old new p r h,
        inl ((r.tree, x, r.reads, sym r.stands.0 ∙ l, k.sound (part s x) d), f ∙ ap DuplicateLabel g),
      ),
    ))
label_refused s count line before entries span e n i old new p g k a r h (inr (fresh, x, l, never, d, f)) =
    below_shape s count line before entries span e _ k a (inr (
      λ none. none r.tree r.reads,
      inr (
        fits_none s span n i old new p r h,
        inr (
          no_duplicate s count before entries span n i old new p k r fresh,
          inl ((r.tree, x, r.reads, sym r.stands.3 ∙ l, never, k.complete (part s x) d), f ∙ ap (λ y. Syntax y 4) g),
        ),
      ),
    ))

has_entry : (s : List ℕ) (count : ℕ) (before : List StatementTree) (entries : Entries) (span : Span) (n i : ℕ) (old new : List Node) (p : Phrase)
    → Knows s before count entries → GivesPhrase (IsStatementAt s span) n i old new p →
    ((x : Span) → p.entry ≡ Some x → part s x ≢ codes "END" → is_some (number_of entries (part s x)) ≡ true) → HasNoEntry s before span → ⊥
has_entry s count before entries span n i old new p k r known (t, x, a, e, never, none) =
    none (k.sound (part s x) (known x (entry_is s span n i old new p r t x a e) never))

-- no row fits
pub judged : (s : List ℕ) (count : ℕ) (before : List StatementTree) (entries : Entries) (span : Span) (n i : ℕ) (old new : List Node) (p : Phrase) →
    Knows s before count entries → Shaped s count span → GivesPhrase (IsStatementAt s span) n i old new p → p.fits ≡ true →
    ((x : Span) → p.label ≡ Some x → number_of entries (part s x) ≡ None)
    → ((x : Span) → p.entry ≡ Some x → part s x ≢ codes "END" → is_some (number_of entries (part s x)) ≡ true) →
    Accepts s before span old new p
judged s count before entries span n i old new p k a r h fresh known = record {
  tree = r.tree;
  accepted = record {
    few = let f = a.few in let g = k.many in omega arith;
    closed = a.closed;
    small = a.small;
    reads = r.reads;
    only = r.only;
    fit = sym r.fits ∙ h;
    fresh = no_duplicate s count before entries span n i old new p k r fresh;
    entry = λ d. has_entry s count before entries span n i old new p k r known d;
  };
  stands = r.stands;
  used = r.used;
}

-- a longer text
spans_wider : (n m : ℕ) (node : Node) → n ≤ m → SpansWithin node n → SpansWithin node m
spans_wider n m (nodes.Variable span) h (a, b) = (a, omega arith)
spans_wider n m (nodes.Integer value) h a = tt
spans_wider n m (nodes.Literal span) h (a, b) = (a, omega arith)
spans_wider n m (nodes.Keyword span) h (a, b) = (a, omega arith)
spans_wider n m (nodes.Unary o x) h a = tt
spans_wider n m (nodes.Binary o x y) h a = tt
spans_wider n m (nodes.Call span ids) h (a, b) = (a, omega arith)
spans_wider n m (nodes.Item span ids) h (a, b) = (a, omega arith)

sound_wider : (n m id : ℕ) (node : Node) → n ≤ m → IsSound n id node → IsSound m id node
sound_wider n m id node h a = record { operands = a.operands; spans = spans_wider n m node h a.spans; named = a.named }

pub extends_wider : (n m : ℕ) (old new : List Node) → n ≤ m → Extends n old new → Extends m old new
extends_wider n m old new h (extended g f) = extended g (λ id node low at. sound_wider n m id node h (f id node low at))

pub length_cut : (n : ℕ) (xs : List ℕ) → length (take n xs) ≤ length xs
length_cut zero xs = omega arith
length_cut (suc n) [] = omega arith
length_cut (suc n) (x ∷ xs) = let h = length_cut n xs in omega arith

-- the label that was read lies in the text
pub given_label : (s j : List ℕ) (span : Span) (n i : ℕ) (old : List Node) (p : Phrase) {new : List Node} → j ≡ joined s → length j ≡ length s
    → GivesPhrase (IsStatementAt s span) n i old new p → IsOptionWithin p.label (length s)
given_label s j span n i old p e f r =
    let w = length_cut span.end (joined s) in
    let g : length (joined s) ≡ length s = ap length (sym e) ∙ f in
    rw r.stands.0 (option_wider r.tree.label _ (length s) (omega arith) (label_of (take span.end (joined s)) span.start r.tree r.reads))
