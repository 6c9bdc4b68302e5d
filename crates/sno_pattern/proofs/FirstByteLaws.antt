-- The bytes with which a primitive begins.
use Rattle.std.proofs.Common.{◌≡◌, ℕ, ◌+◌, ◌<◌, ◌==◌, IfSome, arith, Bool, true, false, ◌||◌, List, [], ◌∷◌, length, drop, Option, Some, None}
use Rattle.std.proofs.Common.{get_or, slice_get, slice_index, refl, sym, ◌∙◌, ap, subst}
use Rattle.std.specs.Option.{is_some}
use Rattle.std.proofs.lemmas.Bool.{eq-eqb}
use Rattle.sno_value.specs.declared.kind.PrimitiveKind.TheVariants.{Any, Span}
use Rattle.sno_value.specs.declared.ids.PatId.{PatId}
use Rattle.sno_value.specs.declared.value.Name.{Name}
use Rattle.sno_pattern.specs.Pattern.{Pattern, Text, Among, Leaf, Alt, Cat, Cond, Imm}
use Rattle.sno_pattern.specs.Ends.{is_in, end_after, run_length}
use Rattle.sno_pattern.specs.Places.{IsAmong, BeginsWith, stands_at, has_end}
use Rattle.sno_pattern.specs.Shape.{HasShape, IsPrimitive, end_of}
use Rattle.sno_pattern.specs.Table.{tree}
use Rattle.sno_pattern.specs.inner.Kinds.{node_of, nodes_of, IsBegun, IsTable}
use Rattle.sno_pattern.specs.Masks.{members}
use Rattle.sno_pattern.specs.inner.Places.{leaf_has_end, node_has_end, byte_passes}
use Rattle.sno_pattern.specs.inner.Shape.{shape_of, end_of_node}
use Rattle.sno_pattern.specs.declared.first_bytes.FirstBytes.{FirstBytes}
use Rattle.sno_pattern.specs.declared.kind.Entry.{Entry}
use Rattle.sno_pattern.specs.declared.kind.Kind.{Kind}
use Rattle.sno_pattern.specs.declared.kind.Kind.TheVariants as K
use Rattle.sno_pattern.proofs.LaneLaws.{turned}
use Rattle.sno_pattern.proofs.ShapeLaws.{has_shape, end_of-kind}
use Rattle.sno_pattern.proofs.PlaceLaws.{end_if-some, first_byte, span_begins, true_or_false}

-- where no byte passes one test, none passes another that implies it
passes-fewer : (p q : ℕ → Bool) (s : List ℕ) (c : ℕ) → ((b : ℕ) → q b ≡ false → p b ≡ false) → byte_passes q s c ≡ false → byte_passes p s c ≡ false
passes-fewer p q s c fewer = go (slice_get s c)
  where
    go : (at : Option ℕ) → is_some (slice_get (end_after q at c) 0) ≡ false → is_some (slice_get (end_after p at c) 0) ≡ false
    go None h = refl
    go (Some byte) h = end_if-some (p byte) (c + 1) ∙ fewer byte (sym (end_if-some (q byte) (c + 1)) ∙ h)

-- where no byte of a set stands, none of a smaller one stands
pub stands-fewer : (set other s : List ℕ) (c : ℕ) → IsAmong set other → stands_at other s c ≡ false → stands_at set s c ≡ false
stands-fewer set other s c h = passes-fewer (is_in set) (is_in other) s c h.among

or-first : (x y : Bool) → (x || y) ≡ false → x ≡ false
or-first true y h = absurd (cc)
or-first false y h = refl

or-second : (x y : Bool) → (x || y) ≡ false → y ≡ false
or-second true y h = absurd (cc)
or-second false y h = h

-- a set that others have joined
module _ (old new : List ℕ) (more : ℕ → Bool) (joined : (b : ℕ) → is_in new b ≡ (is_in old b || more b)) where
  pub grown : IsAmong old new
  grown = record { among = λ b h. or-first (is_in old b) (more b) (sym (joined b) ∙ h) }

  none_of_these : (b : ℕ) → is_in new b ≡ false → more b ≡ false
  none_of_these b h = or-second (is_in old b) (more b) (sym (joined b) ∙ h)

first_of_text : (text : List ℕ) (first : ℕ) → (length text == 0) ≡ false → first ≡ get_or text 0 first → slice_index text 0 ≡ first
first_of_text [] first some is = absurd (true_or_false (sym (eq-eqb 0 0 refl) ∙ some))
first_of_text (byte ∷ rest) first some is = sym is

-- the first byte of a text that has one, whatever is asked for where there is none
pub first_stays : (text : List ℕ) (one other : ℕ) → (length text == 0) ≡ false → get_or text 0 one ≡ get_or text 0 other
first_stays [] one other some = absurd (cc)
first_stays (byte ∷ text) one other some = refl

pub text_among : (text old new s : List ℕ) (c first : ℕ) → (length text == 0) ≡ false → first ≡ get_or text 0 first
    → ((b : ℕ) → is_in new b ≡ (is_in old b || (first == b))) → stands_at new s c ≡ false → leaf_has_end (Text text) s c ≡ false
text_among text old new s c first some is joined h =
    first_byte text s c some
    (subst (λ n. byte_passes (λ b. b == n) s c ≡ false) (sym (first_of_text text first some is))
    (passes-fewer (λ b. b == first) (is_in new) s c
    (λ b none. sym (turned first b) ∙ none_of_these old new (λ b. first == b) joined b none) h))

pub any_among : (set old new s : List ℕ) (c : ℕ) → ((b : ℕ) → is_in new b ≡ (is_in old b || is_in set b)) → stands_at new s c ≡ false
    → leaf_has_end (Among Any set) s c ≡ false
any_among set old new s c joined = passes-fewer (is_in set) (is_in new) s c (none_of_these old new (is_in set) joined)

pub span_among : (set old new s : List ℕ) (c : ℕ) → ((b : ℕ) → is_in new b ≡ (is_in old b || is_in set b)) → stands_at new s c ≡ false
    → leaf_has_end (Among Span set) s c ≡ false
span_among set old new s c joined h = sym (span_begins set s c c (c + run_length set (drop c s))) ∙ any_among set old new s c joined h

-- a run has an end just where a byte of its set stands
pub span_without : (set s : List ℕ) (c : ℕ) → stands_at set s c ≡ false → leaf_has_end (Among Span set) s c ≡ false
span_without set s c h = sym (span_begins set s c c (c + run_length set (drop c s))) ∙ h

pub no_first : (end : Option ℕ) (es : List ℕ) → end ≡ slice_get es 0 → is_some end ≡ false → is_some (slice_get es 0) ≡ false
no_first end es is none = ap is_some (sym is) ∙ none

-- a pattern begins with the bytes of a greater set too
pub begins-more : (set other : List ℕ) → IsAmong set other → (p : Pattern) (steps : ℕ) → BeginsWith set steps p → BeginsWith other steps p
begins-more set other among (Leaf a) steps h = (h.0, record { fails = λ s c none. h.1.fails s c (stands-fewer set other s c among none) })
begins-more set other among (Alt p q) steps h = (h.0, h.1, h.2, begins-more set other among p h.0 h.3, begins-more set other among q h.1 h.4)
begins-more set other among (Cat p q) steps h = (h.0, h.1, begins-more set other among p h.0 h.2)
begins-more set other among (Cond p target) steps h = (h.0, h.1, begins-more set other among p h.0 h.2)
begins-more set other among (Imm p target) steps h = (h.0, h.1, begins-more set other among p h.0 h.2)
begins-more set other among pattern steps h = absurd h

pub among_all : (old new set : List ℕ) → ((b : ℕ) → is_in new b ≡ (is_in old b || is_in set b)) → IsAmong set new
among_all old new set joined = record { among = λ b h. or-second (is_in old b) (is_in set b) (sym (joined b) ∙ h) }

pub among-twice : (set mid other : List ℕ) → IsAmong set mid → IsAmong mid other → IsAmong set other
among-twice set mid other first second = record { among = λ b h. first.among b (second.among b h) }

-- what an entry's kind says of the bytes with which its tree begins
module _ (entries : List Entry) (id : ℕ) (entry : Entry) (table : IsTable entries) (fits : id < length entries) (at : get_or entries id entry ≡ entry) where
  abbrev Holds : Kind → Type 0
  Holds kind = (get_or entries id entry).kind ≡ kind

  pub shown : (kind : Kind) → Holds kind → HasShape (nodes_of entries) id (shape_of (node_of kind))
  shown kind is =
      subst (λ (k : Kind). HasShape (nodes_of entries) id (shape_of (node_of k))) (sym (ap (λ (x : Entry). x.kind) at) ∙ is)
      (has_shape entries id entry table fits at)

  pub kept_bytes : (p q : PatId) (begins : FirstBytes) → Holds (K.Alt p q begins)
      → IfSome begins.steps (λ steps. BeginsWith (members begins.words) steps (tree (nodes_of entries) id))
  kept_bytes p q begins is =
      subst (λ (k : Kind). IsBegun k (tree (nodes_of entries) id)) is (table.begins id entry fits)

  module _ (set : List ℕ) (part : PatId) (steps : ℕ) (begins : BeginsWith set steps (tree (nodes_of entries) part.0)) where
    pub cat_begins : (q : PatId) → Holds (K.Cat part q) → BeginsWith set (steps + 1) (tree (nodes_of entries) id)
    cat_begins q is = subst (BeginsWith set (steps + 1)) (sym (shown (K.Cat part q) is).2) (steps, refl, begins)

    pub cond_begins : (target : Name) → Holds (K.Cond part target) → BeginsWith set (steps + 1) (tree (nodes_of entries) id)
    cond_begins target is = subst (BeginsWith set (steps + 1)) (sym (shown (K.Cond part target) is).1) (steps, refl, begins)

    pub imm_begins : (target : Name) → Holds (K.Imm part target) → BeginsWith set (steps + 1) (tree (nodes_of entries) id)
    imm_begins target is = subst (BeginsWith set (steps + 1)) (sym (shown (K.Imm part target) is).1) (steps, refl, begins)

  pub cat_below : (p q : PatId) → Holds (K.Cat p q) → p.0 < length entries
  cat_below p q is = omega (arith, (shown (K.Cat p q) is).0, fits)

  pub cond_below : (p : PatId) (target : Name) → Holds (K.Cond p target) → p.0 < length entries
  cond_below p target is = omega (arith, (shown (K.Cond p target) is).0, fits)

  pub imm_below : (p : PatId) (target : Name) → Holds (K.Imm p target) → p.0 < length entries
  imm_below p target is = omega (arith, (shown (K.Imm p target) is).0, fits)

  -- a text or a set, which has no end where none of these bytes stands
  module _ (set : List ℕ)
      (none : (s : List ℕ) (c : ℕ) → stands_at set s c ≡ false → node_has_end (node_of (get_or entries id entry).kind) s c ≡ false) where
    pub leaf_begins : IsPrimitive (tree (nodes_of entries) id) → BeginsWith set 1 (tree (nodes_of entries) id)
    leaf_begins leaf =
        let same : (s : List ℕ) (c : ℕ) → end_of_node (node_of (get_or entries id entry).kind) s c 0 ≡ end_of (tree (nodes_of entries) id) s c 0 =
        λ s c. ap (λ (x : Entry). end_of_node (node_of x.kind) s c 0) at ∙ end_of-kind entries id entry s c 0 table fits at in
        subst (BeginsWith set 1) (sym leaf.1) (
          refl,
          record {
            fails = λ s c out.
                ap (λ (p : Pattern). has_end p s c) (sym leaf.1) ∙ ap is_some (sym (same s c)) ∙ none s c out;
          },
        )
