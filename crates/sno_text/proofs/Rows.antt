-- Worked rows, computed from the definitions.
use Rattle.std.proofs.Common.{◌≡◌, ℕ, List, [], ◌∷◌, ◌++◌, refl, codes, map, true}
use Rattle.bstr.specs.Text.{line_len, lines_from}
use Rattle.sno_text.specs.declared.node.Span.{Span}
use Rattle.sno_text.specs.Bytes.{is_blank}
use Rattle.sno_text.specs.Refusals.{has_open_literal}
use Rattle.sno_text.specs.Lines.{joined, extents, size, line_of, part}

abbrev span : ℕ → ℕ → Span
span i j = record { start = i; end = j }

-- a comment, a control line, a line with CR LF, its continuation, and END
abbrev text : List ℕ
text = codes "* note" ++ 10 ∷ codes "-LIST" ++ 10 ∷ codes " X = 'A'" ++ 13 ∷ 10 ∷ codes "+ 'B'" ++ 10 ∷ codes "END"

row_1 : extents text ≡ span 13 29 ∷ span 29 32 ∷ []
unfolding is_blank line_len lines_from
row_1 = refl

row_1_lines : map (line_of text) (extents text) ≡ 3 ∷ 5 ∷ []
unfolding is_blank line_len lines_from
row_1_lines = refl

row_1_part : part (joined text) (span 13 29) ≡ codes " X = 'A'" ++ 10 ∷ 10 ∷ codes "  'B'" ++ 10 ∷ []
unfolding is_blank line_len lines_from
row_1_part = refl

row_1_size : size (part (joined text) (span 13 29)) ≡ 13
unfolding is_blank line_len lines_from
row_1_size = refl

-- what stands behind END on its line is a part of its own
row_2 : extents (codes " X = 1;END;'") ≡ span 0 6 ∷ span 7 10 ∷ span 11 12 ∷ []
unfolding is_blank line_len lines_from
row_2 = refl

-- a ';' in a literal cuts nothing
row_3 : extents (codes " X = ';';END") ≡ span 0 8 ∷ span 9 12 ∷ []
unfolding is_blank line_len lines_from
row_3 = refl

-- a CR at the end of a last line without LF stays
row_4 : joined (codes " X = 1" ++ 10 ∷ codes "END" ++ 13 ∷ []) ≡ codes " X = 1" ++ 10 ∷ codes "END" ++ 13 ∷ []
unfolding is_blank line_len lines_from
row_4 = refl

-- with no line before it, a continuation line is a statement of its own, and its sign is no blank
row_5 : joined (codes "* note" ++ 10 ∷ codes "+ X" ++ 10 ∷ codes "+ Y") ≡ 10 ∷ 10 ∷ 10 ∷ 10 ∷ 10 ∷ 10 ∷ 10 ∷ codes "+ X" ++ 10 ∷ codes "  Y"
unfolding is_blank line_len lines_from
row_5 = refl

-- A statement that begins behind ';' with a continuation line begins in that line; a blank behind the ';' is its first byte.
row_6 : map (line_of (codes " X = 1;" ++ 10 ∷ codes "* note" ++ 10 ∷ codes "+ )")) (extents (codes " X = 1;" ++ 10 ∷ codes "* note" ++ 10 ∷ codes "+ )"))
    ≡ 1 ∷ 3 ∷ []
unfolding is_blank line_len lines_from
row_6 = refl

row_7 : map (line_of (codes " X = 1; " ++ 10 ∷ codes "+ )")) (extents (codes " X = 1; " ++ 10 ∷ codes "+ )")) ≡ 1 ∷ 1 ∷ []
unfolding is_blank line_len lines_from
row_7 = refl

-- a literal ends with its line
row_8 : has_open_literal 0 (joined (codes " X = 'A" ++ 10 ∷ codes "+ 'B'")) ≡ true
unfolding is_blank line_len lines_from
row_8 = refl

-- each continuation sign is one byte
row_9 : size (joined (codes " X" ++ 10 ∷ codes "+" ++ 10 ∷ codes "+Y" ++ 10 ∷ [])) ≡ 5
unfolding is_blank line_len lines_from
row_9 = refl
