-- The listing of a program: its lines, each behind the number of the first statement that begins in it.
use Rattle.std.specs.Prelude.{ℕ, ◌+◌, ◌-◌, ◌==◌, List, [], ◌∷◌, ◌++◌, length, replicate, slice_index}
use Rattle.std.specs.Prelude.{if◌then◌else◌}
use Rattle.std.specs.Fmt.{decimal}
use Rattle.bstr.specs.Text.{lines_of}
use Rattle.sno_text.specs.declared.statement.Statement.{Statement}

-- The number of the first of some statements that begins in a line, 0 where none does. The first of them has number n.
abbrev pub number_in : ℕ → List Statement → ℕ → ℕ
number_in n [] line = 0
number_in n (st ∷ sts) line = if st.line == line then n else number_in (n + 1) sts line

abbrev pub blanks : ℕ → List ℕ
blanks n = replicate n 32

-- a number in decimal, and nothing for 0
abbrev pub numeral : ℕ → List ℕ
numeral number = if number == 0 then [] else decimal number

-- What stands before a line: the number at the right of six columns, and two blanks.
abbrev pub margin : ℕ → List ℕ
margin number = blanks (6 - length (numeral number)) ++ numeral number ++ 32 ∷ 32 ∷ []

-- A line's own bytes, and a line feed where they don't end in one.
abbrev pub ended : List ℕ → List ℕ
ended line = if slice_index line (length line - 1) == 10 then line else line ++ 10 ∷ []

abbrev pub listed_line : ℕ → List ℕ → List ℕ
listed_line number line = margin number ++ ended line

-- Some lines as they are listed, the first of them being this line of the text.
abbrev pub lines_listed : List Statement → ℕ → List (List ℕ) → List ℕ
lines_listed statements at [] = []
lines_listed statements at (line ∷ lines) =
    listed_line (number_in 1 statements at) line ++ lines_listed statements (at + 1) lines

-- The listing of a text: each of its lines, in their order, counted from 1.
abbrev pub listed : List ℕ → List Statement → List ℕ
listed text statements = lines_listed statements 1 (lines_of text)
