-- What is known of a program that is refused.
use Rattle.std.specs.Prelude.{List}
use Rattle.sno_text.specs.Phrases.{StandsProgram}
use Rattle.sno_text.specs.Programs.{IsProgram}
use Rattle.sno_text.specs.Statements.{StatementTree}
use Rattle.sno_advice.specs.declared.refused.Beginning.{Beginning}

-- its text is a program, which was read from it
abbrev pub IsAccepted : Beginning → Type 0
IsAccepted b = (statements : List StatementTree) × IsProgram b.text.items statements
    × StandsProgram b.program b.text.items statements
