-- The line on standard error, as it is written.
use Rattle.std.specs.Prelude.{ℕ, List, [], ◌++◌, Option, None, Some, codes, decimal}
use Rattle.snobol.specs.declared.endings.FaultLine.{FaultLine}
use Rattle.snobol.specs.Jobs.{Report}

-- the number, if there is one
abbrev pub number_text : Option ℕ → List ℕ
number_text None = []
number_text (Some number) = decimal number

-- a line of two texts, each with a number behind it or none
abbrev pub line_of : List ℕ → Option ℕ → List ℕ → Option ℕ → List ℕ
line_of text number more last =
    codes "snobol4: " ++ (text ++ (number_text number ++ (more ++ (number_text last ++ codes "\n"))))

-- what a status and a line of this form report
abbrev pub report_of : ℕ → Option FaultLine → Report
report_of status None = record { status = status; line = [] }
report_of status (Some l) = record { status = status; line = line_of l.text.now l.number l.more.now l.last }
