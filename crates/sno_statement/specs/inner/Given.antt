-- Answers as the code gives them. These words are private to the interpreter.
use Rattle.std.specs.Prelude.{List, ◌<◌, length, IfSome, Option}
use Rattle.std.specs.Option.{option_map}
use Rattle.sno_value.specs.declared.ids.PatId.{PatId}
use Rattle.sno_pattern.specs.Table.{Node, tree}
use Rattle.sno_match.specs.Search.{Answer}

-- the tree of an answer
abbrev pub given_of : List Node → Option PatId → Answer
given_of nodes given = option_map (λ (id : PatId). tree nodes id.0) given

abbrev pub IsGivenOf : List Node → Option PatId → Type 0
IsGivenOf nodes given = IfSome given (λ id. id.0 < length nodes)
