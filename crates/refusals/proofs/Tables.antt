-- A table begins with itself.
use Rattle.std.proofs.Common.{◌≡◌, List, [], sym, ◌∙◌, append-nil}
use Rattle.sno_pattern.specs.Table.{Node}
use Rattle.sno_match.specs.Matching.{Begins}

pub begins_itself : (nodes lent : List Node) → nodes ≡ lent → Begins nodes lent
begins_itself nodes lent same = ([], sym (append-nil nodes ∙ same))

pub ruleset table_facts = (begins_itself)
