use Rattle.std.proofs.Common.{◌-◌, ◌+◌, ◌*◌, ◌≤◌, length}
use Rattle.sno_text.specs.Bytes.{IsRun}
use Rattle.sno_text.specs.declared.bytes.Class.TheVariants.{UnarySign}
use Rattle.sno_text.specs.Grammar.{Element}
use Rattle.sno_text.specs.inner.Links.{Stops}
use Rattle.sno_text.specs.inner.Parsed.{Gives, Growing, Listing, Extends}
use Rattle.sno_text.proofs.expression.+reader.Given as goal

-- the text left, and then how many calls of this cycle go before one that takes a byte
abbrev pub decreases-read_arguments : goal.decreases-read_arguments
decreases-read_arguments l = 32 * (length l.text.now - l.from) + 31

abbrev pub decreases-read_argument : goal.decreases-read_argument
decreases-read_argument l = 32 * (length l.text.now - l.from) + 30

abbrev pub decreases-read_level : goal.decreases-read_level
decreases-read_level l = 32 * (length l.text.now - l.from) + 2 * (14 - l.level)

abbrev pub decreases-read_power : goal.decreases-read_power
decreases-read_power l = 32 * (length l.text.now - l.from) + 17

abbrev pub decreases-read_element : goal.decreases-read_element
decreases-read_element l = 32 * (length l.text.now - l.from) + 5

abbrev pub decreases-read_primary : goal.decreases-read_primary
decreases-read_primary l = 32 * (length l.text.now - l.from) + 4

abbrev pub decreases-read_name : goal.decreases-read_name
decreases-read_name l = 32 * (length l.text.now - l.from) + 3

abbrev pub decreases-read_group : goal.decreases-read_group
decreases-read_group l = 32 * (length l.text.now - l.from) + 3

abbrev pub invariant-read_level-operands : goal.invariant-read_level-operands
invariant-read_level-operands l =
    Growing l.text l.level l.from l.fn.nodes.items l.nodes.items l.left × Extends (length l.text) l.fn.nodes.items l.nodes.items

abbrev pub decreases-read_level-operands : goal.decreases-read_level-operands
decreases-read_level-operands l = length l.text - l.left.end

abbrev pub invariant-read_element-signs : goal.invariant-read_element-signs
invariant-read_element-signs l =
    Gives l.text Element (Stops l.text 7) l.at l.fn.nodes.items l.nodes.items l.found × Extends (length l.text) l.fn.nodes.items l.nodes.items
    × (l.from ≤ l.at) × IsRun UnarySign l.text l.from l.at

abbrev pub decreases-read_element-signs : goal.decreases-read_element-signs
decreases-read_element-signs l = l.at - l.from

abbrev pub invariant-read_arguments-arguments : goal.invariant-read_arguments-arguments
invariant-read_arguments-arguments l =
    Listing l.text l.from l.fn.nodes.items l.nodes.items l.ids.items l.end l.fits × Extends (length l.text) l.fn.nodes.items l.nodes.items

abbrev pub decreases-read_arguments-arguments : goal.decreases-read_arguments-arguments
decreases-read_arguments-arguments l = length l.text - l.end
