use Rattle.std.proofs.Common.{sym, ◌∙◌}
use Rattle.sno_runtime.specs.Values.{shown, IsValueOf}
use Rattle.sno_runtime.proofs.Reading.{reads_nothing}
use Rattle.sno_runtime.proofs.InputLaws.{input_read, held_read}
use Rattle.sno_runtime.proofs.runtime.Runtime.read.Goals as goal

pub returns-then-is_input : goal.returns-then-is_input
returns-then-is_input g c = input_read c.args.name _ _ _ _ _ (sym c.is_input.ensures ∙ c.if-is_input.true) c.read_line.ensures

pub returns : goal.returns
returns g c = held_read c.args.name _ _ _ _ _ (sym c.is_input.ensures ∙ c.if-is_input.false)
    (reads_nothing shown IsValueOf _ _ _ _ _ c.requires c.stored.ensures)
