use Rattle.std.proofs.lemmas.Result.{err_from_is_err_and}
use Rattle.sno_runtime.proofs.Performing.{output_written, output_broken}
use Rattle.sno_runtime.proofs.effects.assign_output.Goals as goal

pub returns-in_err-write_value-clause-does : goal.returns-in_err-write_value-clause-does
returns-in_err-write_value-clause-does g c =
    let p = err_from_is_err_and c.from_residual.result c.from_residual.ensures.1 in
    rw (p.1, p.2) (output_broken c.args.target c.args.value _ _ _ _ c.requires.output
    (c.in_err-write_value.ensures.line c.args.runtime.now.nodes))

pub returns-clause-does : goal.returns-clause-does
returns-clause-does g c =
    output_written c.args.target c.args.value _ _ _ _ c.requires.output c.set.ensures
    (c.in_ok-write_value.ensures.line c.args.runtime.now.nodes)
