use Rattle.std.proofs.Common.{codes}
use Rattle.clap.specs.Words.{new_app}
use Rattle.sno_io.proofs.Commands.{arg_made, setting_made}
use Rattle.sno_io.proofs.words.run_command.Goals as goal

pub returns : goal.returns
returns c =
    let named = setting_made c.about.result _ (new_app (codes "run")) c.about.ensures c.new.ensures.app c.new.ensures.local in
    let told = setting_made c.long_about.result _ (new_app (codes "run")) c.long_about.ensures named.is named.local in
    let shown = setting_made c.after_help.result _ (new_app (codes "run")) c.after_help.ensures told.is told.local in
    let statements = arg_made _ _ _ _ _ shown c.in_ok-arg.ensures c.number.ensures.rule c.number.ensures.local in
    let match_steps = arg_made _ _ _ _ _ statements c.in_ok-arg-2.ensures c.number-2.ensures.rule c.number-2.ensures.local in
    arg_made _ _ _ _ _ match_steps c.in_ok-run.ensures c.word.ensures.rule c.word.ensures.local
