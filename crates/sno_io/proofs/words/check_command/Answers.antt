use Rattle.std.proofs.Common.{codes}
use Rattle.clap.specs.Words.{new_app}
use Rattle.sno_io.proofs.Commands.{arg_made, setting_made}
use Rattle.sno_io.proofs.words.check_command.Goals as goal

pub returns : goal.returns
returns c =
    let named = setting_made c.about.result _ (new_app (codes "check")) c.about.ensures c.new.ensures.app c.new.ensures.local in
    let told = setting_made c.long_about.result _ (new_app (codes "check")) c.long_about.ensures named.is named.local in
    let shown = setting_made c.after_help.result _ (new_app (codes "check")) c.after_help.ensures told.is told.local in
    arg_made _ _ _ _ _ shown c.in_ok-check.ensures c.word.ensures.rule c.word.ensures.local
