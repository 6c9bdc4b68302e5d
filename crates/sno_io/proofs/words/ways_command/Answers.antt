use Rattle.std.proofs.Common.{codes}
use Rattle.clap.specs.Words.{new_app}
use Rattle.sno_io.proofs.Commands.{arg_made, setting_made}
use Rattle.sno_io.proofs.words.ways_command.Goals as goal

pub returns : goal.returns
returns c =
    let named = setting_made c.about.result _ (new_app (codes "ways")) c.about.ensures c.new.ensures.app c.new.ensures.local in
    let told = setting_made c.long_about.result _ (new_app (codes "ways")) c.long_about.ensures named.is named.local in
    let shown = setting_made c.after_help.result _ (new_app (codes "ways")) c.after_help.ensures told.is told.local in
    let anchor = arg_made _ _ _ _ _ shown c.in_ok-arg.ensures c.flag.ensures.rule c.flag.ensures.local in
    let steps = arg_made _ _ _ _ _ anchor c.in_ok-arg-2.ensures c.number.ensures.rule c.number.ensures.local in
    let pattern = arg_made _ _ _ _ _ steps c.in_ok-arg-3.ensures c.word.ensures.rule c.word.ensures.local in
    arg_made _ _ _ _ _ pattern c.in_ok-ways.ensures c.word-2.ensures.rule c.word-2.ensures.local
