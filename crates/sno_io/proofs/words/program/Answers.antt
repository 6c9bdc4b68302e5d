use Rattle.std.proofs.Common.{ap, codes, true}
use Rattle.clap.specs.Simple.{Shape, on_top}
use Rattle.clap.specs.Words.{App, new_app}
use Rattle.sno_io.specs.Commands.{bare_app}
use Rattle.sno_io.specs.inner.Commands.{Makes}
use Rattle.sno_io.proofs.Commands.{setting_made, subcommand_made}
use Rattle.sno_io.proofs.words.program.Goals as goal

pub returns : goal.returns
returns c =
    let dated : App → App = on_top (λ (s : Shape). record s { has_version = true }) in
    let wanting : App → App = on_top (λ (s : Shape). record s { subcommand_required = true }) in
    let helping : App → App = on_top (λ (s : Shape). record s { arg_required_else_help = true }) in
    let plain = new_app (codes "snobol4") in
    let named = setting_made c.about.result _ plain c.about.ensures c.new.ensures.app c.new.ensures.local in
    let told = setting_made c.long_about.result _ plain c.long_about.ensures named.is named.local in
    let shown = setting_made c.after_help.result _ plain c.after_help.ensures told.is told.local in
    let formed = setting_made c.override_usage.result _ plain c.override_usage.ensures shown.is shown.local in
    let has = setting_made c.version.result _ (dated plain) c.version.ensures (ap dated formed.is) formed.local in
    let wants = setting_made c.subcommand_required.result _ (wanting (dated plain)) c.subcommand_required.ensures (ap wanting has.is) has.local in
    let bare : Makes c.arg_required_else_help.result bare_app = setting_made _ _ _ c.arg_required_else_help.ensures (ap helping wants.is) wants.local in
    let running = subcommand_made _ _ _ _ _ bare c.in_ok-run.ensures c.in_ok-subcommand.ensures in
    let checking = subcommand_made _ _ _ _ _ running c.in_ok-check.ensures c.in_ok-subcommand-2.ensures in
    (subcommand_made _ _ _ _ _ checking c.in_ok-ways.ensures c.in_ok-root.ensures).is
