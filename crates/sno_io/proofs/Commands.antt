-- What a chain of builders makes of a command, a step at a time.
use Rattle.std.proofs.Common.{◌≡◌, ◌∙◌, ◌||◌, ap, ap₂, false}
use Rattle.clap.specs.Words.{AddsArg, AddsSubcommand, App, Rule, rule_of, with_rule, with_subcommand}
use Rattle.clap.specs.Simple.{app_of_fields}
use Rattle.clap.specs.declared.builder.arg.Arg.{Arg}
use Rattle.clap.specs.declared.builder.command.Command.{Command}
use Rattle.clap.specs.declared.builder.command.Command.TheOpen.{Command-F}
use Rattle.clap.specs.declared.builder.command.Command.TheViews.{out-Command}
use Rattle.sno_io.specs.inner.Commands.{Makes}

pub setting_made : (c : Command) (fields : Command-F Command) (app : App) → out-Command c ≡ fields → app_of_fields fields ≡ app
    → fields.has_globals ≡ false → Makes c app
setting_made c fields app e is local = record { is = ap app_of_fields e ∙ is; local = ap (λ (f : Command-F Command). f.has_globals) e ∙ local }

pub arg_made : (old new : Command) (a : Arg) (app : App) (rule : Rule) → Makes old app → AddsArg old a new → rule_of a ≡ rule → a.global ≡ false
    → Makes new (with_rule app rule)
arg_made old new a app rule made adds is local =
    record { is = adds.shape local ∙ ap₂ with_rule made.is is; local = adds.globals ∙ ap₂ (λ x y. x || y) made.local local }

pub subcommand_made : (old sub new : Command) (app below : App) → Makes old app → Makes sub below → AddsSubcommand old sub new
    → Makes new (with_subcommand app below.top)
subcommand_made old sub new app below made sub_made adds =
    record {
      is = adds.shape sub_made.local ∙ ap₂ with_subcommand made.is (ap (λ (a : App). a.top) sub_made.is);
      local = adds.globals ∙ ap₂ (λ x y. x || y) made.local sub_made.local;
    }
