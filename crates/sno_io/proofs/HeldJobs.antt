-- The job of the words, by what a parse found in them.
use Rattle.std.proofs.Common.{◌≡◌, ◌∙◌, ℕ, Bool, List, [], Option, None, Some, IfNone, ap, codes, refl, subst, true}
use Rattle.std.specs.Prelude.{Box, option_map}
use Rattle.std.specs.Box.{box_value}
use Rattle.clap.specs.Words.{App, HasKind, HasMatchesOf, Row, Text, fault_of, is_simple, is_simple_and_free, subcommand_name_of, subcommand_of}
use Rattle.clap.specs.Words.{subcommand_rows_of}
use Rattle.clap.specs.Simple.{subcommand_rows}
use Rattle.clap.specs.declared.error.Error.{Error}
use Rattle.clap.specs.declared.parser.matches.ArgMatches.{ArgMatches}
use Rattle.clap.specs.declared.parser.matches.ArgMatches.TheViews.{out-ArgMatches, out-SubCommand}
use Rattle.clap.specs.declared.parser.matches.SubCommand.{SubCommand}
use Rattle.sno_io.specs.declared.jobs.Job.{Job}
use Rattle.sno_io.specs.declared.jobs.Job.TheVariants.{Check, Run, Ways}
use Rattle.sno_io.specs.declared.jobs.Limits.{Limits}
use Rattle.sno_io.specs.Commands.{HoldsJob, IsCheck, IsJobOf, IsRun, IsWays, snobol4}

-- the command that a parse found, of that name and with these rows
pub found_is : (m : ArgMatches) (name : Text) (rows : List Row) → Some name ≡ subcommand_name_of m → Some rows ≡ option_map (λ f. f.1) (subcommand_rows_of m)
    → subcommand_rows_of m ≡ Some (name, rows)
found_is m name rows = go (out-ArgMatches m).subcommand
  where
    go : {Z : Type 0} (o : Option (Box SubCommand Z)) → Some name ≡ option_map (λ b. (out-SubCommand (box_value b)).name.now) o
        → Some rows ≡ option_map (λ f. f.1) (subcommand_rows o) → subcommand_rows o ≡ Some (name, rows)
    go None e h = absurd (cc)
    go (Some b) e h = cc

-- where the rows hold no words of `run`, they hold no job of that name
pub no_run : (rows : List Row) (o : Option Job) → IfNone o ((file : Text) (limits : Limits) → IsRun rows file limits → ⊥)
    → IfNone o ((job : Job) → HoldsJob (Some (codes "run", rows)) job → ⊥)
no_run rows (Some job) refuted = tt
no_run rows None refuted = go
  where
    go : (job : Job) → HoldsJob (Some (codes "run", rows)) job → ⊥
    go (Run file limits) h = refuted file.now limits h.1
    go (Check file) h = let is = h.0 in absurd (cc)
    go (Ways anchored steps pattern subject) h = let is = h.0 in absurd (cc)

-- where the rows hold no words of `check`, they hold no job of that name
pub no_check : (rows : List Row) (o : Option Job) → IfNone o ((file : Text) → IsCheck rows file → ⊥)
    → IfNone o ((job : Job) → HoldsJob (Some (codes "check", rows)) job → ⊥)
no_check rows (Some job) refuted = tt
no_check rows None refuted = go
  where
    go : (job : Job) → HoldsJob (Some (codes "check", rows)) job → ⊥
    go (Run file limits) h = let is = h.0 in absurd (cc)
    go (Check file) h = refuted file.now h.1
    go (Ways anchored steps pattern subject) h = let is = h.0 in absurd (cc)

-- where the rows hold no words of `ways`, they hold no job of that name
pub no_ways : (rows : List Row) (o : Option Job)
    → IfNone o ((anchored : Bool) (steps : ℕ) (pattern subject : Text) → IsWays rows anchored steps pattern subject → ⊥)
    → IfNone o ((job : Job) → HoldsJob (Some (codes "ways", rows)) job → ⊥)
no_ways rows (Some job) refuted = tt
no_ways rows None refuted = go
  where
    go : (job : Job) → HoldsJob (Some (codes "ways", rows)) job → ⊥
    go (Run file limits) h = let is = h.0 in absurd (cc)
    go (Check file) h = let is = h.0 in absurd (cc)
    go (Ways anchored steps pattern subject) h = refuted anchored steps pattern.now subject.now h.1

-- `clap` gives exact matches and kinds for these commands
simple : is_simple snobol4 ≡ true
simple = refl

simple_and_free : is_simple_and_free snobol4 ≡ true
simple_and_free = refl

module _ (app : App) (words : List Text) (is : app ≡ snobol4) where
  pub refused : (e : Error) → (is_simple_and_free app ≡ true → HasKind (fault_of app words) e) → HasKind (fault_of snobol4 words) e
  refused e h = subst (λ (a : App). HasKind (fault_of a words) e) is (h (ap is_simple_and_free is ∙ simple_and_free))

  pub job_held : (m : ArgMatches) (job : Job) → (is_simple_and_free app ≡ true → fault_of app words ≡ []) → HasMatchesOf app words m
      → HoldsJob (subcommand_rows_of m) job → IsJobOf words job
  job_held m job none matches h = (
    subst (λ (a : App). fault_of a words ≡ []) is (none (ap is_simple_and_free is ∙ simple_and_free)),
    subst (λ (f : Option (Text × List Row)). HoldsJob f job) ((matches (ap is_simple is ∙ simple)).1 ∙ ap (λ (a : App). subcommand_of a words) is) h,
  )
