-- The program's commands, as `clap` knows them, and the job that the words hold.
use Rattle.std.specs.Prelude.{◌≡◌, ℕ, ◌≤◌, ◌⊎◌, Bool, List, [], Option, None, Some, MatchOption, codes, true, false}
use Rattle.std.specs.Str.Parse.{IsNumeral, digits_value, without_leading_plus}
use Rattle.clap.specs.Words.{App, HasKind, Row, Rule, Text, fault_of, first_of, new_app, new_rule, one_of}
use Rattle.clap.specs.Words.{subcommand_of, with_rule, with_subcommand}
use Rattle.clap.specs.Simple.{on_top}
use Rattle.clap.specs.declared.builder.action.ArgAction.TheVariants.{Set, SetTrue}
use Rattle.clap.specs.declared.builder.value_parser.ValueParser.{ValueParser}
use Rattle.clap.specs.declared.builder.value_parser.ValueParser.TheVariants as parsers
use Rattle.clap.specs.declared.error.Error.{Error}
use Rattle.clap.specs.declared.error.kind.ErrorKind.{ErrorKind}
use Rattle.clap.specs.declared.error.kind.ErrorKind.TheVariants.{DisplayHelp, DisplayVersion, OutOfMemory}
use Rattle.sno_io.specs.declared.jobs.Job.{Job}
use Rattle.sno_io.specs.declared.jobs.Job.TheVariants.{Check, Run, Ways}
use Rattle.sno_io.specs.declared.jobs.Limits.{Limits}

-- ---- the commands

-- a word that has to be there
abbrev pub word_rule : Text → Rule
word_rule id = record (new_rule id) { action = Some Set; required = true }

-- an option `--id N`
abbrev pub number_rule : Text → ValueParser → Rule
number_rule id parser = record (new_rule id) {
  long = Some id;
  action = Some Set;
  value_names = 1;
  parser = Some parser;
}

-- a flag `--id`
abbrev pub flag_rule : Text → Rule
flag_rule id = record (new_rule id) { long = Some id; action = Some SetTrue }

-- run FILE [--statements N] [--match-steps N]
abbrev pub run_app : App
run_app =
    with_rule (with_rule (with_rule (new_app (codes "run"))
    (number_rule (codes "statements") (parsers.Unsigned 1 1000000000000)))
    (number_rule (codes "match-steps") (parsers.Unsigned 0 1000000000)))
    (word_rule (codes "FILE"))

-- check FILE
abbrev pub check_app : App
check_app = with_rule (new_app (codes "check")) (word_rule (codes "FILE"))

-- ways [--anchor] [--steps N] PATTERN SUBJECT
abbrev pub ways_app : App
ways_app =
    with_rule (with_rule (with_rule (with_rule (new_app (codes "ways"))
    (flag_rule (codes "anchor")))
    (number_rule (codes "steps") (parsers.Unsigned 0 1000000000)))
    (word_rule (codes "PATTERN")))
    (word_rule (codes "SUBJECT"))

-- the program with no command, which wants one; it has a version to tell
abbrev pub bare_app : App
bare_app = on_top (λ s. record s { has_version = true; arg_required_else_help = true; subcommand_required = true })
    (new_app (codes "snobol4"))

-- the program with its commands
abbrev pub snobol4 : App
snobol4 = with_subcommand (with_subcommand (with_subcommand bare_app run_app.top) check_app.top) ways_app.top

-- ---- what the words hold, by the rows that `clap` finds in them

-- The number of an option: what its text says, or the default where it is absent; in its range.
pub record IsNumber (least most default : ℕ) (id : Text) (rows : List Row) (n : ℕ) : Type 0 where
  pub absent : one_of id rows ≡ None → n ≡ default
  pub given : (text : Text) → one_of id rows ≡ Some text → IsNumeral 10 (without_leading_plus text)
      × (n ≡ digits_value 10 (without_leading_plus text))
  pub least_holds : least ≤ n
  pub most_holds : n ≤ most

-- A flag: whether the words have it.
pub record IsFlag (id : Text) (rows : List Row) (flag : Bool) : Type 0 where
  pub absent : one_of id rows ≡ None → flag ≡ false
  pub given : one_of id rows ≡ Some (codes "true") → flag ≡ true
  pub not_given : one_of id rows ≡ Some (codes "false") → flag ≡ false

-- What the words of `run` hold.
pub record IsRun (rows : List Row) (file : Text) (limits : Limits) : Type 0 where
  pub file_is : first_of (codes "FILE") rows ≡ Some file
  pub statements_are : IsNumber 1 1000000000000 1000000 (codes "statements") rows limits.statements
  pub match_steps_are : IsNumber 0 1000000000 1000000 (codes "match-steps") rows limits.match_steps

-- What the words of `check` hold.
pub record IsCheck (rows : List Row) (file : Text) : Type 0 where
  pub file_is : first_of (codes "FILE") rows ≡ Some file

-- What the words of `ways` hold.
pub record IsWays (rows : List Row) (anchored : Bool) (steps : ℕ) (pattern subject : Text) : Type 0 where
  pub anchor_is : IsFlag (codes "anchor") rows anchored
  pub steps_is : IsNumber 0 1000000000 1000000 (codes "steps") rows steps
  pub pattern_is : first_of (codes "PATTERN") rows ≡ Some pattern
  pub subject_is : first_of (codes "SUBJECT") rows ≡ Some subject

-- the job of the command of that name, whose words gave these rows
abbrev pub IsJob : Text → List Row → Job → Type 0
IsJob name rows (Run file limits) = (name ≡ codes "run") × IsRun rows file.now limits
IsJob name rows (Check file) = (name ≡ codes "check") × IsCheck rows file.now
IsJob name rows (Ways anchored steps pattern subject) =
    (name ≡ codes "ways") × IsWays rows anchored steps pattern.now subject.now

-- the job of what was found: the name of a command, and the rows of its words
abbrev pub HoldsJob : Option (Text × List Row) → Job → Type 0
HoldsJob found job = MatchOption found ⊥ (λ f. IsJob f.0 f.1 job)

-- the job of the words, of which the first is the program's name: nothing is wrong with them, and they hold it
abbrev pub IsJobOf : List Text → Job → Type 0
IsJobOf words job = (fault_of snobol4 words ≡ []) × HoldsJob (subcommand_of snobol4 words) job

-- memory ran out, the words ask for help or something is wrong
-- with them, of which the error has the kind, or they hold no job
abbrev pub IsRefusalOf : List Text → Error → Type 0
IsRefusalOf words e = HasKind (fault_of snobol4 words) e
    ⊎ ((job : Job) → HoldsJob (subcommand_of snobol4 words) job → ⊥)

-- ---- where they hold none

-- the status with which the program ends
abbrev pub status : ErrorKind → ℕ
status DisplayHelp = 0
status DisplayVersion = 0
status OutOfMemory = 6
status _ = 64
