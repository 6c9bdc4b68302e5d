use Rattle.std.proofs.Common.{codes, refl}
use Rattle.clap.specs.Words.{found_of}
use Rattle.sno_io.proofs.Numbers.{text_found, text_missing}
use Rattle.sno_io.proofs.words.run_of.Goals as goal

pub returns-in_err-statements-clause-none : goal.returns-in_err-statements-clause-none
returns-in_err-statements-clause-none c = rw c.from_residual.ensures (λ file limits h. c.in_err-statements.ensures.none limits.statements h.statements_are)

pub returns-in_err-match_steps-clause-none : goal.returns-in_err-match_steps-clause-none
returns-in_err-match_steps-clause-none c =
    rw c.from_residual-in_err-match_steps.ensures (λ file limits h. c.in_err-match_steps.ensures.none limits.match_steps h.match_steps_are)

pub returns-in_err-name-clause-none : goal.returns-in_err-name-clause-none
returns-in_err-name-clause-none c =
    let missing = text_missing (λ s. s.now) (found_of c.args.found.now) (codes "FILE") c.get_str.result c.get_str.ensures c.in_err-name.was in
    rw c.from_residual-in_err-name.ensures (λ file limits h. let is = h.file_is in absurd (cc))

pub returns-clause-some : goal.returns-clause-some
returns-clause-some c = (
  refl,
  record {
    file_is = text_found (λ s. s.now) (found_of c.args.found.now) (codes "FILE") c.get_str.result c.in_ok-name.name c.get_str.ensures c.in_ok-name.was;
    statements_are = c.in_ok-statements.ensures.some;
    match_steps_are = c.in_ok-match_steps.ensures.some;
  },
)
