use Rattle.std.proofs.Common.{codes, None, refl, Some}
use Rattle.clap.specs.Words.{found_of, rows_of}
use Rattle.sno_io.specs.Commands.{IsFlag}
use Rattle.sno_io.proofs.Numbers.{row_text_found, text_found, text_missing}
use Rattle.sno_io.proofs.words.ways_of.Goals as goal

pub returns-in_err-steps-clause-none : goal.returns-in_err-steps-clause-none
returns-in_err-steps-clause-none c = rw c.from_residual.ensures (λ anchored steps pattern subject h. c.in_err-steps.ensures.none steps h.steps_is)

pub returns-in_err-pattern-clause-none : goal.returns-in_err-pattern-clause-none
returns-in_err-pattern-clause-none c =
    let missing = text_missing (λ s. s.now) (found_of c.args.found.now) (codes "PATTERN") c.get_str.result c.get_str.ensures c.in_err-pattern.was in
    rw c.from_residual-in_err-pattern.ensures (λ anchored steps pattern subject h. let is = h.pattern_is in absurd (cc))

pub returns-in_err-subject-clause-none : goal.returns-in_err-subject-clause-none
returns-in_err-subject-clause-none c =
    let missing = text_missing (λ s. s.now) (found_of c.args.found.now) (codes "SUBJECT") c.get_str-2.result c.get_str-2.ensures c.in_err-subject.was in
    rw c.from_residual-in_err-subject.ensures (λ anchored steps pattern subject h. let is = h.subject_is in absurd (cc))

pub returns-clause-some : goal.returns-clause-some
returns-clause-some c =
    let found = found_of c.args.found.now in
    let anchor : IsFlag (codes "anchor") (rows_of found) c.get_flag.result = record {
      absent = row_text_found found (codes "anchor") None _ c.get_flag.ensures.none;
      given = row_text_found found (codes "anchor") (Some (codes "true")) _ c.get_flag.ensures.value;
      not_given = row_text_found found (codes "anchor") (Some (codes "false")) _ c.get_flag.ensures.other;
    } in (
      refl,
      record {
        anchor_is = anchor;
        steps_is = c.in_ok-steps.ensures.some;
        pattern_is = text_found (λ s. s.now) found (codes "PATTERN") c.get_str.result c.in_ok-pattern.pattern c.get_str.ensures c.in_ok-pattern.was;
        subject_is = text_found (λ s. s.now) found (codes "SUBJECT") c.get_str-2.result c.in_ok-subject.subject c.get_str-2.ensures c.in_ok-subject.was;
      },
    )
