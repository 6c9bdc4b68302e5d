use Rattle.clap.specs.Words.{found_of, rows_of}
use Rattle.sno_io.proofs.Numbers.{default_number, is_absent, is_there, no_numeral, read_number, too_large, too_small}
use Rattle.sno_io.proofs.words.number_of.Goals.{else-least-number-via-then-least-number+else-number-most, else-least-number-via-else-least-number}
use Rattle.sno_io.proofs.words.number_of.Goals as goal

pub returns-then-is_none-clause-some : goal.returns-then-is_none-clause-some
returns-then-is_none-clause-some c =
    let found = found_of c.args.found.now in
    let absent = is_absent (λ s. s.now) found c.args.id.now c.get_str.result c.get_str.ensures c.if-is_none.ensures in
    default_number c.args.least c.args.most c.args.default c.args.id.now (rows_of found) absent c.requires.low c.requires.high

pub returns-in_err-number-clause-none : goal.returns-in_err-number-clause-none
returns-in_err-number-clause-none c =
    let found = found_of c.args.found.now in
    let text = is_there (λ s. s.now) found c.args.id.now c.get_str.result c.get_str.ensures c.if-is_none.ensures in
    let unread = (c.in_err-number.ensures.value text.0 text.2).1.0 in
    rw c.from_residual.ensures (no_numeral c.args.least c.args.most c.args.default c.args.id.now (rows_of found) text.0 text.1 unread c.ranges.most.fits)

pub returns-then-number-most-clause-some : goal.returns-then-number-most-clause-some
returns-then-number-most-clause-some c =
    let found = found_of c.args.found.now in
    let text = is_there (λ s. s.now) found c.args.id.now c.get_str.result c.get_str.ensures c.if-is_none.ensures in
    let read = (c.in_ok-number.ensures.value text.0 text.2).0 in
    read_number c.args.least c.args.most c.args.default c.args.id.now (rows_of found) text.0 text.1 c.in_ok-number.number read.0.0 read.1
    c.if-least-number.true c.if-number-most.true

pub returns-else-least-number-clause-none : goal.returns-else-least-number-clause-none
returns-else-least-number-clause-none c =
    let found = found_of c.args.found.now in
    let text = is_there (λ s. s.now) found c.args.id.now c.get_str.result c.get_str.ensures c.if-is_none.ensures in
    let read = (c.in_ok-number.ensures.value text.0 text.2).0 in
    elim c.else-least-number.branch [
      | else-least-number-via-then-least-number+else-number-most w ↦
          too_large c.args.least c.args.most c.args.default c.args.id.now (rows_of found) text.0 text.1 c.in_ok-number.number read.1 w.if-number-most.false
      | else-least-number-via-else-least-number w ↦
          too_small c.args.least c.args.most c.args.default c.args.id.now (rows_of found) text.0 text.1 c.in_ok-number.number read.1 w.if-least-number.false
    ]
