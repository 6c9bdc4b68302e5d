use Rattle.std.proofs.Common.{◌<◌, refl}
use Rattle.sno_text.specs.Statements.{IsLabel}
use Rattle.sno_text.proofs.Tables.{extends_none}
use Rattle.sno_text.proofs.Phrases.{statement_labelled, statement_end, statement_return, statement_freturn}
use Rattle.sno_text.proofs.phrase.read_statement.Goals as goal

pub returns-then-is_name-clause-read : goal.returns-then-is_name-clause-read
returns-then-is_name-clause-read c =
    let label : IsLabel c.args.text.now c.in-Some.label.start c.in-Some.label.end = rw c.in-Some.ensures.0 c.in-Some.ensures.1 in
    let some : c.in-Some.label.start < c.in-Some.label.end = rw c.in-Some.ensures.0 c.in-Some.ensures.2 in
    rw (← c.in-Some.ensures.0) (statement_end _ _ _ _ _ label some (c.is_name.ensures.same c.if-is_name.true) (c.read_end.ensures _))

pub returns-then-is_name-clause-extends : goal.returns-then-is_name-clause-extends
returns-then-is_name-clause-extends c = extends_none _ _ _ refl

pub returns-then-is_name-2-clause-read : goal.returns-then-is_name-2-clause-read
returns-then-is_name-2-clause-read c =
    let label : IsLabel c.args.text.now c.in-Some.label.start c.in-Some.label.end = rw c.in-Some.ensures.0 c.in-Some.ensures.1 in
    rw (← c.in-Some.ensures.0) (λ u r. statement_return _ _ _ label (c.is_name-2.ensures.same c.if-is_name-2.true) u r)

pub returns-then-is_name-2-clause-extends : goal.returns-then-is_name-2-clause-extends
returns-then-is_name-2-clause-extends c = extends_none _ _ _ refl

pub returns-then-is_name-3-clause-read : goal.returns-then-is_name-3-clause-read
returns-then-is_name-3-clause-read c =
    let label : IsLabel c.args.text.now c.in-Some.label.start c.in-Some.label.end = rw c.in-Some.ensures.0 c.in-Some.ensures.1 in
    rw (← c.in-Some.ensures.0) (λ u r. statement_freturn _ _ _ label (c.is_name-3.ensures.same c.if-is_name-3.true) u r)

pub returns-then-is_name-3-clause-extends : goal.returns-then-is_name-3-clause-extends
returns-then-is_name-3-clause-extends c = extends_none _ _ _ refl

pub returns-clause-read : goal.returns-clause-read
returns-clause-read c =
    let label : IsLabel c.args.text.now c.in-Some.label.start c.in-Some.label.end = rw c.in-Some.ensures.0 c.in-Some.ensures.1 in
    let some : c.in-Some.label.start < c.in-Some.label.end = rw c.in-Some.ensures.0 c.in-Some.ensures.2 in
    rw (← c.in-Some.ensures.0) (statement_labelled _ _ _ _ _ _ label some (c.is_name.ensures.other c.if-is_name.false)
    (c.is_name-2.ensures.other c.if-is_name-2.false)
    (c.is_name-3.ensures.other c.if-is_name-3.false) c.in_ok-found-2.ensures.read)
