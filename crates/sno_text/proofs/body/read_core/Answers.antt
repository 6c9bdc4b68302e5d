use Rattle.sno_text.proofs.Tables.{extends_trans}
use Rattle.sno_text.proofs.Bodies.{gives_core, lacks_core_object}
use Rattle.sno_text.proofs.body.read_core.Goals as goal

pub returns-in_err-pattern-clause-extends : goal.returns-in_err-pattern-clause-extends
returns-in_err-pattern-clause-extends c = extends_trans _ _ _ _ c.in_ok-subject.ensures.extends c.in_err-pattern.ensures.extends

pub returns-in_default-2-clause-extends : goal.returns-in_default-2-clause-extends
returns-in_default-2-clause-extends c = extends_trans _ _ _ _ c.in_ok-subject.ensures.extends c.in_ok-pattern.ensures.extends

pub returns-in_err-object-clause-extends : goal.returns-in_err-object-clause-extends
returns-in_err-object-clause-extends c =
    extends_trans _ _ _ _ (extends_trans _ _ _ _ c.in_ok-subject.ensures.extends c.in_ok-pattern.ensures.extends) c.in_err-object.ensures.extends

pub returns-in_default-3-clause-extends : goal.returns-in_default-3-clause-extends
returns-in_default-3-clause-extends c =
    extends_trans _ _ _ _ (extends_trans _ _ _ _ c.in_ok-subject.ensures.extends c.in_ok-pattern.ensures.extends) c.in_ok-object.ensures.extends

pub returns-in_default-3-clause-read : goal.returns-in_default-3-clause-read
returns-in_default-3-clause-read c =
    lacks_core_object _ _ _ _ _ c.in-Some.subject c.in-Some-2.pattern (rw c.in-Some.is at c.in_ok-subject.ensures.read)
    (rw c.in-Some-2.is at c.in_ok-pattern.ensures.read) (rw c.in_default-3.is at c.in_ok-object.ensures.read)

pub returns-clause-read : goal.returns-clause-read
returns-clause-read c =
    rw (c.both-fits.ensures, c.both.ensures) (gives_core _ _ _ _ _ _ c.in-Some.subject c.in-Some-2.pattern c.in-Some-3.object
    (rw c.in-Some.is at c.in_ok-subject.ensures.read) (rw c.in-Some-2.is at c.in_ok-pattern.ensures.read) c.in_ok-pattern.ensures.extends
    (rw c.in-Some-3.is at c.in_ok-object.ensures.read) c.in_ok-object.ensures.extends)

pub returns-clause-extends : goal.returns-clause-extends
returns-clause-extends c =
    extends_trans _ _ _ _ (extends_trans _ _ _ _ c.in_ok-subject.ensures.extends c.in_ok-pattern.ensures.extends) c.in_ok-object.ensures.extends
