use Rattle.sno_text.proofs.Tables.{extends_trans}
use Rattle.sno_text.proofs.Jumps.{gives_targets, lacks_second}
use Rattle.sno_text.proofs.goto.read_targets.Goals as goal

pub returns-in_err-second-clause-extends : goal.returns-in_err-second-clause-extends
returns-in_err-second-clause-extends c = extends_trans _ _ _ _ c.in_ok-first.ensures.extends c.in_err-second.ensures.extends

pub returns-in_default-2-clause-read : goal.returns-in_default-2-clause-read
returns-in_default-2-clause-read c =
    lacks_second _ _ _ _ _ c.in-Some.first (rw c.in-Some.is at c.in_ok-first.ensures.read) (rw c.in_default-2.is at c.in_ok-second.ensures.read)

pub returns-in_default-2-clause-extends : goal.returns-in_default-2-clause-extends
returns-in_default-2-clause-extends c = extends_trans _ _ _ _ c.in_ok-first.ensures.extends c.in_ok-second.ensures.extends

pub returns-clause-read : goal.returns-clause-read
returns-clause-read c =
    rw c.both-fits.ensures (gives_targets _ _ _ _ _ _ c.in-Some.first c.in-Some-2.second (rw c.in-Some.is at c.in_ok-first.ensures.read)
    (rw c.in-Some-2.is at c.in_ok-second.ensures.read) c.in_ok-second.ensures.extends)

pub returns-clause-extends : goal.returns-clause-extends
returns-clause-extends c = extends_trans _ _ _ _ c.in_ok-first.ensures.extends c.in_ok-second.ensures.extends
