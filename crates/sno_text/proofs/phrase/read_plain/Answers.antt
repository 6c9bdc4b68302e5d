use Rattle.sno_text.proofs.Tables.{extends_trans}
use Rattle.sno_text.proofs.Phrases.{gives_rest, lacks_rest_core, lacks_rest_jump, lacks_rest_end, lacks_rest_some}
use Rattle.sno_text.proofs.phrase.read_plain.Goals as goal

pub returns-in_default-clause-read : goal.returns-in_default-clause-read
returns-in_default-clause-read c = λ u r. lacks_rest_core _ _ _ (rw c.in_default.is at c.in_ok-body.ensures.read) u r

pub returns-in_err-jump-clause-extends : goal.returns-in_err-jump-clause-extends
returns-in_err-jump-clause-extends c = extends_trans _ _ _ _ c.in_ok-body.ensures.extends c.in_err-jump.ensures.extends

pub returns-in_default-2-clause-read : goal.returns-in_default-2-clause-read
returns-in_default-2-clause-read c = λ u r.
    lacks_rest_jump _ _ _ _ _ c.in-Some.body (rw c.in-Some.is at c.in_ok-body.ensures.read) (rw c.in_default-2.is at c.in_ok-jump.ensures.read) u r

pub returns-in_default-2-clause-extends : goal.returns-in_default-2-clause-extends
returns-in_default-2-clause-extends c = extends_trans _ _ _ _ c.in_ok-body.ensures.extends c.in_ok-jump.ensures.extends

pub returns-then-run_end-text-clause-read : goal.returns-then-run_end-text-clause-read
returns-then-run_end-text-clause-read c = λ u r.
    lacks_rest_end _ _ _ _ _ _ _ c.in-Some.body c.in-Some-2.jump (rw c.in-Some.is at c.in_ok-body.ensures.read) (rw c.in-Some-2.is at c.in_ok-jump.ensures.read)
    c.run_end.ensures.run c.if-run_end-text.true u r

pub returns-then-run_end-text-clause-extends : goal.returns-then-run_end-text-clause-extends
returns-then-run_end-text-clause-extends c = extends_trans _ _ _ _ c.in_ok-body.ensures.extends c.in_ok-jump.ensures.extends

pub returns-then-is_nothing-clause-read : goal.returns-then-is_nothing-clause-read
returns-then-is_nothing-clause-read c = λ u r.
    let n = c.is_nothing.ensures.nothing c.if-is_nothing.true in
    lacks_rest_some _ _ _ _ _ _ c.in-Some.body c.in-Some-2.jump (rw c.in-Some.is at c.in_ok-body.ensures.read)
    (rw c.in-Some-2.is at c.in_ok-jump.ensures.read) n.0 n.1 n.2 u r

pub returns-then-is_nothing-clause-extends : goal.returns-then-is_nothing-clause-extends
returns-then-is_nothing-clause-extends c = extends_trans _ _ _ _ c.in_ok-body.ensures.extends c.in_ok-jump.ensures.extends

pub returns-clause-read : goal.returns-clause-read
returns-clause-read c =
    rw c.both-fits.ensures (gives_rest _ _ _ _ _ _ _ c.in-Some.body c.in-Some-2.jump (rw c.in-Some.is at c.in_ok-body.ensures.read)
    (rw c.in-Some-2.is at c.in_ok-jump.ensures.read)
    c.in_ok-jump.ensures.extends c.run_end.ensures.run c.if-run_end-text.false (c.is_nothing.ensures.some c.if-is_nothing.false))

pub returns-clause-extends : goal.returns-clause-extends
returns-clause-extends c = extends_trans _ _ _ _ c.in_ok-body.ensures.extends c.in_ok-jump.ensures.extends
