use Rattle.std.proofs.Common.{◌∙◌, ap, refl, subst, sym, Ok, Err}
use Rattle.std.proofs.lemmas.Result.{err_from_is_err_and}
use Rattle.sno_value.specs.declared.value.Value.{Value as Stored}
use Rattle.sno_runtime.specs.Runtime.{Runtime}
use Rattle.sno_runtime.specs.Values.{shown, IsValueOf}
use Rattle.sno_runtime.specs.inner.Runtime.{Does}
use Rattle.sno_runtime.proofs.Outcomes.{grows_none, no_memory_does}
use Rattle.sno_statement.specs.inner.Given.{given_of, IsGivenOf}
use Rattle.sno_statement.specs.Running.{Runs}
use Rattle.sno_statement.proofs.RunningLaws.{answered, does_runs}
use Rattle.sno_statement.proofs.StringNodeLaws.{stay_answered, string_answered, string_refused}
use Rattle.sno_statement.proofs.deferred.answered_at.Goals as goal

pub returns-in_err-value-clause-does : goal.returns-in_err-value-clause-does
returns-in_err-value-clause-does c = λ act d can yields.
    let p = err_from_is_err_and c.from_residual.result c.from_residual.ensures.1 in
    rw (p.1, p.2) (does_runs given_of IsGivenOf _ _ _ _ _ can (no_memory_does given_of IsGivenOf _ _ _ (grows_none _) refl))

pub returns-in_err-id-clause-does : goal.returns-in_err-id-clause-does
returns-in_err-id-clause-does c = λ act d can yields.
    let p = err_from_is_err_and c.from_residual-in_err-id.result c.from_residual-in_err-id.ensures.1 in
    answered (p.1 ∙ ap Err p.2)
    (string_refused c.args.prim act c.args.runtime.now _ d _ _ c.if-is_none.ensures can
    (subst (λ (v : Stored). Does {X = Stored} shown IsValueOf act c.args.runtime.now c.args.runtime.now (Ok v)) c.in-Str.is
    (rw c.in_ok-value.ensures.equal (yields _ c.held-held.ensures))) c.in_err-id.ensures.does)

pub returns-clause-does : goal.returns-clause-does
returns-clause-does c = λ act d can yields.
    string_answered c.args.prim act c.args.runtime.now _ d _ _ c.if-is_none.ensures can
    (subst (λ (v : Stored). Does {X = Stored} shown IsValueOf act c.args.runtime.now c.args.runtime.now (Ok v)) c.in-Str.is
    (rw c.in_ok-value.ensures.equal (yields _ c.held-held.ensures))) c.in_ok-id.ensures.does

pub returns-2-clause-does : goal.returns-2-clause-does
returns-2-clause-does c = λ act d can yields.
    let s = c.args.runtime.now in
    let did : Does {X = Stored} shown IsValueOf act s s (Ok c.in_ok-value.value) = rw c.in_ok-value.ensures.equal (yields _ c.held-held.ensures) in
    rw c.makes_once.ensures (c.answer_of-answer.ensures act s d d
    (subst (λ (b : Runtime). Runs {X = Stored} shown IsValueOf act s b d d (Ok c.in_ok-value.value)) (sym c.answers_for.ensures)
    (does_runs shown IsValueOf act s s d (Ok c.in_ok-value.value) can did)))

pub returns-2-clause-nodes : goal.returns-2-clause-nodes
returns-2-clause-nodes c = λ d can.
    let s = c.args.runtime.now in
    rw c.makes_once.ensures
    (stay_answered c.args.prim s _ d c.in_ok-value.value _ c.args.nodes.now can (rw c.in_ok-value.ensures.equal c.held-held.ensures.answer)
    (λ act before old new did. c.answer_of-answer.ensures act before old new
    (subst (λ (b : Runtime). Runs {X = Stored} shown IsValueOf act before b old new (Ok c.in_ok-value.value)) (sym c.answers_for.ensures) did)) c.requires.nodes)
