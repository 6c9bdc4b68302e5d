use Rattle.std.proofs.Common.{refl, ◌∙◌, ap, subst, sym, Option, Ok}
use Rattle.std.proofs.lemmas.Result.{err_from_is_err_and}
use Rattle.sno_value.specs.declared.ids.PatId.{PatId}
use Rattle.sno_value.specs.declared.value.Value.{Value as Stored}
use Rattle.sno_runtime.specs.Action.{Action, settles}
use Rattle.sno_runtime.specs.Runtime.{Runtime}
use Rattle.sno_runtime.specs.Values.{Value, shown, IsValueOf}
use Rattle.sno_runtime.specs.inner.Runtime.{Does}
use Rattle.sno_runtime.proofs.Outcomes.{grows_none, no_memory_does}
use Rattle.sno_expression.specs.Evaluate.{expression}
use Rattle.sno_statement.specs.inner.Given.{given_of, IsGivenOf}
use Rattle.sno_statement.specs.Running.{devices, Runs}
use Rattle.sno_statement.specs.Turns.{answer_of}
use Rattle.sno_statement.proofs.AnswerLaws.{held_answered}
use Rattle.sno_statement.proofs.RunningLaws.{does_runs}
use Rattle.sno_statement.proofs.StringNodeLaws.{stay_answered}
use Rattle.sno_statement.proofs.deferred.answer_to.Goals as goal

pub returns-clause-does : goal.returns-clause-does
returns-clause-does g c =
    let s = c.args.runtime.now in
    let call = g.S.Calls.caller c.args.scope.now in
    let same = (rw c.code.ensures at c.in-Some.ensures).0 call ∙ ap (expression (g.S.Calls.code c.args.scope.now) call) c.value_of-part.ensures in
    c.answered_at.ensures.does _ _ c.requires.within.ready
    (λ v held. subst (λ (act : Action Value). Does {X = Stored} shown IsValueOf act s s (Ok v)) same
    ((rw c.program-2.ensures.program at c.in-Some-only_place.ensures) v held call))

pub returns-clause-nodes : goal.returns-clause-nodes
returns-clause-nodes g c = c.answered_at.ensures.nodes _ c.requires.within.ready

pub returns-in_default-held-clause-does : goal.returns-in_default-held-clause-does
returns-in_default-held-clause-does g c =
    let call = g.S.Calls.caller c.args.scope.now in
    let same = (rw c.code.ensures at c.in-Some.ensures).0 call ∙ ap (expression (g.S.Calls.code c.args.scope.now) call) c.value_of-part.ensures in
    let old = devices (g.R.Source.feed c.args.reader.now) (g.W.Sink.drain c.args.writer.now) in
    let new = devices (g.R.Source.feed c.answered_by.new.reader) (g.W.Sink.drain c.answered_by.new.writer) in
    subst (λ (act : Action Value).
    Runs {X = Option PatId} given_of IsGivenOf (settles act (answer_of c.args.prim)) c.args.runtime.now c.answered_by.new.runtime old new c.answered_by.result)
    same c.answered_by.ensures

pub returns-2-clause-does : goal.returns-2-clause-does
returns-2-clause-does g c =
    let s = c.args.runtime.now in
    let call = g.S.Calls.caller c.args.scope.now in
    let same = (rw c.code.ensures at c.in-Some.ensures).0 call ∙ ap (expression (g.S.Calls.code c.args.scope.now) call) c.value_of-part.ensures in
    let held = subst (λ (act : Action Value). Does {X = Stored} shown IsValueOf act s s (Ok c.in-Some-held.held.now)) same
    ((rw c.program.ensures.program at c.in-Some-held.ensures) call) in
    held_answered _ _ _ _ c.in-Pat.id c.if-is_none.ensures c.requires.within.ready (rw c.in-Pat.is at held)

pub returns-in_err-value-clause-does : goal.returns-in_err-value-clause-does
returns-in_err-value-clause-does g c =
    let p = err_from_is_err_and c.from_residual.result c.from_residual.ensures.1 in
    rw (p.1, p.2) (does_runs given_of IsGivenOf _ _ _ _ _ c.requires.within.ready (no_memory_does given_of IsGivenOf _ _ _ (grows_none _) refl))

pub answer_of-answer-requires : goal.answer_of-answer-requires
answer_of-answer-requires g c =
    let held = (rw c.program.ensures.program at c.in-Some-held.ensures) (g.S.Calls.caller c.args.scope.now) in
    rw (c.answers_for.ensures, c.in_ok-value.ensures.equal) held.answer

pub returns-3-clause-does : goal.returns-3-clause-does
returns-3-clause-does g c =
    let s = c.args.runtime.now in
    let call = g.S.Calls.caller c.args.scope.now in
    let same = (rw c.code.ensures at c.in-Some.ensures).0 call ∙ ap (expression (g.S.Calls.code c.args.scope.now) call) c.value_of-part.ensures in
    let held = subst (λ (act : Action Value). Does {X = Stored} shown IsValueOf act s s (Ok c.in-Some-held.held.now)) same
    ((rw c.program.ensures.program at c.in-Some-held.ensures) call) in
    rw (c.makes_once.ensures, ← c.answers_for.ensures)
    (c.answer_of-answer.ensures _ _ _ _ (does_runs shown IsValueOf _ _ _ _ _ (rw c.answers_for.ensures c.requires.within.ready)
    (rw (c.answers_for.ensures, c.in_ok-value.ensures.equal) held)))

pub returns-3-clause-nodes : goal.returns-3-clause-nodes
returns-3-clause-nodes g c =
    let s = c.args.runtime.now in
    let held = (rw c.program.ensures.program at c.in-Some-held.ensures) (g.S.Calls.caller c.args.scope.now) in
    rw c.makes_once.ensures
    (stay_answered c.args.prim s _ _ c.in_ok-value.value _ c.args.nodes.now c.requires.within.ready (rw c.in_ok-value.ensures.equal held.answer)
    (λ act before old new did. c.answer_of-answer.ensures act before old new
    (subst (λ (b : Runtime). Runs {X = Stored} shown IsValueOf act before b old new (Ok c.in_ok-value.value)) (sym c.answers_for.ensures) did)) c.requires.nodes)
