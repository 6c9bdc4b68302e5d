use Rattle.std.proofs.Common.{◌≡◌, ◌∙◌, suc, ap, arith, length, refl, ◌++◌, ◌∷◌, [], ◌≤◌, List, Ok, Err}
use Rattle.std.proofs.lemmas.Result.{err_from_is_err_and}
use Rattle.sno_pattern.specs.Table.{tree}
use Rattle.sno_match.specs.Search.{Answer, trace}
use Rattle.sno_match.specs.Matching.{Matching}
use Rattle.sno_statement.specs.inner.Given.{given_of}
use Rattle.sno_statement.proofs.RunningLaws.{performs_runs}
use Rattle.snobol.proofs.EnumerationLaws.{whole_listing, value_then, value_ended, unlisted, last_told, line_told, events_over, event_then, event_ended}
use Rattle.sno_statement.proofs.SessionLaws.{turn_of, trace_followed, given_to, follows_on, follows_answer, given_same, given_answer}
use Rattle.sno_statement.proofs.CallingLaws.{still_in}
use Rattle.snobol.proofs.listing.list_ways.Goals as goal

pub evaluate-value-requires : goal.evaluate-value-requires
evaluate-value-requires g c = still_in _ _ _ _ _ c.requires.within c.events.invariant.calls c.events.invariant.can

pub answer_of-requires : goal.answer_of-requires
answer_of-requires g c = c.evaluate-value.ensures.answer

pub answer-requires-clause-table : goal.answer-requires-clause-table
answer-requires-clause-table g c =
    let did = c.in_ok-given-in-Value.ensures _ _ _ _ c.evaluate-value.ensures in
    rw (c.patterns-in-Value.ensures, c.in_ok-event.ensures.table, c.patterns-in-events.ensures) did.grows

pub answer-requires-clause-known : goal.answer-requires-clause-known
answer-requires-clause-known g c =
    let did = c.in_ok-given-in-Value.ensures _ _ _ _ c.evaluate-value.ensures in
    rw c.patterns-in-Value.ensures did.answer

pub returns-in_err-matcher : goal.returns-in_err-matcher
returns-in_err-matcher g c =
    let p = err_from_is_err_and c.from_residual.result c.from_residual.ensures.1 in
    rw (p.1, p.2) (unlisted _ _ _ c.requires.within.ready)

pub returns-in_err-event : goal.returns-in_err-event
returns-in_err-event g c =
    let p = err_from_is_err_and c.from_residual-in_err-event.result c.from_residual-in_err-event.ensures.1 in
    let i = c.events.invariant in
    rw (p.1, p.2, ← whole_listing (g.S.Calls.code c.args.scope.now) _ c.args.subject.now c.args.anchored c.args.limit) (i.leads _ _ _ (unlisted _ _ _ i.can))

pub returns-in_err-given-in-Value : goal.returns-in_err-given-in-Value
returns-in_err-given-in-Value g c =
    let p = err_from_is_err_and c.from_residual-in_err-given-in-Value.result c.from_residual-in_err-given-in-Value.ensures.1 in
    let i = c.events.invariant in
    let turn = rw c.in-Value.is at (turn_of c.events.matcher c.next.new.self _ _ _ _ _ c.in_ok-event.event i.follows c.in_ok-event.ensures.same
    c.in_ok-event.ensures.ok c.in_ok-event.ensures.counts) in
    let runs = c.in_err-given-in-Value.ensures _ _ _ _ (rw (c.value_of.ensures, c.requires.outermost) at c.evaluate-value.ensures) in
    rw (p.1, p.2, ← whole_listing (g.S.Calls.code c.args.scope.now) _ c.args.subject.now c.args.anchored c.args.limit)
    (i.leads _ _ _ (value_ended _ _ _ _ _ _ _ c.in-Value.prim c.in-Value.expr.0 _ _ _ _ _ _ turn runs))

pub returns-in_err-answer-in-Value : goal.returns-in_err-answer-in-Value
returns-in_err-answer-in-Value g c =
    let p = err_from_is_err_and c.from_residual-in_err-answer-in-Value.result c.from_residual-in_err-answer-in-Value.ensures.1 in
    let i = c.events.invariant in
    let turn = rw c.in-Value.is at (turn_of c.events.matcher c.next.new.self _ _ _ _ _ c.in_ok-event.event i.follows c.in_ok-event.ensures.same
    c.in_ok-event.ensures.ok c.in_ok-event.ensures.counts) in
    let runs = c.in_ok-given-in-Value.ensures _ _ _ _ (rw (c.value_of.ensures, c.requires.outermost) at c.evaluate-value.ensures) in
    rw (p.1, p.2, ← whole_listing (g.S.Calls.code c.args.scope.now) _ c.args.subject.now c.args.anchored c.args.limit)
    (i.leads _ _ _ (value_then _ _ _ _ _ _ _ c.in-Value.prim c.in-Value.expr.0 _ _ _ _ _ _ _ c.in_ok-given-in-Value.given _ turn runs
    (unlisted _ _ _ runs.ready)))

pub events-preserved-in-Continue-branch-4 : goal.events-preserved-in-Continue-branch-4
events-preserved-in-Continue-branch-4 g c =
    let i = c.events.invariant in
    let turn = rw c.in-Value.is at (turn_of c.events.matcher c.next.new.self _ _ _ _ _ c.in_ok-event.event i.follows c.in_ok-event.ensures.same
    c.in_ok-event.ensures.ok c.in_ok-event.ensures.counts) in
    let runs = c.in_ok-given-in-Value.ensures _ _ _ _ (rw (c.value_of.ensures, c.requires.outermost) at c.evaluate-value.ensures) in
    let x = c.in_ok-given-in-Value.given in
    let told = c.in_ok-event.ensures.ok in
    let grows = told.grows i.follows.ended in
    let table = c.in_ok-event.ensures.table ∙ c.patterns-in-events.ensures in
    let on = follows_on c.events.matcher c.next.new.self _ _ _ _ _ c.in_ok-event.event i.follows table c.in_ok-event.ensures.same told
    (rw c.in-Value.is refl) in
    let is = rw c.patterns-in-Value.ensures at c.in_ok-answer-in-Value.ensures.ok in
    let given = given_answer c.next.new.self c.answer.new.self _ _ _ _ _ _ x on runs.grows is
    ∙ ap (λ (before : List Answer). before ++ given_of c.answer_of.new.runtime.nodes x ∷ [])
    (given_same c.events.matcher c.next.new.self _ i.follows.nodes table c.in_ok-event.ensures.same) in
    let same = ap (λ (m : Matching). m.told) is in
    let next : c.answer.new.self.told ≡ suc c.events.matcher.told = omega arith in
    record {
      follows = follows_answer c.next.new.self c.answer.new.self _ _ _ _ _ _ x on runs.grows runs.answer is;
      waits = ap (λ (m : Matching). m.waits) is;
      can = runs.ready;
      calls = runs.calls ∙ i.calls;
      leads = λ e z r h. i.leads e z r (value_then _ _ _ _ _ _ _ c.in-Value.prim c.in-Value.expr.0 _ _ _ _ _ _ _ x r turn runs (rw (given, next) at h));
    }

pub returns-in_err-list_event-in-Exhausted : goal.returns-in_err-list_event-in-Exhausted
returns-in_err-list_event-in-Exhausted g c =
    let p = err_from_is_err_and c.from_residual-in_err-list_event-in-Exhausted.result c.from_residual-in_err-list_event-in-Exhausted.ensures.1 in
    let i = c.events.invariant in
    let turn = turn_of c.events.matcher c.next.new.self _ _ _ _ _ c.in_ok-event.event i.follows c.in_ok-event.ensures.same c.in_ok-event.ensures.ok
    c.in_ok-event.ensures.counts in
    let last = last_told c.in_ok-event.event c.in-Exhausted.is in
    let did = c.in_err-list_event-in-Exhausted.ensures in
    let runs = performs_runs _ _ _ _ (g.W.Sink.drain c.events.writer) _ (Err c.in_err-list_event-in-Exhausted.field-0.0) i.can.reads did.nodes tt did.fault
    (rw c.pending.ensures.value at did.does) in
    rw (p.1, p.2, ← whole_listing (g.S.Calls.code c.args.scope.now) _ c.args.subject.now c.args.anchored c.args.limit)
    (i.leads _ _ _ (event_ended _ _ _ _ _ _ _ c.in_ok-event.event c.next.new.self.way _ _ _ _ _ _ last.0 turn.0 turn.1 runs))

pub returns-in-Exhausted : goal.returns-in-Exhausted
returns-in-Exhausted g c =
    let i = c.events.invariant in
    let turn = turn_of c.events.matcher c.next.new.self _ _ _ _ _ c.in_ok-event.event i.follows c.in_ok-event.ensures.same c.in_ok-event.ensures.ok
    c.in_ok-event.ensures.counts in
    let last = last_told c.in_ok-event.event c.in-Exhausted.is in
    let did = c.in_ok-list_event-in-Exhausted.ensures in
    let runs = performs_runs _ _ _ _ (g.W.Sink.drain c.events.writer) _ (Ok tt) i.can.reads did.nodes did.sound (λ e. absurd (cc e))
    (rw c.pending.ensures.value at did.does) in
    let told = c.in_ok-event.ensures.ok in
    let grows = told.grows i.follows.ended in
    let over = told.stops (rw last.1 refl) in
    let same = ap length (c.in_ok-event.ensures.same.trace ∙ trace_followed c.events.matcher _ _ _ _ _ i.follows) in
    let all : length (trace (tree c.args.runtime.now.nodes c.args.pattern.0) c.args.subject.now c.args.anchored c.args.limit (given_to c.events.matcher))
    ≤ suc c.events.matcher.told = omega arith in
    rw (← whole_listing (g.S.Calls.code c.args.scope.now) _ c.args.subject.now c.args.anchored c.args.limit)
    (i.leads _ _ _ (event_then _ _ _ _ _ _ _ c.in_ok-event.event c.next.new.self.way _ _ _ _ _ _ _ _ last.0 turn.0 turn.1 runs
    (events_over (g.S.Calls.code c.args.scope.now) (tree c.args.runtime.now.nodes c.args.pattern.0) c.args.subject.now c.args.anchored c.args.limit _
    (given_to c.events.matcher) _ _ runs.ready all)))

pub events-preserved : goal.events-preserved
events-preserved g c =
    let i = c.events.invariant in
    let turn = turn_of c.events.matcher c.next.new.self _ _ _ _ _ c.in_ok-event.event i.follows c.in_ok-event.ensures.same c.in_ok-event.ensures.ok
    c.in_ok-event.ensures.counts in
    let on = line_told c.in_ok-event.event c.in_default.not-Value c.in_default.not-Exhausted c.in_default.not-Aborted c.in_default.not-Limit in
    let did = c.in_ok-list_event-in_default.ensures in
    let runs = performs_runs _ _ _ _ (g.W.Sink.drain c.events.writer) _ (Ok tt) i.can.reads did.nodes did.sound (λ e. absurd (cc e))
    (rw c.pending-in_default.ensures.value at did.does) in
    let told = c.in_ok-event.ensures.ok in
    let grows = told.grows i.follows.ended in
    let table = c.in_ok-event.ensures.table ∙ c.patterns-in-events.ensures in
    let next : c.next.new.self.told ≡ suc c.events.matcher.told = omega arith in
    let given = given_same c.events.matcher c.next.new.self _ i.follows.nodes table c.in_ok-event.ensures.same in
    record {
      follows = rw did.nodes (follows_on c.events.matcher c.next.new.self _ _ _ _ _ c.in_ok-event.event i.follows table c.in_ok-event.ensures.same told on.1);
      waits = told.waits ∙ on.0;
      can = runs.ready;
      calls = runs.calls ∙ i.calls;
      leads = λ e z r h. i.leads e z r (event_then _ _ _ _ _ _ _ c.in_ok-event.event c.next.new.self.way _ _ _ _ _ _ _ r on.0 turn.0 turn.1 runs
          (rw (given, next) at h));
    }

pub returns-in_err-list_event-in_default : goal.returns-in_err-list_event-in_default
returns-in_err-list_event-in_default g c =
    let p = err_from_is_err_and c.from_residual-in_err-list_event-in_default.result c.from_residual-in_err-list_event-in_default.ensures.1 in
    let i = c.events.invariant in
    let turn = turn_of c.events.matcher c.next.new.self _ _ _ _ _ c.in_ok-event.event i.follows c.in_ok-event.ensures.same c.in_ok-event.ensures.ok
    c.in_ok-event.ensures.counts in
    let on = line_told c.in_ok-event.event c.in_default.not-Value c.in_default.not-Exhausted c.in_default.not-Aborted c.in_default.not-Limit in
    let did = c.in_err-list_event-in_default.ensures in
    let runs = performs_runs _ _ _ _ (g.W.Sink.drain c.events.writer) _ (Err c.in_err-list_event-in_default.field-0.0) i.can.reads did.nodes tt did.fault
    (rw c.pending-in_default.ensures.value at did.does) in
    rw (p.1, p.2, ← whole_listing (g.S.Calls.code c.args.scope.now) _ c.args.subject.now c.args.anchored c.args.limit)
    (i.leads _ _ _ (event_ended _ _ _ _ _ _ _ c.in_ok-event.event c.next.new.self.way _ _ _ _ _ _ on.0 turn.0 turn.1 runs))
