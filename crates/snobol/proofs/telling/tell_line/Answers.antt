use Rattle.std.proofs.Common.{◌≡◌, ◌∙◌, ◌≤◌, ◌++◌, ◌∷◌, suc, ap, arith, length, refl, sym, subst, [], List, Ok, Err}
use Rattle.std.proofs.lemmas.List.{append-nil}
use Rattle.std.proofs.lemmas.Result.{err_from_is_err_and}
use Rattle.sno_io.proofs.Bytes.{appends_then}
use Rattle.sno_match.specs.Search.{Answer, Value, trace}
use Rattle.sno_match.specs.Matching.{Matching, in_trace, told_of}
use Rattle.sno_pattern.specs.Table.{tree}
use Rattle.sno_runtime.proofs.Performing.{appends_nothing}
use Rattle.sno_runtime.specs.Action.{Action}
use Rattle.sno_runtime.specs.Runtime.{world}
use Rattle.sno_statement.specs.inner.Given.{given_of}
use Rattle.sno_statement.proofs.RunningLaws.{performs_runs}
use Rattle.sno_statement.proofs.SessionLaws.{turn_of, trace_followed, given_to, follows_on, follows_answer, given_same, given_answer}
use Rattle.snobol.specs.Enumeration.{Leaves}
use Rattle.snobol.proofs.EnumerationLaws.{to_end, value_then, value_ended, unlisted, last_told, line_told, events_over, event_then, event_ended}
use Rattle.snobol.proofs.LineLaws.{ends_here, done_here, event_left, value_left, leaves_all, leaves_then, rest_followed, resumes_follows, told_more, told_behind, deferred_and, not_deferred, few_events}
use Rattle.snobol.proofs.NextLaws.{rest_left}
use Rattle.snobol.proofs.telling.tell_line.Goals as goal

pub parts-init : goal.parts-init
parts-init g c =
    let h = c.requires.resumes in
    let follows = resumes_follows c.args.matcher.now c.args.runtime.now.nodes c.args.subject.now c.args.matcher.now.limit h in
    let act = to_end c.args.program.now (tree c.args.matcher.now.nodes c.args.matcher.now.pattern.0) c.args.subject.now c.args.matcher.now.anchored
    c.args.matcher.now.limit (given_to c.args.matcher.now) c.args.matcher.now.told in
    record {
      follows = follows;
      waits = h.waits;
      go = c.requires.can;
      front = [];
      appends = appends_nothing _;
      leaves = subst (λ (whole : Action Unit). Leaves (whole (world c.args.runtime.now [])) (act (world c.args.runtime.now [])) [])
          (sym (rest_followed c.args.program.now c.args.matcher.now _ _ _ _ _ follows)) (leaves_all _);
      parts = [];
      deferred = tt;
      told = sym (append-nil (told_of c.args.matcher.now));
    }

pub answer-requires-clause-table : goal.answer-requires-clause-table
answer-requires-clause-table g c =
    rw (c.patterns-in-Value.ensures, c.in_ok-event.ensures.table, c.patterns.ensures) c.in_ok-given-in-Value.ensures.grows

pub answer-requires-clause-known : goal.answer-requires-clause-known
answer-requires-clause-known g c = rw c.patterns-in-Value.ensures c.in_ok-given-in-Value.ensures.answer

pub returns-in_err-event-clause-does : goal.returns-in_err-event-clause-does
returns-in_err-event-clause-does g c =
    let p = err_from_is_err_and c.from_residual.result c.from_residual.ensures.1 in
    let i = c.parts.invariant in
    rw (p.1, p.2) (ends_here _ _ _ _ _ _ _ _ _ refl i.appends i.leaves (unlisted
    (to_end c.args.program.now (tree c.args.matcher.now.nodes c.args.matcher.now.pattern.0) c.args.subject.now c.args.matcher.now.anchored c.args.matcher.now.limit
    (given_to c.parts.matcher) c.parts.matcher.told) _ _ i.go.ready))

pub returns-in_err-given-in-Value-clause-does : goal.returns-in_err-given-in-Value-clause-does
returns-in_err-given-in-Value-clause-does g c =
    let p = err_from_is_err_and c.from_residual-in_err-given-in-Value.result c.from_residual-in_err-given-in-Value.ensures.1 in
    let i = c.parts.invariant in
    let turn = rw c.in-Value.is at (turn_of c.parts.matcher c.next.new.self _ _ _ _ _ c.in_ok-event.event i.follows c.in_ok-event.ensures.same
    c.in_ok-event.ensures.ok c.in_ok-event.ensures.counts) in
    rw (p.1, p.2) (ends_here _ _ _ _ _ _ _ _ _ refl i.appends i.leaves (value_ended _ _ _ _ _ _ _ c.in-Value.prim c.in-Value.expr.0 _ _ _ _ _ _ turn
    c.in_err-given-in-Value.ensures))

pub returns-in_err-answer-in-Value-clause-does : goal.returns-in_err-answer-in-Value-clause-does
returns-in_err-answer-in-Value-clause-does g c =
    let p = err_from_is_err_and c.from_residual-in_err-answer-in-Value.result c.from_residual-in_err-answer-in-Value.ensures.1 in
    let i = c.parts.invariant in
    let turn = rw c.in-Value.is at (turn_of c.parts.matcher c.next.new.self _ _ _ _ _ c.in_ok-event.event i.follows c.in_ok-event.ensures.same
    c.in_ok-event.ensures.ok c.in_ok-event.ensures.counts) in
    let runs = c.in_ok-given-in-Value.ensures in
    rw (p.1, p.2) (ends_here _ _ _ _ _ _ _ _ _ refl i.appends i.leaves (value_then _ _ _ _ _ _ _ c.in-Value.prim c.in-Value.expr.0 _ _ _ _ _ _ _
    c.in_ok-given-in-Value.given _ turn runs (unlisted _ _ _ runs.ready)))

pub parts-preserved : goal.parts-preserved
parts-preserved g c =
    let i = c.parts.invariant in
    let turn = rw c.in-Value.is at (turn_of c.parts.matcher c.next.new.self _ _ _ _ _ c.in_ok-event.event i.follows c.in_ok-event.ensures.same
    c.in_ok-event.ensures.ok c.in_ok-event.ensures.counts) in
    let runs = c.in_ok-given-in-Value.ensures in
    let x = c.in_ok-given-in-Value.given in
    let told = c.in_ok-event.ensures.ok in
    let grows = told.grows i.follows.ended in
    let table = c.in_ok-event.ensures.table ∙ c.patterns.ensures in
    let on = follows_on c.parts.matcher c.next.new.self _ _ _ _ _ c.in_ok-event.event i.follows table c.in_ok-event.ensures.same told
    (rw c.in-Value.is refl) in
    let is = rw c.patterns-in-Value.ensures at c.in_ok-answer-in-Value.ensures.ok in
    let given = given_answer c.next.new.self c.answer.new.self _ _ _ _ _ _ x on runs.grows is
    ∙ ap (λ (before : List Answer). before ++ given_of c.answer_part.new.runtime.nodes x ∷ [])
    (given_same c.parts.matcher c.next.new.self _ i.follows.nodes table c.in_ok-event.ensures.same) in
    let same = ap (λ (m : Matching). m.told) is in
    let next : c.answer.new.self.told ≡ suc c.parts.matcher.told = omega arith in
    let more = rw c.in-Value.is at (told_more c.parts.matcher c.next.new.self c.in_ok-event.event c.in_ok-event.ensures.same told i.follows.ended) in
    record {
      follows = follows_answer c.next.new.self c.answer.new.self _ _ _ _ _ _ x on runs.grows runs.answer is;
      waits = ap (λ (m : Matching). m.waits) is;
      go = record { closed = runs.calls ∙ i.go.closed; ready = runs.ready };
      front = i.front ++ runs.wrote;
      appends = appends_then _ _ _ i.front runs.wrote i.appends runs.appends;
      leaves = rw (given, next) (leaves_then _ _ _ i.front runs.wrote i.leaves
          (value_left _ _ _ _ _ _ _ c.in-Value.prim c.in-Value.expr.0 _ _ _ _ _ x turn refl runs));
      parts = i.parts ++ (Value c.in-Value.prim c.in-Value.expr.0, c.next.new.self.steps) ∷ [];
      deferred = deferred_and i.parts _ i.deferred tt;
      told = c.answer.ensures.told ∙ told_behind (told_of c.args.matcher.now) i.parts _ _ _ i.told more;
    }

pub returns-in_err-list_event-in-Exhausted-clause-does : goal.returns-in_err-list_event-in-Exhausted-clause-does
returns-in_err-list_event-in-Exhausted-clause-does g c =
    let p = err_from_is_err_and c.from_residual-in_err-list_event-in-Exhausted.result c.from_residual-in_err-list_event-in-Exhausted.ensures.1 in
    let i = c.parts.invariant in
    let turn = turn_of c.parts.matcher c.next.new.self _ _ _ _ _ c.in_ok-event.event i.follows c.in_ok-event.ensures.same c.in_ok-event.ensures.ok
    c.in_ok-event.ensures.counts in
    let last = last_told c.in_ok-event.event c.in-Exhausted.is in
    let did = c.in_err-list_event-in-Exhausted.ensures in
    let runs = performs_runs _ _ _ _ (g.W.Sink.drain c.parts.writer) _ (Err c.in_err-list_event-in-Exhausted.field-0.0) i.go.ready.reads did.nodes tt did.fault
    (rw c.pending.ensures.value at did.does) in
    rw (p.1, p.2) (ends_here _ _ _ _ _ _ _ _ _ refl i.appends i.leaves
    (event_ended _ _ _ _ _ _ _ c.in_ok-event.event c.next.new.self.way _ _ _ _ _ _ last.0 turn.0 turn.1 runs))

pub returns-in-Exhausted-clause-does : goal.returns-in-Exhausted-clause-does
returns-in-Exhausted-clause-does g c =
    let i = c.parts.invariant in
    let turn = turn_of c.parts.matcher c.next.new.self _ _ _ _ _ c.in_ok-event.event i.follows c.in_ok-event.ensures.same c.in_ok-event.ensures.ok
    c.in_ok-event.ensures.counts in
    let last = last_told c.in_ok-event.event c.in-Exhausted.is in
    let did = c.in_ok-list_event-in-Exhausted.ensures in
    let runs = performs_runs _ _ _ _ (g.W.Sink.drain c.parts.writer) _ (Ok tt) i.go.ready.reads did.nodes did.sound (λ e. absurd (cc e))
    (rw c.pending.ensures.value at did.does) in
    let told = c.in_ok-event.ensures.ok in
    let grows = told.grows i.follows.ended in
    let over = told.stops (rw last.1 refl) in
    let same = ap length (c.in_ok-event.ensures.same.trace ∙ trace_followed c.parts.matcher _ _ _ _ _ i.follows) in
    let all : length (trace (tree c.args.matcher.now.nodes c.args.matcher.now.pattern.0) c.args.subject.now c.args.matcher.now.anchored c.args.matcher.now.limit (given_to c.parts.matcher))
    ≤ suc c.parts.matcher.told = omega arith in
    done_here _ _ _ _ _ _ _ _ refl i.appends i.leaves (event_then _ _ _ _ _ _ _ c.in_ok-event.event c.next.new.self.way _ _ _ _ _ _ _ _ last.0 turn.0 turn.1 runs
    (events_over c.args.program.now (tree c.args.matcher.now.nodes c.args.matcher.now.pattern.0) c.args.subject.now c.args.matcher.now.anchored c.args.matcher.now.limit _
    (given_to c.parts.matcher) _ _ runs.ready all))

pub returns-in-Exhausted-clause-line : goal.returns-in-Exhausted-clause-line
returns-in-Exhausted-clause-line g c =
    let i = c.parts.invariant in
    let last = last_told c.in_ok-event.event c.in-Exhausted.is in
    let more = told_more c.parts.matcher c.next.new.self c.in_ok-event.event c.in_ok-event.ensures.same c.in_ok-event.ensures.ok i.follows.ended in
    record {
      search = c.next.new.self;
      after_is = refl;
      parts = i.parts;
      deferred = i.deferred;
      line = in_trace c.in_ok-event.event c.next.new.self.way;
      has_line = not_deferred c.in_ok-event.event c.next.new.self.way last.0;
      told = told_behind (told_of c.args.matcher.now) i.parts _ _ _ i.told more;
      few = few_events c.next.new.self _ c.in_ok-event.ensures.counts (c.in_ok-event.ensures.same.limit ∙ i.follows.limit);
    }

pub returns-in_err-list_event-in_default-clause-does : goal.returns-in_err-list_event-in_default-clause-does
returns-in_err-list_event-in_default-clause-does g c =
    let p = err_from_is_err_and c.from_residual-in_err-list_event-in_default.result c.from_residual-in_err-list_event-in_default.ensures.1 in
    let i = c.parts.invariant in
    let turn = turn_of c.parts.matcher c.next.new.self _ _ _ _ _ c.in_ok-event.event i.follows c.in_ok-event.ensures.same c.in_ok-event.ensures.ok
    c.in_ok-event.ensures.counts in
    let on = line_told c.in_ok-event.event c.in_default.not-Value c.in_default.not-Exhausted c.in_default.not-Aborted c.in_default.not-Limit in
    let did = c.in_err-list_event-in_default.ensures in
    let runs = performs_runs _ _ _ _ (g.W.Sink.drain c.parts.writer) _ (Err c.in_err-list_event-in_default.field-0.0) i.go.ready.reads did.nodes tt did.fault
    (rw c.pending-in_default.ensures.value at did.does) in
    rw (p.1, p.2) (ends_here _ _ _ _ _ _ _ _ _ refl i.appends i.leaves
    (event_ended _ _ _ _ _ _ _ c.in_ok-event.event c.next.new.self.way _ _ _ _ _ _ on.0 turn.0 turn.1 runs))

pub returns-in_default-clause-does : goal.returns-in_default-clause-does
returns-in_default-clause-does g c =
    let i = c.parts.invariant in
    let turn = turn_of c.parts.matcher c.next.new.self _ _ _ _ _ c.in_ok-event.event i.follows c.in_ok-event.ensures.same c.in_ok-event.ensures.ok
    c.in_ok-event.ensures.counts in
    let on = line_told c.in_ok-event.event c.in_default.not-Value c.in_default.not-Exhausted c.in_default.not-Aborted c.in_default.not-Limit in
    let did = c.in_ok-list_event-in_default.ensures in
    let runs = performs_runs _ _ _ _ (g.W.Sink.drain c.parts.writer) _ (Ok tt) i.go.ready.reads did.nodes did.sound (λ e. absurd (cc e))
    (rw c.pending-in_default.ensures.value at did.does) in
    let told = c.in_ok-event.ensures.ok in
    let grows = told.grows i.follows.ended in
    let table = c.in_ok-event.ensures.table ∙ c.patterns.ensures in
    let next : c.next.new.self.told ≡ suc c.parts.matcher.told = omega arith in
    let given = given_same c.parts.matcher c.next.new.self _ i.follows.nodes table c.in_ok-event.ensures.same in
    let follows = follows_on c.parts.matcher c.next.new.self _ _ _ _ _ c.in_ok-event.event i.follows table c.in_ok-event.ensures.same told on.1 in
    let left = leaves_then _ _ _ i.front runs.wrote i.leaves (event_left _ _ _ _ _ _ _ c.in_ok-event.event c.next.new.self.way _ _ _ _ _ on.0 turn refl runs) in (
      i.front ++ runs.wrote,
      appends_then _ _ _ i.front runs.wrote i.appends runs.appends,
      rest_left _ c.args.program.now c.next.new.self _ _ _ _ _ _ _ _ _ follows given next left,
    )

pub returns-in_default-clause-line : goal.returns-in_default-clause-line
returns-in_default-clause-line g c =
    let i = c.parts.invariant in
    let on = line_told c.in_ok-event.event c.in_default.not-Value c.in_default.not-Exhausted c.in_default.not-Aborted c.in_default.not-Limit in
    let more = told_more c.parts.matcher c.next.new.self c.in_ok-event.event c.in_ok-event.ensures.same c.in_ok-event.ensures.ok i.follows.ended in
    record {
      search = c.next.new.self;
      after_is = refl;
      parts = i.parts;
      deferred = i.deferred;
      line = in_trace c.in_ok-event.event c.next.new.self.way;
      has_line = not_deferred c.in_ok-event.event c.next.new.self.way on.0;
      told = told_behind (told_of c.args.matcher.now) i.parts _ _ _ i.told more;
      few = few_events c.next.new.self _ c.in_ok-event.ensures.counts (c.in_ok-event.ensures.same.limit ∙ i.follows.limit);
    }
