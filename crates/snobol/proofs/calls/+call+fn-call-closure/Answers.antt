use Rattle.std.proofs.Common.{◌≡◌, ℕ, List, Result, Ok, Err, Some, true, map, subst}
use Rattle.sno_value.specs.declared.value.Value.{Value as Stored}
use Rattle.sno_store.specs.Definitions.{Definition}
use Rattle.sno_store.specs.Functions.{definition_at}
use Rattle.sno_runtime.specs.declared.stops.Exit.{Exit}
use Rattle.sno_runtime.specs.Runtime.{Runtime}
use Rattle.sno_runtime.specs.inner.Calls.{Enters}
use Rattle.std.proofs.lemmas.Result.{err_from_is_err_and}
use Rattle.sno_runtime.specs.Values.{shown}
use Rattle.sno_statement.specs.Running.{devices}
use Rattle.snobol.proofs.CallLaws.{call_runs, call_failed, call_ended, not_begun, call_refused}
use Rattle.snobol.proofs.calls.+call+fn-call-closure.Goals as goal

-- what is kept of the entry changes nothing that a call sees
begun_behind : (function : ℕ) (d : Definition) (xs : List Stored) (a b c : Runtime) (r : Result Unit Exit) → b ≡ a
    → definition_at a.store.functions function ≡ Some d
    → (definition_at b.store.functions function ≡ Some d → Enters function d (map (shown b.nodes) xs) b c r)
    → Enters function d (map (shown a.nodes) xs) a c r
begun_behind function d xs a b c r same has did =
    subst (λ (s : Runtime). definition_at s.store.functions function ≡ Some d → Enters function d (map (shown s.nodes) xs) s c r) same did has

pub returns-in_err-entry : goal.returns-in_err-entry
returns-in_err-entry g t c =
    let p = err_from_is_err_and c.from_residual.result c.from_residual.ensures.1 in
    rw (p.1, p.2, c.in_err-entry.ensures.same) (call_refused c.args.code.now c.args.function.0
    (map (shown c.args.runtime.now.nodes) c.args.arguments.now) c.args.runtime.now
    (devices (g.R.Source.feed c.args.reader.now) (g.W.Sink.drain c.args.writer.now))
    c.in_err-entry.field-0.0 c.requires.ready c.requires.level c.in_err-entry.ensures.refused)

pub returns-in_err-enter : goal.returns-in_err-enter
returns-in_err-enter g t c =
    let p = err_from_is_err_and c.from_residual-in_err-enter.result c.from_residual-in_err-enter.ensures.1 in
    let e = c.in_ok-entry.ensures.entry in
    let begun = begun_behind c.args.function.0 e.0 c.args.arguments.now c.args.runtime.now c.entry_of.new.runtime c.enter.new.self
    (Err c.in_err-enter.field-0.0) c.in_ok-entry.ensures.same e.1 (c.in_err-enter.ensures e.0) in
    rw (p.1, p.2) (not_begun c.args.code.now c.args.function.0 e.0 (map (shown c.args.runtime.now.nodes) c.args.arguments.now)
    c.args.runtime.now c.enter.new.self
    (devices (g.R.Source.feed c.args.reader.now) (g.W.Sink.drain c.args.writer.now))
    c.in_err-enter.field-0.0 c.requires.ready c.in_ok-entry.ensures.room begun)

pub returns-in_err-success : goal.returns-in_err-success
returns-in_err-success g t c =
    let p = err_from_is_err_and c.from_residual-in_err-success.result c.from_residual-in_err-success.ensures.1 in
    let e = c.in_ok-entry.ensures.entry in
    let begun = begun_behind c.args.function.0 e.0 c.args.arguments.now c.args.runtime.now c.entry_of.new.runtime c.enter.new.self
    (Ok tt) c.in_ok-entry.ensures.same e.1 (c.in_ok-enter.ensures e.0) in
    rw (p.1, p.2) (call_ended c.args.code.now c.args.function.0 c.in_ok-entry.entry e.0 (map (shown c.args.runtime.now.nodes) c.args.arguments.now)
    c.args.runtime.now c.enter.new.self
    begun e.1 e.2 c.level-level.result c.chain.new.runtime
    (devices (g.R.Source.feed c.args.reader.now) (g.W.Sink.drain c.args.writer.now))
    (devices (g.R.Source.feed c.chain.new.reader) (g.W.Sink.drain c.chain.new.writer))
    c.in_err-success.field-0.0 (rw c.store.ensures at c.level-level.ensures.value) c.in_err-success.ensures.halts c.in_err-success.ensures.does)

pub returns-then-not-success : goal.returns-then-not-success
returns-then-not-success g t c =
    let e = c.in_ok-entry.ensures.entry in
    let begun = begun_behind c.args.function.0 e.0 c.args.arguments.now c.args.runtime.now c.entry_of.new.runtime c.enter.new.self
    (Ok tt) c.in_ok-entry.ensures.same e.1 (c.in_ok-enter.ensures e.0) in
    call_failed c.args.code.now c.args.function.0 c.in_ok-entry.entry e.0 (map (shown c.args.runtime.now.nodes) c.args.arguments.now)
    c.args.runtime.now c.enter.new.self
    begun e.1 e.2 c.level-level.result c.chain.new.runtime c.leave_failed.new.runtime
    (devices (g.R.Source.feed c.args.reader.now) (g.W.Sink.drain c.args.writer.now))
    (devices (g.R.Source.feed c.chain.new.reader) (g.W.Sink.drain c.chain.new.writer))
    (rw c.store.ensures at c.level-level.ensures.value) (rw c.if-not-success.true at c.in_ok-success.ensures.does)
    (rw c.statement-statement.ensures at c.leave_failed.ensures)

pub returns : goal.returns
returns g t c =
    let e = c.in_ok-entry.ensures.entry in
    let begun = begun_behind c.args.function.0 e.0 c.args.arguments.now c.args.runtime.now c.entry_of.new.runtime c.enter.new.self
    (Ok tt) c.in_ok-entry.ensures.same e.1 (c.in_ok-enter.ensures e.0) in
    call_runs c.args.code.now c.args.function.0 c.in_ok-entry.entry e.0 (map (shown c.args.runtime.now.nodes) c.args.arguments.now)
    c.args.runtime.now c.enter.new.self
    begun e.1 e.2 c.level-level.result c.chain.new.runtime c.leave-value.new.self
    c.leave-value.result true
    (devices (g.R.Source.feed c.args.reader.now) (g.W.Sink.drain c.args.writer.now))
    (devices (g.R.Source.feed c.chain.new.reader) (g.W.Sink.drain c.chain.new.writer))
    (rw c.store.ensures at c.level-level.ensures.value) (rw c.if-not-success.false at c.in_ok-success.ensures.does)
    (rw c.statement-statement.ensures at c.leave-value.ensures)
