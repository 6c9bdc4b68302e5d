use Rattle.std.proofs.Common.{◌≡◌, ◌∙◌, ap, refl, codes, [], List, Ok, Err, Result}
use Rattle.std.proofs.lemmas.Result.{err_from_is_err_and}
use Rattle.sno_match.specs.Matching.{begins}
use Rattle.sno_pattern.specs.Table.{Node, tree}
use Rattle.sno_runtime.proofs.Performing.{appends_nothing}
use Rattle.sno_runtime.specs.declared.stops.Stop.{Stop}
use Rattle.sno_runtime.specs.declared.stops.Stop.TheVariants.{WriteFault}
use Rattle.sno_statement.proofs.RunningLaws.{performs_runs}
use Rattle.snobol.proofs.EnumerationLaws.{to_end, failed_listed, stopped_listed, line_put, line_cut, unlisted}
use Rattle.snobol.proofs.LineLaws.{built_left, done_here, ends_here, lists_whole}
use Rattle.snobol.proofs.NextLaws.{first_told}
use Rattle.snobol.proofs.telling.tell_first.Goals as goal

told_is_no_fault : ◌≡◌ {A = Result (Unit {0}) Stop} (Ok tt) (Err WriteFault) → ⊥
told_is_no_fault e = cc e

pub put-requires : goal.put-requires
put-requires g c =
    let did = rw (c.in-Err-Failure.is, c.in-Err-Failure.field-0-is) at c.evaluate_pattern.ensures in
    did.ready.writes

pub returns-in_default-clause-does : goal.returns-in_default-clause-does
returns-in_default-clause-does g c =
    let failed = rw (c.in-Err-Failure.is, c.in-Err-Failure.field-0-is) at c.evaluate_pattern.ensures in
    let put = c.in_default.ensures in
    let line = performs_runs _ _ _ _ (g.W.Sink.drain c.evaluate_pattern.new.writer) _ (Ok tt) failed.ready.reads refl put.sound (λ e. absurd (told_is_no_fault e))
    (line_put (codes "exhausted\n") c.evaluate_pattern.new.runtime _ _ put.bytes) in
    done_here _ _ _ _ _ _ _ _ refl (appends_nothing _) (lists_whole c.args.program.now c.args.expression c.args.subject.now c.args.anchored c.args.limit _ c.requires.subject)
    (failed_listed c.args.program.now c.args.expression c.args.subject.now c.args.anchored c.args.limit _ _ _ _ _ _ _ failed line)

pub returns-in-Err-clause-does : goal.returns-in-Err-clause-does
returns-in-Err-clause-does g c =
    let failed = rw (c.in-Err-Failure.is, c.in-Err-Failure.field-0-is) at c.evaluate_pattern.ensures in
    let cut = c.in-Err.ensures.bytes in
    let line = performs_runs _ _ _ _ (g.W.Sink.drain c.evaluate_pattern.new.writer) _ (Err WriteFault) failed.ready.reads refl tt (λ e. c.in-Err.ensures.fault)
    (line_cut (codes "exhausted\n") cut.0 c.evaluate_pattern.new.runtime _ _ cut.1 cut.2) in
    ends_here _ _ _ _ _ _ _ _ _ refl (appends_nothing _) (lists_whole c.args.program.now c.args.expression c.args.subject.now c.args.anchored c.args.limit _ c.requires.subject)
    (failed_listed c.args.program.now c.args.expression c.args.subject.now c.args.anchored c.args.limit _ _ _ _ _ _ _ failed line)

pub returns-in-Err-Halt-clause-does : goal.returns-in-Err-Halt-clause-does
returns-in-Err-Halt-clause-does g c =
    let stopped = rw (c.in-Err-Halt.is, c.in-Err-Halt.field-0-is) at c.evaluate_pattern.ensures in
    ends_here _ _ _ _ _ _ _ _ _ refl (appends_nothing _) (lists_whole c.args.program.now c.args.expression c.args.subject.now c.args.anchored c.args.limit _ c.requires.subject)
    (stopped_listed c.args.program.now c.args.expression c.args.subject.now c.args.anchored c.args.limit _ _ _ _ c.in-Err-Halt.stop stopped)

pub returns-in_err-matcher-in-Ok-clause-does : goal.returns-in_err-matcher-in-Ok-clause-does
returns-in_err-matcher-in-Ok-clause-does g c =
    let p = err_from_is_err_and c.from_residual.result c.from_residual.ensures.1 in
    let did = rw c.in-Ok.is at c.evaluate_pattern.ensures in
    let act = to_end c.args.program.now (tree c.evaluate_pattern.new.runtime.nodes c.in-Ok.pattern.0) c.args.subject.now c.args.anchored c.args.limit [] 0 in
    rw (p.1, p.2) (ends_here _ act _ _ _ _ _ _ _ refl did.appends
    (built_left c.args.program.now c.args.expression c.args.subject.now c.args.anchored c.args.limit _ _ _ _ c.in-Ok.pattern c.requires.subject refl did)
    (unlisted act _ _ did.ready))

pub returns-in_ok-matcher-in-Ok-clause-does : goal.returns-in_ok-matcher-in-Ok-clause-does
returns-in_ok-matcher-in-Ok-clause-does g c =
    let did = rw c.in-Ok.is at c.evaluate_pattern.ensures in
    first_told c.args.program.now c.args.expression c.args.subject.now c.args.anchored c.args.limit _ _ _ _ c.in-Ok.pattern
    c.in_ok-matcher-in-Ok.matcher c.in_ok-matcher-in-Ok.matcher.records _ _ _ c.requires.subject refl did
    (c.in_ok-matcher-in-Ok.ensures.begins ∙ ap (λ (table : List Node). begins table c.in-Ok.pattern c.args.subject.now c.args.anchored c.args.limit
    c.in_ok-matcher-in-Ok.matcher.records) c.patterns-patterns.ensures) c.tell_line-told.ensures.does
