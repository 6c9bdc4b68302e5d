use Rattle.std.proofs.Common.{◌≡◌, ◌∙◌, ap, length, refl, codes, Result, Ok, Err}
use Rattle.sno_runtime.specs.declared.stops.Stop.{Stop}
use Rattle.sno_runtime.specs.declared.stops.Stop.TheVariants.{WriteFault}
use Rattle.sno_runtime.specs.World.{listing_keywords}
use Rattle.sno_statement.proofs.RunningLaws.{performs_runs}
use Rattle.snobol.proofs.EnumerationLaws.{new_closed, new_runs, built_listed, failed_listed, stopped_listed, line_put, line_cut, listed_as, fault_told}
use Rattle.snobol.proofs.enumeration.list_from.Goals as goal

told_is_no_fault : ◌≡◌ {A = Result (Unit {0}) Stop} (Ok tt) (Err WriteFault) → ⊥
told_is_no_fault e = cc e

pub pattern_of-requires : goal.pattern_of-requires
pattern_of-requires g c =
    let start = c.requires.start in
    record {
      level = ap length (new_closed c.args.runtime.now (listing_keywords c.args.anchored 1_000_000 c.args.limit) start);
      ready = new_runs c.args.runtime.now (listing_keywords c.args.anchored 1_000_000 c.args.limit) _ start refl c.requires.sound;
    }

pub list_ways-requires-clause-within : goal.list_ways-requires-clause-within
list_ways-requires-clause-within g c =
    let start = c.requires.start in
    let did = rw c.in-Ok.is at c.pattern_of.ensures in
    record { level = ap length (did.calls ∙ new_closed c.args.runtime.now (listing_keywords c.args.anchored 1_000_000 c.args.limit) start); ready = did.ready }

pub list_ways-requires-clause-pattern : goal.list_ways-requires-clause-pattern
list_ways-requires-clause-pattern g c =
    let start = c.requires.start in
    let did = rw c.in-Ok.is at (c.pattern_of.ensures) in
    did.answer

pub put-requires : goal.put-requires
put-requires g c =
    let start = c.requires.start in
    let did = rw (c.in-Err-Failure.is, c.in-Err-Failure.field-0-is) at (c.pattern_of.ensures) in
    did.ready.writes

pub returns-in-Ok-clause-listing : goal.returns-in-Ok-clause-listing
returns-in-Ok-clause-listing g c =
    let start = c.requires.start in
    let did = c.pattern_of.ensures in
    let made = rw (c.in-Ok.is, start) at did in
    listed_as _ _ _ _ _ _ _ _ _ c.requires.subject refl (built_listed c.args.code.now c.args.expression c.args.subject.now c.args.anchored c.args.limit _ _ _
    _ _ _ c.in-Ok.pattern _ made c.list_ways.ensures)

pub returns-in-Ok-clause-fault : goal.returns-in-Ok-clause-fault
returns-in-Ok-clause-fault g c = fault_told c.list_ways.result _ c.list_ways.ensures.cause

pub returns-in-Err-clause-listing : goal.returns-in-Err-clause-listing
returns-in-Err-clause-listing g c =
    let start = c.requires.start in
    let did = c.pattern_of.ensures in
    let failed = rw (c.in-Err-Failure.is, c.in-Err-Failure.field-0-is, start) at did in
    let cut = c.in-Err.ensures.bytes in
    let line = performs_runs _ _ _ _ (g.W.Sink.drain c.pattern_of.new.writer) _ (Err WriteFault) failed.ready.reads refl tt (λ e. c.in-Err.ensures.fault)
    (line_cut (codes "exhausted\n") cut.0 c.pattern_of.new.runtime _ _ cut.1 cut.2) in
    listed_as _ _ _ _ _ _ _ _ _ c.requires.subject refl (failed_listed c.args.code.now c.args.expression c.args.subject.now c.args.anchored c.args.limit
    _ _ _ _ _ _ _ failed line)

pub returns-in_default-clause-listing : goal.returns-in_default-clause-listing
returns-in_default-clause-listing g c =
    let start = c.requires.start in
    let did = c.pattern_of.ensures in
    let failed = rw (c.in-Err-Failure.is, c.in-Err-Failure.field-0-is, start) at did in
    let put = c.in_default.ensures in
    let line = performs_runs _ _ _ _ (g.W.Sink.drain c.pattern_of.new.writer) _ (Ok tt) failed.ready.reads refl put.sound (λ e. absurd (told_is_no_fault e))
    (line_put (codes "exhausted\n") c.pattern_of.new.runtime _ _ put.bytes) in
    listed_as _ _ _ _ _ _ _ _ _ c.requires.subject refl (failed_listed c.args.code.now c.args.expression c.args.subject.now c.args.anchored c.args.limit
    _ _ _ _ _ _ _ failed line)

pub returns-in-Err-Halt-clause-listing : goal.returns-in-Err-Halt-clause-listing
returns-in-Err-Halt-clause-listing g c =
    let start = c.requires.start in
    let did = c.pattern_of.ensures in
    let stopped = rw (c.in-Err-Halt.is, c.in-Err-Halt.field-0-is, start) at did in
    rw c.in-Err-Halt.field-0-is
    (listed_as _ _ _ _ _ _ _ _ _ c.requires.subject refl
    (stopped_listed c.args.code.now c.args.expression c.args.subject.now c.args.anchored c.args.limit _ _ _ _ c.in-Err-Halt.stop stopped))
