use Rattle.std.proofs.Common.{refl, Ok, Err}
use Rattle.std.proofs.lemmas.Result.{err_from_is_err_and}
use Rattle.sno_pattern.specs.Table.{tree}
use Rattle.sno_match.specs.Direct.{pending_of}
use Rattle.sno_runtime.specs.Keywords.{is_anchored}
use Rattle.sno_statement.proofs.MatchLaws.{direct_found, direct_stopped, direct_vain}
use Rattle.sno_statement.proofs.RunningLaws.{performs_runs}
use Rattle.sno_statement.proofs.matching.found_span.Goals as goal

pub returns-in_err-perform_pending-in-Way : goal.returns-in_err-perform_pending-in-Way
returns-in_err-perform_pending-in-Way g c = λ program call f ready.
    let p = err_from_is_err_and c.from_residual.result c.from_residual.ensures.1 in
    let s = c.args.runtime.now in
    let way = c.finds_directly.new.way in
    let same = c.finds_directly.ensures.same in
    let did = c.in_err-perform_pending-in-Way.ensures in
    let runs = performs_runs _ _ _ f (g.W.Sink.drain c.args.writer.now) _ (Err c.in_err-perform_pending-in-Way.field-0.0) ready (rw same at did.nodes) tt did.fault
    (rw (same, c.pending.ensures) at did.does) in
    rw (p.1, p.2)
    (direct_stopped program call (tree s.nodes c.args.pattern.0) c.args.text.now s way.start way.end (pending_of way) _ _ _ _
    (c.in-Way.ensures.first refl) runs)

pub returns-in_ok-perform_pending-in-Way : goal.returns-in_ok-perform_pending-in-Way
returns-in_ok-perform_pending-in-Way g c = λ program call f ready.
    let s = c.args.runtime.now in
    let way = c.finds_directly.new.way in
    let same = c.finds_directly.ensures.same in
    let found = c.in-Way.ensures in
    let did = c.in_ok-perform_pending-in-Way.ensures in
    let runs = performs_runs _ _ _ f (g.W.Sink.drain c.args.writer.now) _ (Ok tt) ready (rw same at did.nodes) did.sound (λ e. absurd (cc e))
    (rw (same, c.pending.ensures) at did.does) in
    direct_found program call (tree s.nodes c.args.pattern.0) c.args.text.now s way.start way.end (pending_of way) _ _ _
    (found.first refl) (found.within refl) runs

pub returns-in-Vain : goal.returns-in-Vain
returns-in-Vain g c = λ program call f ready.
    let s = c.args.runtime.now in
    rw c.finds_directly.ensures.same
    (direct_vain program call (tree s.nodes c.args.pattern.0) c.args.text.now s _ (record { reads = ready; writes = c.requires.sound })
    (c.in-Vain.ensures.vain refl))
