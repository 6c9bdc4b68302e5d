use Rattle.std.proofs.Common.{◌≡◌, ◌∙◌, sym, arith, refl}
use Rattle.sno_text.proofs.Tables.{extends_none}
use Rattle.sno_text.specs.Bytes.{byte}
use Rattle.sno_text.proofs.Steps.{byte_within}
use Rattle.sno_text.proofs.Targets.{gives_target, lacks_closing}
use Rattle.sno_text.proofs.goto.read_target.Goals as goal

pub returns-then-byte_at-ne41-clause-read : goal.returns-then-byte_at-ne41-clause-read
returns-then-byte_at-ne41-clause-read c =
    lacks_closing _ _ _ _ _ _ c.in-Some.found c.run_end-start.ensures.run (rw c.in-Some.is at c.in_ok-found.ensures.read) c.run_end-end.ensures.run
    (λ e. c.if-byte_at-ne41.true (c.byte_at-2.ensures ∙ e))

pub returns-clause-read : goal.returns-clause-read
returns-clause-read c =
    let opened : byte c.args.text.now c.args.from ≡ 40 = sym c.byte_at.ensures ∙ c.if-byte_at-ne40.false in
    let closed : byte c.args.text.now c.run_end-end.result ≡ 41 = sym c.byte_at-2.ensures ∙ c.if-byte_at-ne41.false in
    gives_target _ _ _ _ _ _ c.in-Some.found opened c.run_end-start.ensures.run (rw c.in-Some.is at c.in_ok-found.ensures.read) c.run_end-end.ensures.run closed
    (byte_within _ _ 41 closed (omega arith))

pub returns-then-byte_at-ne40-clause-extends : goal.returns-then-byte_at-ne40-clause-extends
returns-then-byte_at-ne40-clause-extends c = extends_none _ _ _ refl
