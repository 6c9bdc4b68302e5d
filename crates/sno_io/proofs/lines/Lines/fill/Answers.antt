use Rattle.std.proofs.Common.{◌≡◌, ◌≤◌, ◌++◌, arith, ◌∙◌, refl, sym, subst, ap}
use Rattle.sno_io.specs.inner.Held.{held_in}
use Rattle.sno_io.specs.Lines.{line_length}
use Rattle.sno_io.proofs.FirstLines.{line_length-grows, line_length-le}
use Rattle.sno_io.proofs.Readings.{joins_more, still_open}
use Rattle.sno_io.proofs.lines.Lines.fill.Goals as goal

pub wants_more-requires : goal.wants_more-requires
wants_more-requires g c = omega (arith, line_length-le c.reads.self.held)

pub returns-in_err-count-clause-unasked : goal.returns-in_err-count-clause-unasked
returns-in_err-count-clause-unasked g c = λ asked.
    let wants = c.reads-test.ensures.wants refl in
    let known = c.reads.invariant in
    absurd (still_open _ _ c.args.self.now c.reads.self known.given (sym known.len_is ∙ wants.0) wants.2 asked)

pub line_end-len-requires-in-reads : goal.line_end-len-requires-in-reads
line_end-len-requires-in-reads g c =
    let given = c.in_ok-count.ensures.given in
    let held : held_in c.self-in-reads.inside.buffer ≡ c.reads.self.held = ap (λ r. r.held) c.self-in-reads.view_is in
    let now : c.held-in-reads.result.now ≡ c.reads.self.held ++ given.0 = c.held-in-reads.ensures ∙ given.2 ∙ ap (λ zs. zs ++ given.0) held in
    subst (λ zs. c.reads.len ≤ line_length zs) (sym now) (omega (arith, line_length-grows c.reads.self.held given.0))

pub reads-preserved : goal.reads-preserved
reads-preserved g c =
    let given = c.in_ok-count.ensures.given in
    let wants = c.reads-test.ensures.wants refl in
    let known = c.reads.invariant in
    let held : held_in c.self-in-reads.inside.buffer ≡ c.reads.self.held = ap (λ r. r.held) c.self-in-reads.view_is in
    record {
      len_is = c.line_end-len-in-reads.ensures ∙ ap line_length c.held-in-reads.ensures;
      given = joins_more _ _ _ c.args.self.now c.reads.self _ known.given wants.2 given.0 given.1 (given.2 ∙ ap (λ zs. zs ++ given.0) held);
      unasked = λ asked. absurd (still_open _ _ c.args.self.now c.reads.self known.given (sym known.len_is ∙ wants.0) wants.2 asked);
      stopped = ap (λ r. r.stopped) c.self-in-reads.view_is ∙ known.stopped;
      sound = c.in_ok-count.ensures.sound;
      same = λ t. c.in_ok-count.ensures.end ∙ t;
    }
