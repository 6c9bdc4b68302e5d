use Rattle.std.proofs.Common.{◌≡◌, ◌+◌, ◌<◌, refl, sym, ap, ◌∙◌, arith, length, take, drop}
use Rattle.std.proofs.lemmas.Bool.{eqb-false}
use Rattle.sno_io.specs.inner.Held.{held_in}
use Rattle.sno_io.proofs.FirstLines.{too_long}
use Rattle.sno_io.proofs.Readings.{handed}
use Rattle.sno_io.proofs.lines.Lines.take_line.Goals as goal

pub returns-then-len-gt-LONGEST_LINE-clause-line : goal.returns-then-len-gt-LONGEST_LINE-clause-line
returns-then-len-gt-LONGEST_LINE-clause-line c = λ more nothing. (refl, too_long 1000000 c.args.self.now.held more (omega arith))

pub returns-clause-line : goal.returns-clause-line
returns-clause-line c =
    let reading = c.args.self.now in
    let held : held_in c.self.inside.buffer ≡ reading.held = ap (λ r. r.held) c.self.view_is in
    let filled : length c.held.result.now ≡ 0 → ⊥ = eqb-false (length c.held.result.now) 0 (sym c.if-is_empty.ensures) in
    let size : length c.held.result.now ≡ length reading.held = ap length (c.held.ensures ∙ held) in
    let some : 0 < length reading.held = omega arith in
    λ more nothing. handed reading c.in_ok-line.line.items (held_in c.consume.new.self) more c.args.len c.requires.len c.requires.settled
    c.if-len-gt-LONGEST_LINE.false some
    (c.in_ok-line.ensures.items ∙ ap (take c.args.len) (c.held-2.ensures ∙ held))
    (c.consume.ensures ∙ ap (drop (c.args.len + 1)) held)
    nothing
