use Rattle.std.proofs.Common.{◌≡◌, ◌+◌, ◌-◌, ◌≤◌, ◌<◌, ◌∙◌, ap, sym, rules, arith, length, Fits, w32, slice_range}
use Rattle.sno_value.specs.inner.Text.{bytes_of, IsHeld}
use Rattle.sno_value.proofs.Texts.{part_of_part, length_of_part}
use Rattle.sno_value.proofs.text.Text.part.Goals as goal

pub overflow_cast-result : goal.overflow_cast-result
overflow_cast-result c =
    let held = rw c.in-Shared.is at c.self.invariant in
    let is = sym c.self.view_is ∙ ap bytes_of c.in-Shared.is in
    let long = ap length is ∙ length_of_part _ _ _ held.0 held.1 in
    let order = c.requires.order in
    let within = c.requires.within in
    omega (arith, held.0, held.1, held.2, long, order, within)

pub overflow_cast-result-2 : goal.overflow_cast-result-2
overflow_cast-result-2 c =
    let held = rw c.in-Shared.is at c.self.invariant in
    let is = sym c.self.view_is ∙ ap bytes_of c.in-Shared.is in
    let long = ap length is ∙ length_of_part _ _ _ held.0 held.1 in
    let order = c.requires.order in
    let within = c.requires.within in
    omega (arith, held.0, held.1, held.2, long, order, within)

pub returns : goal.returns
returns c =
    let held = rw c.in-Shared.is at c.self.invariant in
    let is = sym c.self.view_is ∙ ap bytes_of c.in-Shared.is in
    let long = ap length is ∙ length_of_part _ _ _ held.0 held.1 in
    let within = c.requires.within in
    rw (c.in_ok-clone.ensures.cases, is) (part_of_part _ _ _ _ _ c.requires.order (omega (arith, long, within)))
