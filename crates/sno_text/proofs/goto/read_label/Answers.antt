use Rattle.std.proofs.Common.{◌≡◌, ◌||◌, true, false, refl, sym, ap, ◌∙◌}
use Rattle.sno_text.specs.Bytes.{byte, is_letter, is_digit}
use Rattle.sno_text.proofs.Targets.{is_label}
use Rattle.sno_text.proofs.goto.read_label.Goals.{then-is_in, else-is_in}
use Rattle.sno_text.proofs.goto.read_label.Goals as goal

pub returns-then-is_in-2 : goal.returns-then-is_in-2
returns-then-is_in-2 c =
    let first : (is_letter (byte c.args.text.now c.args.from) || is_digit (byte c.args.text.now c.args.from)) ≡ true =
    elim c.if-is_in.branch [
      | then-is_in w ↦ let l : is_letter (byte c.args.text.now c.args.from) ≡ true = sym (ap is_letter c.byte_at-first.ensures) ∙ sym c.is_in.ensures
          ∙ w.if-is_in.true in rw l refl
      | else-is_in w ↦
          let l : is_letter (byte c.args.text.now c.args.from) ≡ false = sym (ap is_letter c.byte_at-first.ensures) ∙ sym c.is_in.ensures ∙ w.if-is_in.false in
          let d : is_digit (byte c.args.text.now c.args.from) ≡ true = sym (ap is_digit c.byte_at-first.ensures) ∙ sym w.is_in-else-is_in.ensures
          ∙ sym w.value-is ∙ c.if-is_in-2.true in
          rw (l, d) refl
    ] in
    let found = is_label c.args.text.now c.args.from c.run_end-end.result first c.run_end-end.ensures.run in
    (refl, found.0, found.1, c.run_end-end.ensures.within)
