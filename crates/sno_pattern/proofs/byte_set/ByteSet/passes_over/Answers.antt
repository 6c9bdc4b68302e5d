use Rattle.std.proofs.Common.{sym, ◌∙◌}
use Rattle.std.specs.Cmp.Lexicographic.{same_text}
use Rattle.sno_pattern.proofs.PresentLaws.{none-inside, none-outside}
use Rattle.sno_pattern.proofs.byte_set.ByteSet.passes_over.Goals as goal

pub returns-then-inside : goal.returns-then-inside
returns-then-inside c = λ same.
    rw (c.if-inside.true, ← c.self.view_is) (none-inside c.args.mask.now c.self.inside.words (same_text _ _ (sym same ∙ c.eq.ensures)))

pub returns-else-inside : goal.returns-else-inside
returns-else-inside c = λ same.
    rw (c.if-inside.false, ← c.self.view_is)
    (none-outside c.args.mask.now c.self.inside.words (same_text _ _ (sym same ∙ c.eq-else-inside.ensures)))
