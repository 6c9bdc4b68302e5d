use Rattle.std.proofs.Common.{sym, ◌∙◌, arith}
use Rattle.sno_pattern.proofs.PresentLaws.{block-passed, blocks-passed, not-found}
use Rattle.sno_pattern.proofs.present.Present.cursor_near.Goals as goal

pub returns-clause-passed : goal.returns-clause-passed
returns-clause-passed c =
    let s = c.args.subject.now in
    let near = block-passed c.args.inside c.args.set.now s c.args.at c.min-end.result (omega (arith, c.min-end.ensures))
    (not-found _ _ c.first_that_passes.ensures (sym c.is_some.ensures ∙ c.if-is_some.false)) in
    blocks-passed c.args.inside c.args.set.now s c.args.at c.min-end.result c.part_near-part.result c.max-cursor.result near
    (c.part_near-part.ensures s c.requires.present) (omega (arith, c.min-end.ensures, c.min.ensures, c.max-cursor.ensures))
    (omega (arith, c.saturating_mul.ensures, c.min.ensures, c.max-cursor.ensures))
