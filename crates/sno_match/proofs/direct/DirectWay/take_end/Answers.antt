use Rattle.std.proofs.Common.{◌≡◌, ◌≤◌, ◌∙◌, ℕ, List, Some, length, refl, sym}
use Rattle.sno_pattern.specs.Pattern.{Pattern}
use Rattle.sno_pattern.specs.Shape.{end_of}
use Rattle.sno_pattern.proofs.ShapeLaws.{end_of-range}
use Rattle.sno_match.proofs.DirectLaws.{leaf_alone, leaf_first}
use Rattle.sno_match.proofs.direct.DirectWay.take_end.Goals as goal

inside : (p : Pattern) (s : List ℕ) (at end : ℕ) → at ≤ length s → end_of p s at 0 ≡ Some end → end ≤ length s
inside p s at end from is = (end_of-range p s at 0 (Some end) from (sym is)).1

pub returns-in-Some-next-clause-comes : goal.returns-in-Some-next-clause-comes
returns-in-Some-next-clause-comes c = λ p s rest leaf from one two.
    let old = c.args.self.now in
    let end = one ∙ c.in-Some.is in
    leaf_first s p rest c.args.left old leaf (record old { end = c.in-Some.end }) end (inside p s old.end c.in-Some.end from end) refl

pub returns-in-None-clause-comes : goal.returns-in-None-clause-comes
returns-in-None-clause-comes c = λ p s rest leaf from one two.
    let old = c.args.self.now in
    let end = one ∙ c.in-Some.is in
    leaf_alone s p rest c.args.left old leaf (record old { end = c.in-Some.end }) end (two ∙ c.in-None.is) (inside p s old.end c.in-Some.end from end) refl
