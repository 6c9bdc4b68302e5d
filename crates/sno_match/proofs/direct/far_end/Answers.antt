use Rattle.std.proofs.Common.{◌∙◌, refl, sym}
use Rattle.sno_pattern.specs.Table.{tree}
use Rattle.sno_match.proofs.DirectLaws.{leaf_alone, leaf_first}
use Rattle.sno_match.proofs.direct.far_end.Goals as goal

pub returns-then-has_one_end-clause-comes : goal.returns-then-has_one_end-clause-comes
returns-then-has_one_end-clause-comes c = λ rest.
    let s = c.args.subject.now in
    let old = c.args.way.now in
    leaf_alone s (tree c.args.patterns.now c.args.id.0) rest c.args.left old c.requires.primitive (record old { end = c.in-Some.end })
    (sym c.end_at.ensures.value ∙ c.in-Some.is) (c.has_one_end.ensures c.if-has_one_end.true s old.end) c.in-Some.ensures.inside refl

pub returns-else-has_one_end-clause-comes : goal.returns-else-has_one_end-clause-comes
returns-else-has_one_end-clause-comes c = λ rest.
    leaf_first c.args.subject.now (tree c.args.patterns.now c.args.id.0) rest c.args.left c.args.way.now c.requires.primitive
    (record c.args.way.now { end = c.in-Some.end }) (sym c.end_at.ensures.value ∙ c.in-Some.is) c.in-Some.ensures.inside refl
