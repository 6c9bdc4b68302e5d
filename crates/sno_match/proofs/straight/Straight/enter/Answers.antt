use Rattle.std.proofs.Common.{arith, refl, sym, subst}
use Rattle.sno_pattern.specs.Table.{tree}
use Rattle.sno_match.specs.inner.Starts.{GivesWay}
use Rattle.sno_match.proofs.StartLaws.{alt_gives_way}
use Rattle.sno_match.proofs.StraightLaws.{put_meets, end_meets, cat_step, cond_step, way_step}
use Rattle.sno_match.proofs.straight.Straight.enter.Goals as goal

pub returns-in-Ends-clause-meets : goal.returns-in-Ends-clause-meets
returns-in-Ends-clause-meets c =
    end_meets c.args.patterns.now c.args.subject.now c.args.id c.args.left _ _ _ _ _ c.take_end.ensures c.in-Ends.ensures.0 c.in-Ends.ensures.1
    c.in-Ends.ensures.2 c.requires.pattern (omega (arith, c.requires.some)) c.requires.inside

pub returns-else-not-has_one_end-clause-meets : goal.returns-else-not-has_one_end-clause-meets
returns-else-not-has_one_end-clause-meets c =
    let shape = rw c.in-Primitive.is at c.in-Other.ensures in
    let last = c.has_one_end.ensures c.if-not-has_one_end.false c.args.subject.now c.args.self.now.cursor in
    end_meets c.args.patterns.now c.args.subject.now c.args.id c.args.left _ _ _ _ _ c.take_end-in-Primitive.ensures shape
    (sym c.look-end.ensures.value) last c.requires.pattern (omega (arith, c.requires.some)) c.requires.inside

pub returns-in-Cat-clause-meets : goal.returns-in-Cat-clause-meets
returns-in-Cat-clause-meets c =
    let shape = rw c.in-Cat.is at c.in-Other.ensures in
    put_meets c.args.patterns.now c.args.subject.now c.args.id c.args.left _ _ _ _ _ c.put_two.ensures (omega (arith, c.requires.some)) c.requires.inside
    (λ small. cat_step c.args.patterns.now c.args.subject.now c.args.id c.in-Cat.first c.in-Cat.second c.args.self.now.cursor c.requires.pattern
    c.requires.known shape.0 shape.1 shape.2)

pub returns-in-Cond-clause-meets : goal.returns-in-Cond-clause-meets
returns-in-Cond-clause-meets c =
    let shape = rw c.in-Cond.is at c.in-Other.ensures in
    put_meets c.args.patterns.now c.args.subject.now c.args.id c.args.left _ _ _ _ _ c.put_two-in-Cond.ensures (omega (arith, c.requires.some))
    c.requires.inside
    (λ small. cond_step c.args.patterns.now c.args.subject.now c.args.id c.in-Cond.part _ c.in-Cond._target c.args.self.now.cursor c.requires.pattern
    c.requires.known shape.0 refl shape.1)

pub returns-then-rest-gt0-clause-meets : goal.returns-then-rest-gt0-clause-meets
returns-then-rest-gt0-clause-meets c =
    let rest = c.sides_in_vain-rest in
    put_meets c.args.patterns.now c.args.subject.now c.args.id c.args.left _ _ _ _ _ c.put.ensures rest.ensures.near c.requires.inside
    (λ small. way_step c.args.patterns.now c.args.subject.now c.args.id rest.result.id c.args.self.now.cursor rest.result.steps c.requires.pattern
    rest.ensures.known (small rest.result.id refl) rest.ensures.gives_way)

pub returns-else-not-is_missed-clause-meets : goal.returns-else-not-is_missed-clause-meets
returns-else-not-is_missed-clause-meets c =
    let nodes = c.args.patterns.now in
    let s = c.args.subject.now in
    let shape = rw c.in-Alt.is at c.in-Other.ensures in
    let first = tree nodes c.in-Alt.first.0 in
    let second = tree nodes c.in-Alt.second.0 in
    let vain = c.is_missed.ensures c.if-not-is_missed.false in
    let way = subst (λ q. GivesWay q second s 3 c.args.self.now.cursor) (sym shape.2) (alt_gives_way first second s 1 c.args.self.now.cursor vain) in
    put_meets nodes s c.args.id c.args.left _ _ _ _ _ c.put-in-Alt.ensures (omega (arith, c.requires.some)) c.requires.inside
    (λ small. way_step nodes s c.args.id c.in-Alt.second c.args.self.now.cursor 3 c.requires.pattern
    (omega (arith, shape.1, c.requires.known)) (small c.in-Alt.second refl) way)
