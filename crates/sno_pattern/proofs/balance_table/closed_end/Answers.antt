use Rattle.sno_pattern.proofs.HopLaws.{IsHop-first, IsHop-next, IsHop-open}
use Rattle.std.proofs.Common.{refl, arith}
use Rattle.sno_pattern.proofs.balance_table.closed_end.Goals as goal

pub parts-init : goal.parts-init
parts-init c = IsHop-first c.args.subject.now c.args.at c.requires.inside c.requires.bracket

pub returns-then-end-eq0 : goal.returns-then-end-eq0
returns-then-end-eq0 c =
    IsHop-open c.args.subject.now c.args.table.now c.args.at c.parts.place c.parts.invariant c.parts-test.true c.if-subject-place-ne41.true
    c.requires.known c.if-end-eq0.true

pub parts-smaller : goal.parts-smaller
parts-smaller c =
    let next = IsHop-next c.args.subject.now c.args.table.now c.args.at c.parts.place _ c.parts.invariant c.parts-test.true c.if-subject-place-ne41.true
    c.requires.known refl c.if-end-eq0.false in
    omega (arith, next.1, c.parts-test.true)

pub parts-preserved : goal.parts-preserved
parts-preserved c =
    let next = IsHop-next c.args.subject.now c.args.table.now c.args.at c.parts.place _ c.parts.invariant c.parts-test.true c.if-subject-place-ne41.true
    c.requires.known refl c.if-end-eq0.false in
    next.0
