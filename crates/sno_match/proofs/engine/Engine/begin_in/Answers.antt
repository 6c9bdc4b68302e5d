use Rattle.std.proofs.Common.{refl, ap, length, arith}
use Rattle.sno_match.specs.inner.Subject.{searched}
use Rattle.sno_match.proofs.CountLaws.{match_counted}
use Rattle.sno_match.proofs.SessionLaws as laws
use Rattle.sno_match.proofs.engine.Engine.begin_in.Goals as goal

pub invariant_of-self : goal.invariant_of-self
invariant_of-self g c = rw c.make_room.ensures.same c.self.invariant

pub returns-in_err-make_room-clause-counts : goal.returns-in_err-make_room-clause-counts
returns-in_err-make_room-clause-counts g c =
    let kept = match_counted _ _ _ _ c.self.invariant.0 refl in
    rw c.make_room.ensures.same kept

pub invariant_of-self-in_err-begin : goal.invariant_of-self-in_err-begin
invariant_of-self-in_err-begin g c = let e = c.in_err-begin.ensures.err in rw (c.make_room.ensures.same, e.0, e.1) c.self.invariant

pub returns-in_err-begin-clause-counts : goal.returns-in_err-begin-clause-counts
returns-in_err-begin-clause-counts g c =
    let e = c.in_err-begin.ensures.err in
    let kept = match_counted _ _ _ _ c.self.invariant.0 refl in
    rw (c.make_room.ensures.same, e.0, e.1) kept

pub invariant_of-self-2 : goal.invariant_of-self-2
invariant_of-self-2 g c = (
  rw (c.of-self-inside.ensures, c.put.ensures, c.clear-2.ensures.items, c.clear-3.ensures.items)
      (laws.new_match c.args.patterns.now c.args.pattern (searched c.args.lent c.args.copied.now) c.args.anchored c.args.limit
      (g.P.Points.points c.begin.new.self) (g.P.Points.records c.begin.new.self) c.requires.known c.in_ok-begin.ensures.ok c.in_ok-begin.ensures.records),
  c.clear.ensures c.of-self-inside.result.value c.put.new.self.bytes,
  omega (arith, ap length c.put.ensures, c.requires.short),
)
