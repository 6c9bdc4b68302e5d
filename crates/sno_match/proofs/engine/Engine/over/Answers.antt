use Rattle.std.proofs.Common.{ap, arith, length}
use Rattle.sno_match.proofs.SessionLaws as laws
use Rattle.sno_match.proofs.engine.Engine.over.Goals as goal

pub invariant_of-result : goal.invariant_of-result
invariant_of-result g c = (
  rw (c.of.ensures, c.of-2.ensures, c.new-2.ensures.items, c.new.ensures.items)
      (laws.new_match c.args.patterns.now c.args.pattern c.args.subject.items c.args.anchored c.args.limit (g.P.Points.points c.begin.new.self)
      (g.P.Points.records c.begin.new.self) c.requires c.in_ok-begin.ensures.ok c.in_ok-begin.ensures.records),
  c.new-looks.ensures c.of.result.value c.of-2.result.bytes,
  omega (arith, ap length c.of-2.ensures),
)
