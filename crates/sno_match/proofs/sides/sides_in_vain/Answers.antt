use Rattle.std.proofs.Common.{arith}
use Rattle.sno_pattern.specs.Table.{tree}
use Rattle.sno_match.proofs.StartLaws.{way_same, way_more}
use Rattle.sno_match.proofs.sides.sides_in_vain.Goals as goal

pub sides-init : goal.sides-init
sides-init c = record {
  known = c.requires.known;
  near = c.requires.some;
  gives_way = way_same (tree c.args.patterns.now c.args.id.0) c.args.subject.now c.args.at;
}

pub sides-preserved : goal.sides-preserved
sides-preserved c =
    let nodes = c.args.patterns.now in
    let i = c.sides.invariant in
    record {
      known = omega (arith, c.in-Alt.ensures.1, i.known);
      near = omega (arith, c.in-Some.ensures.near, c.sides-test.true);
      gives_way = way_more (tree nodes c.args.id.0) (tree nodes c.sides.rest.id.0) (tree nodes c.in-Alt.first.0) (tree nodes c.in-Alt.second.0)
          c.args.subject.now c.sides.rest.steps c.in-Some.steps c.args.at i.gives_way c.in-Alt.ensures.2 c.in-Some.ensures.fails;
    }
