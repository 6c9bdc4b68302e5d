use Rattle.std.proofs.Common.{◌≡◌, ℕ, ap, arith, length, sym, ◌<◌}
use Rattle.std.specs.Option.{is_some}
use Rattle.sno_pattern.specs.inner.Kinds.{node_of}
use Rattle.sno_pattern.specs.Places.{has_end}
use Rattle.sno_pattern.specs.inner.Places.{node_has_end}
use Rattle.sno_pattern.specs.Table.{tree}
use Rattle.sno_pattern.proofs.TableLaws.{length-nodes}
use Rattle.sno_pattern.proofs.ShapeLaws.{end_of-kind}
use Rattle.sno_pattern.proofs.PlaceLaws.{same_place}
use Rattle.sno_pattern.proofs.table.Patterns.first_place.Goals as goal

same : (c : goal.After-first_place_of_kind) (at : ℕ) → node_has_end (node_of c.index.result.now.kind) c.args.subject.now at ≡ has_end
    (tree c.args.self.now c.args.id.0) c.args.subject.now at
same c at =
    let fits : c.args.id.0 < length c.self.inside.entries.items =
    omega (arith, length-nodes c.self.inside.entries.items, ap length c.self.view_is, c.requires.id) in
    rw (← c.self.view_is)
    (ap is_some (end_of-kind c.self.inside.entries.items c.args.id.0 c.index.result.now c.args.subject.now at 0 c.self.invariant fits (sym c.index.ensures)))

pub returns : goal.returns
returns c =
    same_place (node_has_end (node_of c.index.result.now.kind) c.args.subject.now)
    (has_end (tree c.args.self.now c.args.id.0) c.args.subject.now) c.args.from c.args.until
    c.first_place_of_kind.result (same c) c.first_place_of_kind.ensures
