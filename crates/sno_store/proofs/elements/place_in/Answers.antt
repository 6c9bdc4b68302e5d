use Rattle.std.proofs.Common.{◌≡◌, ◌+◌, ◌*◌, ◌-◌, ◌<◌, Some, pos, rules, arith, sym, ap, ◌∙◌, get_or, FitsSigned, w64}
use Rattle.std.proofs.lemmas.Int.{to_z-of_z}
use Rattle.std.proofs.Math.Nat.{mul_comm, min-eq_left}
use Rattle.sno_store.proofs.Places.{block_before, block_few, size_few, place_inside, place_is, out_of_range}
use Rattle.sno_store.specs.Arrays.{size, offset}
use Rattle.sno_store.proofs.elements.place_in.Goals as goal

pub returns-in_err-place-clause-place : goal.returns-in_err-place-clause-place
returns-in_err-place-clause-place c =
    let l = c.dimensions in
    let read : FitsSigned w64 (get_or c.args.subscripts.now (l.i - 1) (pos 0)) = search rules in
    c.from_residual.ensures
    ∙ out_of_range c.args.dimensions.now c.args.subscripts.now (l.i - 1) l.i l.place l.block (record { low = pos 0; high = pos 0 }) (pos 0) c.requires.rank
    (omega arith) (omega arith) l.invariant.block l.invariant.place
    (sym c.in_err-place.was ∙ c.offset.ensures ∙ ap (offset _) (to_z-of_z w64 _ read))

pub overflow_mul-place : goal.overflow_mul-place
overflow_mul-place c =
    let l = c.dimensions in
    let ds = c.args.dimensions.now in
    let is = c.args.subscripts.now in
    let d = get_or ds (l.i - 1) (record { low = pos 0; high = pos 0 }) in
    let read : FitsSigned w64 (get_or is (l.i - 1) (pos 0)) = search rules in
    let found : Some c.in_ok-place.field-0 ≡ offset d (get_or is (l.i - 1) (pos 0)) =
    sym c.in_ok-place.was ∙ c.offset.ensures ∙ ap (offset d) (to_z-of_z w64 _ read) in
    let inside : l.place + c.in_ok-place.field-0 * l.block < size d * l.block =
    place_inside ds is (l.i - 1) l.i l.place l.block (record { low = pos 0; high = pos 0 }) (pos 0) c.requires.rank (omega arith)
    (omega arith) l.invariant.block l.invariant.place c.requires.few l.invariant.inside c.in_ok-place.field-0 found in
    let few = block_few ds is (l.i - 1) l.i l.place l.block (record { low = pos 0; high = pos 0 }) (pos 0) c.requires.rank (omega arith)
    (omega arith) l.invariant.block l.invariant.place c.requires.few l.invariant.inside in
    record { fits = omega arith }

pub overflow_add-place : goal.overflow_add-place
overflow_add-place c =
    let l = c.dimensions in
    let ds = c.args.dimensions.now in
    let is = c.args.subscripts.now in
    let d = get_or ds (l.i - 1) (record { low = pos 0; high = pos 0 }) in
    let read : FitsSigned w64 (get_or is (l.i - 1) (pos 0)) = search rules in
    let found : Some c.in_ok-place.field-0 ≡ offset d (get_or is (l.i - 1) (pos 0)) =
    sym c.in_ok-place.was ∙ c.offset.ensures ∙ ap (offset d) (to_z-of_z w64 _ read) in
    let inside : l.place + c.in_ok-place.field-0 * l.block < size d * l.block =
    place_inside ds is (l.i - 1) l.i l.place l.block (record { low = pos 0; high = pos 0 }) (pos 0) c.requires.rank (omega arith)
    (omega arith) l.invariant.block l.invariant.place c.requires.few l.invariant.inside c.in_ok-place.field-0 found in
    let few = block_few ds is (l.i - 1) l.i l.place l.block (record { low = pos 0; high = pos 0 }) (pos 0) c.requires.rank (omega arith)
    (omega arith) l.invariant.block l.invariant.place c.requires.few l.invariant.inside in
    record { fits = omega arith }

pub overflow_mul-block : goal.overflow_mul-block
overflow_mul-block c =
    let l = c.dimensions in
    let ds = c.args.dimensions.now in
    let is = c.args.subscripts.now in
    let d = get_or ds (l.i - 1) (record { low = pos 0; high = pos 0 }) in
    let few = block_few ds is (l.i - 1) l.i l.place l.block (record { low = pos 0; high = pos 0 }) (pos 0) c.requires.rank (omega arith)
    (omega arith) l.invariant.block l.invariant.place c.requires.few l.invariant.inside in
    let small = size_few ds is (l.i - 1) l.i l.place l.block (record { low = pos 0; high = pos 0 }) (pos 0) c.requires.rank (omega arith)
    (omega arith) l.invariant.block l.invariant.place c.requires.few l.invariant.inside in
    let whole : c.size.result ≡ size d = c.size.ensures ∙ min-eq_left (omega arith) in
    let turned : l.block * c.size.result ≡ size d * l.block = ap (λ n. l.block * n) whole ∙ mul_comm l.block (size d) in
    record { fits = omega arith }

pub dimensions-preserved : goal.dimensions-preserved
dimensions-preserved c =
    let l = c.dimensions in
    let ds = c.args.dimensions.now in
    let is = c.args.subscripts.now in
    let d = get_or ds (l.i - 1) (record { low = pos 0; high = pos 0 }) in
    let read : FitsSigned w64 (get_or is (l.i - 1) (pos 0)) = search rules in
    let found : Some c.in_ok-place.field-0 ≡ offset d (get_or is (l.i - 1) (pos 0)) =
    sym c.in_ok-place.was ∙ c.offset.ensures ∙ ap (offset d) (to_z-of_z w64 _ read) in
    let inside : l.place + c.in_ok-place.field-0 * l.block < size d * l.block =
    place_inside ds is (l.i - 1) l.i l.place l.block (record { low = pos 0; high = pos 0 }) (pos 0) c.requires.rank (omega arith)
    (omega arith) l.invariant.block l.invariant.place c.requires.few l.invariant.inside c.in_ok-place.field-0 found in
    let few = block_few ds is (l.i - 1) l.i l.place l.block (record { low = pos 0; high = pos 0 }) (pos 0) c.requires.rank (omega arith)
    (omega arith) l.invariant.block l.invariant.place c.requires.few l.invariant.inside in
    let small = size_few ds is (l.i - 1) l.i l.place l.block (record { low = pos 0; high = pos 0 }) (pos 0) c.requires.rank (omega arith)
    (omega arith) l.invariant.block l.invariant.place c.requires.few l.invariant.inside in
    let whole : c.size.result ≡ size d = c.size.ensures ∙ min-eq_left (omega arith) in
    let turned : l.block * c.size.result ≡ size d * l.block = ap (λ n. l.block * n) whole ∙ mul_comm l.block (size d) in
    record {
      block = turned ∙ block_before ds is (l.i - 1) l.i l.place l.block (record { low = pos 0; high = pos 0 }) (pos 0) c.requires.rank (omega arith)
          (omega arith) l.invariant.block l.invariant.place;
      place = place_is ds is (l.i - 1) l.i l.place l.block (record { low = pos 0; high = pos 0 }) (pos 0) c.requires.rank (omega arith)
          (omega arith) l.invariant.block l.invariant.place c.requires.few l.invariant.inside c.in_ok-place.field-0 found;
      inside = omega arith;
      few = omega arith;
    }
