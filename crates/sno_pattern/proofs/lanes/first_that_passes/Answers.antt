use Rattle.std.proofs.Common.{◌+◌, take, position, sym, ◌∙◌, ap, arith}
use Rattle.std.proofs.lemmas.List.{take_rest}
use Rattle.std.proofs.lemmas.List.Quantifiers.{position-Some}
use Rattle.sno_pattern.specs.inner.Lanes.{passes}
use Rattle.sno_pattern.proofs.SearchLaws.{found_at, passed_at}
use Rattle.sno_pattern.proofs.lanes.first_that_passes.Goals as goal

pub returns-in-Some : goal.returns-in-Some
returns-in-Some c =
    found_at (passes c.args.inside c.args.set.now) c.args.bytes.now c.blocks-2.at 32 c.in-Some.before c.blocks-2.invariant.searched
    (c.in-Some.ensures ∙ ap (λ xs. position (passes c.args.inside c.args.set.now) (take 32 xs)) (take_rest c.args.bytes.now c.blocks-2.at))

pub overflow_add-result : goal.overflow_add-result
overflow_add-result c =
    let inside = position-Some (passes c.args.inside c.args.set.now) c.args.bytes.now (c.blocks-2.at + c.in-Some.before) 0 (sym (returns-in-Some c)) in
    omega (arith, inside.0)

pub blocks-2-preserved : goal.blocks-2-preserved
blocks-2-preserved c = record {
  inside = omega arith;
  searched = passed_at (passes c.args.inside c.args.set.now) c.args.bytes.now c.blocks-2.at 32 (omega arith) c.blocks-2.invariant.searched
      (c.in_default.ensures ∙ ap (λ xs. position (passes c.args.inside c.args.set.now) (take 32 xs)) (take_rest c.args.bytes.now c.blocks-2.at));
}
