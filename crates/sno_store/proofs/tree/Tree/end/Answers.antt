use Rattle.std.proofs.Common.{◌≡◌, ◌∙◌, ◌≤◌, ◌<◌, ◌+◌, ◌-◌, ◌/◌, ◌%◌, sym, ap, arith, rules}
use Rattle.sno_store.specs.inner.Paths.{at, path_end}
use Rattle.sno_store.proofs.PathLaws.{stops_at, goes_at, nowhere}
use Rattle.sno_store.proofs.tree.Tree.end.Goals as goal

pub returns-then-held-le-MOST : goal.returns-then-held-le-MOST
returns-then-held-le-MOST c =
    let slots = c.args.self.now.slots.items in
    let few : at slots (c.levels.node + c.levels.rest % 16) ≤ 1_000_000 = search rules in
    sym (stops_at slots c.levels.left c.levels.node c.levels.rest (search rules) few) ∙ c.levels.invariant.1

pub levels-preserved : goal.levels-preserved
levels-preserved c =
    let slots = c.args.self.now.slots.items in
    let held : c.at-held.result ≡ at slots (c.levels.node + c.levels.rest % 16) = c.at-held.ensures in
    let more : 1_000_000 < at slots (c.levels.node + c.levels.rest % 16) = search rules in (
      omega (arith, c.levels.invariant.0),
      ap (λ v. path_end slots (c.levels.left - 1) (v - 1_000_000) (c.levels.rest / 16)) held
          ∙ sym (goes_at slots c.levels.left c.levels.node c.levels.rest (search rules) more) ∙ c.levels.invariant.1,
    )

pub returns : goal.returns
returns c =
    let none : c.levels.left ≡ 0 = search rules in
    sym (nowhere c.args.self.now.slots.items c.levels.node c.levels.rest)
    ∙ ap (λ k. path_end c.args.self.now.slots.items k c.levels.node c.levels.rest) (sym none) ∙ c.levels.invariant.1
