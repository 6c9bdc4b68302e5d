use Rattle.std.proofs.Common.{◌∙◌, ap, arith, sym}
use Rattle.sno_store.specs.Objects.{with_value_at}
use Rattle.sno_store.proofs.EntryLaws.{placed, set_past, stands_set}
use Rattle.sno_store.proofs.entries.Entries.set.Goals as goal
use Rattle.sno_store.proofs.entries.Entries.set.Goals.{in-Str+in-Shared-1, in-Str+in-Here-1, in-Int-1}

pub invariant_of-self : goal.invariant_of-self
invariant_of-self c =
    stands_set c.self.inside.entries.items c.self.inside.index.0 c.self.inside.index.1 c.self.inside.doubles c.args.entry c.args.value c.index_mut.result.now c.index_mut.ensures.value c.self.invariant

pub invariant_of-self-then-place-len-2 : goal.invariant_of-self-then-place-len-2
invariant_of-self-then-place-len-2 c =
    stands_set c.self.inside.entries.items c.self.inside.index.0 c.self.inside.index.1 c.self.inside.doubles c.args.entry c.args.value c.index_mut.result.now c.index_mut.ensures.value c.self.invariant

pub invariant_of-self-then-place-len-3 : goal.invariant_of-self-then-place-len-3
invariant_of-self-then-place-len-3 c =
    stands_set c.self.inside.entries.items c.self.inside.index.0 c.self.inside.index.1 c.self.inside.doubles c.args.entry c.args.value c.index_mut.result.now c.index_mut.ensures.value c.self.invariant

pub returns-then-place-len : goal.returns-then-place-len
returns-then-place-len c =
    let set = placed c.self.inside.entries.items c.args.entry c.args.value c.index_mut.result.now c.index_mut.ensures.value
    ∙ ap (with_value_at c.args.entry c.args.value) c.self.view_is in
    elim c.match-index_mut-value.branch [
      | in-Str+in-Shared-1 w ↦ w.self-is ∙ set
      | in-Str+in-Here-1 w ↦ w.self-is ∙ set
      | in-Int-1 w ↦ w.self-is ∙ set
    ]

pub returns-else-place-len : goal.returns-else-place-len
returns-else-place-len c =
    sym c.self.view_is ∙ set_past c.self.inside.entries.items c.args.entry c.args.value (omega arith)
    ∙ ap (with_value_at c.args.entry c.args.value) c.self.view_is
