use Rattle.std.proofs.Common.{◌≡◌, ◌∙◌, ◌<◌, ◌≤◌, ◌+◌, suc, length, slice_set, sym, ap, arith, rules}
use Rattle.std.proofs.lemmas.List.{get_or-set_same}
use Rattle.sno_store.specs.declared.tree.End.{End}
use Rattle.sno_store.proofs.PathLaws.{set_others, written, written_at}
use Rattle.sno_store.proofs.tree.Tree.settle.Goals as goal

pub returns-clause-keeps : goal.returns-clause-keeps
returns-clause-keeps c =
    let old = c.args.self.now.slots.items in
    let s = c.end-slot.result.slot in
    record {
      each = written old (slice_set old s (c.args.number + 1)) c.args.hashes.now s c.at-held.result (sym c.at-held.ensures)
          (search rules) (set_others old s (c.args.number + 1)) (c.is_live.ensures.no c.if-is_live.false);
    }

pub returns-clause-leads : goal.returns-clause-leads
returns-clause-leads c =
    let old = c.args.self.now.slots.items in
    let s = c.end-slot.result.slot in
    let new = slice_set old s (c.args.number + 1) in
    let few : c.at-held.result ≤ 1_000_000 = search rules in
    let within : s < length old = search rules in
    let next : c.args.number + 1 ≡ suc c.args.number = omega arith in
    λ done. (written_at old new c.args.hash c.args.number s (ap (λ (x : End). x.slot) c.end-slot.ensures) (omega (arith, few, c.at-held.ensures))
    (omega (arith, c.requires.few)) (set_others old s (c.args.number + 1))
    (get_or-set_same old s (c.args.number + 1) 0 within ∙ next))
