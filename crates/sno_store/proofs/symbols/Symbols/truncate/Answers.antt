use Rattle.std.proofs.Common.{◌≡◌, ◌∙◌, ◌≤◌, ap, length, map, rules, subst, sym, take}
use Rattle.sno_store.specs.inner.Hashes.{text_hash}
use Rattle.sno_store.specs.inner.Doubles.{text_place}
use Rattle.sno_store.specs.inner.Indexed.{AreDistinct, AreFound}
use Rattle.sno_store.specs.inner.Symbols.{AreKeysOf}
use Rattle.sno_store.proofs.IndexLaws.{distinct_cut, found_cut, hashes_cut}
use Rattle.sno_store.proofs.KeyLaws.{cut}
use Rattle.sno_store.proofs.symbols.Symbols.truncate.Goals as goal

pub invariant_of-self : goal.invariant_of-self
invariant_of-self c =
    let few : length c.truncate.new.self.items ≤ 1_000_000 = search rules in
    let texts = c.self.inside.texts.items in
    let keys : c.truncate-3.new.self.items ≡ take c.args.count c.self.inside.keys.items = search rules in (
      few,
      subst (λ ts. AreKeysOf ts c.truncate-3.new.self.items) (sym c.truncate.ensures.items)
          (subst (AreKeysOf (take c.args.count texts)) (sym keys)
          (cut c.args.count texts c.self.inside.keys.items (c.self.invariant.1))),
      search rules,
      hashes_cut text_hash c.args.count texts c.self.inside.index.0 _ c.self.invariant.3 c.truncate-2.ensures.hashes
          ∙ ap (map text_hash) (sym c.truncate.ensures.items),
      subst AreDistinct (sym c.truncate.ensures.items) (distinct_cut c.args.count texts c.self.invariant.4),
      subst (λ slots. AreFound (text_place c.self.inside.doubles) text_hash slots c.truncate.new.self.items) (sym c.truncate-2.ensures.slots)
          (subst (AreFound (text_place c.self.inside.doubles) text_hash c.self.inside.index.1) (sym c.truncate.ensures.items)
          (found_cut (text_place c.self.inside.doubles) text_hash c.self.inside.index.1 c.args.count texts c.self.invariant.5)),
    )
