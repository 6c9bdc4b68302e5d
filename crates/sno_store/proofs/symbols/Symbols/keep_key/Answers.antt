use Rattle.std.proofs.Common.{◌≡◌, ◌∙◌, [], length, slice_index_or, ap, rules}
use Rattle.sno_store.specs.Symbols.{HasKey}
use Rattle.sno_store.proofs.KeyLaws.{joined_if}
use Rattle.sno_store.proofs.symbols.Symbols.keep_key.Goals as goal

pub invariant_of-self : goal.invariant_of-self
invariant_of-self c =
    let symbols = c.self.inside.texts.items in
    let keys = c.self.inside.keys.items in
    let name : slice_index_or symbols c.args.symbol.0 [] ≡ c.args.name.now =
    ap (λ ts. slice_index_or ts c.args.symbol.0 []) c.self.view_is ∙ c.requires in
    let place : length keys ≡ c.args.symbol.0 = search rules in
    let last : HasKey c.args.symbol.0 c.kept_key.result symbols =
    (c.kept_key.ensures.some, λ some. (name ∙ (c.kept_key.ensures.known some).0, (c.kept_key.ensures.known some).1)) in (
      c.self.invariant.0,
      rw c.push-kept.ensures.items
          (joined_if _ symbols keys c.kept_key.result c.self.invariant.1 (rw place last)),
      search rules,
      c.self.invariant.3,
      c.self.invariant.4,
      c.self.invariant.5,
    )
