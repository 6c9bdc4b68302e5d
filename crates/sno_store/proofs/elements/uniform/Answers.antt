use Rattle.std.proofs.Common.{length, ap, sym, ◌∙◌, Some}
use Rattle.std.proofs.lemmas.List.{length-replicate}
use Rattle.std.specs.List.{slice_split}
use Rattle.sno_value.specs.declared.value.Value.{Value}
use Rattle.sno_store.specs.Objects.{Elements}
use Rattle.sno_store.specs.Arrays.{is_comma}
use Rattle.sno_store.proofs.Prototypes.{read_whole}
use Rattle.sno_store.proofs.elements.uniform.Goals as goal

pub new-requires-clause-count : goal.new-requires-clause-count
new-requires-clause-count c =
    let read = read_whole (slice_split is_comma c.args.prototype.now) c.in_ok-dimensions.dimensions.items c.args.count
    c.in_ok-dimensions.ensures c.requires.prototype in
    ap length c.in_ok-values.ensures ∙ length-replicate c.args.count c.args.value.now ∙ sym read.1

pub returns : goal.returns
returns c =
    let read = read_whole (slice_split is_comma c.args.prototype.now) c.in_ok-dimensions.dimensions.items c.args.count c.in_ok-dimensions.ensures
    c.requires.prototype in (
      ap (λ (a : Elements Value). a.prototype) c.new.ensures ∙ c.in_ok-text.ensures,
      read.0 ∙ ap (λ (a : Elements Value). Some a.dimensions) (sym c.new.ensures),
      ap (λ (a : Elements Value). a.values) c.new.ensures ∙ c.in_ok-values.ensures,
    )
