use Rattle.std.proofs.Common.{◌≡◌, true, rules}
use Rattle.sno_runtime.proofs.TypeLaws.{with_data}
use Rattle.sno_runtime.proofs.types.define_type.Goals as goal

pub returns : goal.returns
returns c =
    let has : c.args.runtime.now.keywords.has_data ≡ true = search rules in
    with_data _ _ _ _ has c.type_made.ensures
