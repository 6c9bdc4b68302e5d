use Rattle.std.proofs.Common.{◌<◌, ◌∙◌, sym, ap, rules, tests, length}
use Rattle.std.proofs.lemmas.Iterator.Consumers.{count_from_yields_List}
use Rattle.std.proofs.lemmas.Iterator.Splits.{YieldsList-from_slice_split}
use Rattle.sno_store.specs.Arrays.{is_comma}
use Rattle.sno_store.proofs.FunctionLaws.{listed_some}
use Rattle.sno_store.proofs.function_prototype.count.Goals as goal

pub returns : goal.returns
returns c =
    let some : 0 < length c.args.list.now = search rules in
    count_from_yields_List c.split.result _ c.count.ensures.ran
    (YieldsList-from_slice_split {s = c.split.result} _ is_comma c.args.list.now (search rules) (search rules) (search rules)
    (λ x r q k. search (rules, tests)))
    ∙ ap length (sym (listed_some c.args.list.now some))
