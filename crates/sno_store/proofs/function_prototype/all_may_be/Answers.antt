use Rattle.std.proofs.Common.{◌<◌, ◌∙◌, ◌&&◌, not, sym, ap, rules, tests, length}
use Rattle.std.specs.List.{list_all}
use Rattle.std.proofs.lemmas.Iterator.Search.{all_from_yields_List}
use Rattle.std.proofs.lemmas.Iterator.Splits.{YieldsList-from_slice_split}
use Rattle.sno_store.specs.Arrays.{is_comma}
use Rattle.sno_store.specs.Definitions.{is_name, is_device}
use Rattle.sno_store.proofs.FunctionLaws.{listed_some}
use Rattle.sno_store.proofs.function_prototype.all_may_be.Goals as goal

pub returns-else-is_empty : goal.returns-else-is_empty
returns-else-is_empty c =
    let some : 0 < length c.args.list.now = search rules in
    all_from_yields_List (λ name. is_name name && not (is_device name)) _ _ c.all.result c.all.ensures.ran
    (YieldsList-from_slice_split {s = c.split.result} _ is_comma c.args.list.now (search rules) (search rules) (search rules)
    (λ x r q k. search (rules, tests)))
    (λ x b q k. search (rules, tests))
    ∙ ap (list_all (λ name. is_name name && not (is_device name))) (sym (listed_some c.args.list.now some))
