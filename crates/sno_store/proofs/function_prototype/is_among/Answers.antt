use Rattle.std.proofs.Common.{◌<◌, ◌∙◌, sym, ap, take, rules, tests, length}
use Rattle.std.specs.List.{list_any}
use Rattle.std.specs.Str.{bytes_eq}
use Rattle.std.proofs.lemmas.Iterator.{YieldsList-from_take}
use Rattle.std.proofs.lemmas.Iterator.Search.{any_from_yields_List}
use Rattle.std.proofs.lemmas.Iterator.Splits.{YieldsList-from_slice_split}
use Rattle.sno_store.specs.Arrays.{is_comma}
use Rattle.sno_store.proofs.FunctionLaws.{listed_some}
use Rattle.sno_store.proofs.function_prototype.is_among.Goals as goal

pub returns-then-not-is_empty : goal.returns-then-not-is_empty
returns-then-not-is_empty c =
    let some : 0 < length c.args.list.now = search rules in
    any_from_yields_List (bytes_eq c.args.name.now) _ _ c.any.result c.any.ensures.ran
    (YieldsList-from_take c.args.names (YieldsList-from_slice_split _ is_comma c.args.list.now (search rules) (search rules) (search rules)
    (λ x r q k. search (rules, tests))) (search rules))
    (λ x b q k. search (rules, tests))
    ∙ ap (λ ns. list_any (bytes_eq c.args.name.now) (take c.args.names ns)) (sym (listed_some c.args.list.now some))
