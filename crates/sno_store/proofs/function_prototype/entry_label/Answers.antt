use Rattle.std.proofs.Common.{◌≡◌, ◌<◌, sym, rules, length}
use Rattle.sno_store.proofs.DefineLaws.{label_is, label_null}
use Rattle.sno_store.proofs.function_prototype.entry_label.Goals as goal

pub returns-then-is_empty : goal.returns-then-is_empty
returns-then-is_empty c = let none : length c.args.entry.now ≡ 0 = search rules in sym (label_null c.args.entry.now c.args.function.now none)

pub returns-else-is_empty : goal.returns-else-is_empty
returns-else-is_empty c = let some : 0 < length c.args.entry.now = search rules in sym (label_is c.args.entry.now c.args.function.now some)
