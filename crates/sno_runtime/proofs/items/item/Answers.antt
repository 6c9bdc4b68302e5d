use Rattle.std.proofs.Common.{map}
use Rattle.std.proofs.lemmas.Result.{err_from_is_err_and}
use Rattle.sno_runtime.specs.Values.{shown, IsValueOf}
use Rattle.sno_runtime.proofs.Outcomes.{stops_does}
use Rattle.sno_runtime.proofs.ItemLaws.{item_refused, item_there, no_item}
use Rattle.sno_runtime.proofs.items.item.Goals.{in-Array+in_ok-name-in-Array, in-Table+in_ok-key-in-Table+in-Str+in-Here-1}
use Rattle.sno_runtime.proofs.items.item.Goals.{in-Table+in_ok-key-in-Table+in-Str+in-Shared-1, in-Table+in_ok-key-in-Table+in-Int-1}
use Rattle.sno_runtime.proofs.items.item.Goals.{in_default}
use Rattle.sno_runtime.proofs.items.item.Goals as goal

pub returns-in_err-name-in-Array : goal.returns-in_err-name-in-Array
returns-in_err-name-in-Array c =
    let p = err_from_is_err_and c.from_residual.result c.from_residual.ensures.1 in
    let subscripts = map (shown c.args.runtime.now.nodes) c.args.subscripts.now in
    rw (p.1, p.2, c.in-Array.is) (item_refused c.in-Array.array subscripts _ _ c.in_err-name-in-Array.ensures)

pub returns : goal.returns
returns c =
    let nodes = c.args.runtime.now.nodes in
    let subscripts = map (shown nodes) c.args.subscripts.now in
    elim c.match-holder.branch [
      | in-Array+in_ok-name-in-Array w ↦ rw (w.result-is, w.in-Array.is)
          (item_there w.in-Array.array subscripts _ _ _ w.in_ok-name-in-Array.ensures w.stored.ensures)
      | in-Table+in_ok-key-in-Table+in-Str+in-Here-1 w ↦ rw (w.result-is, w.in-Table.is, w.in_ok-key-in-Table.ensures.one) w.entry_read.ensures
      | in-Table+in_ok-key-in-Table+in-Str+in-Shared-1 w ↦ rw (w.result-is, w.in-Table.is, w.in_ok-key-in-Table.ensures.one) w.entry_read.ensures
      | in-Table+in_ok-key-in-Table+in-Int-1 w ↦ rw (w.result-is, w.in-Table.is, w.in_ok-key-in-Table.ensures.one) w.entry_read.ensures
      | in_default w ↦ rw (w.result-is, w.error.ensures, no_item nodes _ subscripts w.in_default.not-Array w.in_default.not-Table)
          (stops_does shown IsValueOf c.args.runtime.now 1)
    ]
