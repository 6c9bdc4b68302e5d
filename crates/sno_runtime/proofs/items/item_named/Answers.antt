use Rattle.std.proofs.Common.{map}
use Rattle.sno_runtime.specs.Values.{shown}
use Rattle.sno_runtime.specs.Runtime.{itself}
use Rattle.sno_runtime.specs.inner.Runtime.{any}
use Rattle.sno_runtime.proofs.Outcomes.{stops_does}
use Rattle.sno_runtime.proofs.ItemLaws.{no_item_name}
use Rattle.sno_runtime.proofs.items.item_named.Goals.{in-Array, in-Table+in_ok-key-in-Table, in_default}
use Rattle.sno_runtime.proofs.items.item_named.Goals as goal

pub returns : goal.returns
returns c =
    let nodes = c.args.runtime.now.nodes in
    let subscripts = map (shown nodes) c.args.subscripts.now in
    elim c.match-holder.branch [
      | in-Array w ↦ rw (w.result-is, w.runtime-is, w.in-Array.is) w.element.ensures
      | in-Table+in_ok-key-in-Table w ↦ rw (w.result-is, w.runtime-is, w.in-Table.is, w.in_ok-key-in-Table.ensures.one) w.entry.ensures
      | in_default w ↦ rw (w.result-is, w.runtime-is, w.error.ensures, no_item_name nodes _ subscripts w.in_default.not-Array w.in_default.not-Table)
          (stops_does itself any c.args.runtime.now 1)
    ]
