use Rattle.std.proofs.Common.{drop, sym}
use Rattle.std.proofs.lemmas.List.{take-append-drop}
use Rattle.sno_advice.proofs.refused.up_to.Goals as goal

pub returns : goal.returns
returns c =
    let end = c.line_end-end.result in
    (drop end c.args.text.now, sym (take-append-drop end c.args.text.now))
