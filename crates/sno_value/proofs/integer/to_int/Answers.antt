use Rattle.std.proofs.Common.{arith, ◌∙◌, ap}
use Rattle.std.proofs.lemmas.Grind.{common_steps}
use Rattle.sno_value.specs.Integer.{integer_of}
use Rattle.sno_value.proofs.Decimal.{parsed}
use Rattle.sno_value.proofs.integer.to_int.Goals as goal

pub returns-in-Ok : goal.returns-in-Ok
returns-in-Ok c =
    let same = c.in-Ok.ensures.cases.0 in
    c.ok.ensures.value
    ∙ parsed c.in-Ok.text.now c.parse.result c.parse.ensures.value.0 (grind (arith, common_steps))
    ∙ ap integer_of same
