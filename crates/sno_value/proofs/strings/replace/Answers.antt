use Rattle.std.proofs.Common.{◌<◌, ◌∙◌, get_or, length, rules, arith}
use Rattle.std.proofs.lemmas.List.{length-set}
use Rattle.sno_value.specs.Strings.{replacement}
use Rattle.sno_value.proofs.Replacements.{mapped_step}
use Rattle.sno_value.proofs.strings.replace.Goals as goal

pub loop-byte-preserved : goal.loop-byte-preserved
loop-byte-preserved c =
    let long = c.loop-byte.invariant.0 in
    let small : get_or c.loop-byte.byte-items c.loop-byte.byte-index 0 < 256 = search rules in
    let within : c.loop-byte.byte-index < length c.args.text.now = omega arith in
    (length-set _ _ _ ∙ long, mapped_step (replacement c.args.from.now c.args.to.now) _ _ _ _ within c.loop-byte.invariant.1 (c.replacement_table-table.ensures _ small))
