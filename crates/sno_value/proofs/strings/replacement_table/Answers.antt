use Rattle.std.proofs.Common.{rules, arith}
use Rattle.std.proofs.lemmas.Grind.{common_steps}
use Rattle.std.proofs.lemmas.List.{length_push}
use Rattle.std.proofs.lemmas.Slice.Zip.{zip_turn}
use Rattle.sno_value.proofs.Replacements.{table_step}
use Rattle.sno_value.proofs.strings.replacement_table.Goals as goal

pub loop-old-preserved : goal.loop-old-preserved
loop-old-preserved c =
    let turn = zip_turn c.args.from.now c.args.to.now c.loop-old.yielded c.into_iter-old-iterator.result c.loop-old.old-iterator c.next.new.self _
    (search rules) (search rules) c.loop-old.yielded_by _ c.in-Some.is c.next.ensures.steps in
    simp length_push (
      grind (arith, common_steps),
      table_step c.loop-old.table c.args.from.now c.args.to.now _ c.in-Some.old.now c.in-Some.new.now c.loop-old.invariant.0 c.requires turn.0 (turn.2 0)
          (turn.3 0) c.loop-old.invariant.1,
    )
