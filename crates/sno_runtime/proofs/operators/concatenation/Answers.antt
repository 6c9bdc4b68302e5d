use Rattle.std.proofs.Common.{sym, ◌∙◌}
use Rattle.sno_runtime.proofs.Conversions.{concatenation_else, joined_first, joined_second}
use Rattle.sno_runtime.proofs.operators.concatenation.Goals as goal
use Rattle.sno_runtime.proofs.operators.concatenation.Goals.{else-has_text-via-then-has_text+else-has_text-2, else-has_text-via-else-has_text}

pub returns-then-has_text-2 : goal.returns-then-has_text-2
returns-then-has_text-2 c =
    let nodes = c.args.runtime.now.nodes in
    rw (concatenation_else _ _ (sym (c.is_null.ensures nodes) ∙ c.if-is_null.false) (sym (c.is_null-2.ensures nodes) ∙ c.if-is_null-2.false))
    (c.joined_texts.ensures c.args.runtime.now c.requires.x c.requires.y)

pub returns : goal.returns
returns c =
    let nodes = c.args.runtime.now.nodes in
    let x = sym (c.is_null.ensures nodes) ∙ c.if-is_null.false in
    let y = sym (c.is_null-2.ensures nodes) ∙ c.if-is_null-2.false in
    elim c.else-has_text.branch [
      | else-has_text-via-then-has_text+else-has_text-2
          w ↦ rw (joined_second nodes c.args.x c.args.y x y (sym w.has_text-then-has_text.ensures ∙ w.if-has_text-2.false)) c.joined_patterns.ensures
      | else-has_text-via-else-has_text w ↦ rw (joined_first nodes c.args.x c.args.y x y (sym c.has_text.ensures ∙ w.if-has_text.false))
          c.joined_patterns.ensures
    ]
