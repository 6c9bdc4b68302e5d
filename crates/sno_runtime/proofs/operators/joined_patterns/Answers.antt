use Rattle.std.proofs.Common.{sym, ◌∙◌}
use Rattle.std.proofs.lemmas.Result.{err_from_is_err_and}
use Rattle.sno_runtime.proofs.Conversions.{first_refused, second_refused, both_joined}
use Rattle.sno_runtime.proofs.operators.joined_patterns.Goals as goal

pub returns-in_err-first : goal.returns-in_err-first
returns-in_err-first c =
    let p = err_from_is_err_and c.from_residual.result c.from_residual.ensures.1 in
    let nodes = c.args.runtime.now.nodes in
    rw (p.1, p.2) (first_refused _ _ _ _ _ _ (sym (c.is_patternable.ensures nodes) ∙ c.if-not-is_patternable.false)
    (sym (c.is_patternable-else-not-is_patternable.ensures nodes) ∙ c.if-not-is_patternable-2.false) c.in_err-first.ensures)

pub returns-in_err-second : goal.returns-in_err-second
returns-in_err-second c =
    let p = err_from_is_err_and c.from_residual-in_err-second.result c.from_residual-in_err-second.ensures.1 in
    let nodes = c.args.runtime.now.nodes in
    rw (p.1, p.2) (second_refused _ _ _ _ _ _ _ _ (sym (c.is_patternable.ensures nodes) ∙ c.if-not-is_patternable.false)
    (sym (c.is_patternable-else-not-is_patternable.ensures nodes) ∙ c.if-not-is_patternable-2.false) c.requires.y
    c.in_ok-first.ensures c.in_err-second.ensures)

pub returns : goal.returns
returns c =
    let nodes = c.args.runtime.now.nodes in
    both_joined _ _ _ _ _ _ _ _ _ _ (sym (c.is_patternable.ensures nodes) ∙ c.if-not-is_patternable.false)
    (sym (c.is_patternable-else-not-is_patternable.ensures nodes) ∙ c.if-not-is_patternable-2.false) c.requires.y c.in_ok-first.ensures
    c.in_ok-second.ensures c.pattern_of.ensures
