use Rattle.std.proofs.Common.{sym, ◌∙◌}
use Rattle.std.proofs.lemmas.Result.{err_from_is_err_and}
use Rattle.sno_runtime.proofs.ContainerLaws.{pattern_given, pattern_refused}
use Rattle.sno_runtime.proofs.containers.to_pattern.Goals as goal

pub returns-in_err-id : goal.returns-in_err-id
returns-in_err-id c =
    let p = err_from_is_err_and c.from_residual.result c.from_residual.ensures.1 in
    rw (p.1, p.2) (pattern_refused _ _ _ _ (sym (c.is_patternable.ensures c.args.runtime.now.nodes) ∙ c.if-not-is_patternable.false) c.in_err-id.ensures)

pub returns : goal.returns
returns c = pattern_given _ _ _ _ (sym (c.is_patternable.ensures c.args.runtime.now.nodes) ∙ c.if-not-is_patternable.false) c.in_ok-id.ensures
