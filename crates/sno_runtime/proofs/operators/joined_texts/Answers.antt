use Rattle.std.proofs.lemmas.Result.{err_from_is_err_and}
use Rattle.sno_runtime.proofs.Conversions.{text_refused}
use Rattle.sno_runtime.proofs.operators.joined_texts.Goals as goal

pub returns-in_err-first : goal.returns-in_err-first
returns-in_err-first c s v w =
    let p = err_from_is_err_and c.from_residual.result c.from_residual.ensures.1 in
    rw (p.1, p.2) (text_refused _ c.args.x s _ c.requires.x (c.in_err-first.ensures.text s.nodes))

pub returns-in_err-second : goal.returns-in_err-second
returns-in_err-second c s v w =
    let p = err_from_is_err_and c.from_residual-in_err-second.result c.from_residual-in_err-second.ensures.1 in
    rw (p.1, p.2) (text_refused _ c.args.y s _ c.requires.y (c.in_err-second.ensures.text s.nodes))
