use Rattle.std.proofs.Common.{refl}
use Rattle.sno_text.proofs.Tables.{extends_none, extends_push}
use Rattle.sno_text.proofs.token.read_keyword.Goals as goal

pub returns-in_err-id-clause-extends : goal.returns-in_err-id-clause-extends
returns-in_err-id-clause-extends c = extends_none _ _ _ c.in_err-id.ensures.err

pub returns-clause-extends : goal.returns-clause-extends
returns-clause-extends c =
    extends_push _ _ _ _ c.in_ok-id.ensures.pushed.1 (record { operands = tt; spans = (c.run_end-end.ensures.order, c.run_end-end.ensures.within); named = tt })

pub returns-then-not-is_in-clause-extends : goal.returns-then-not-is_in-clause-extends
returns-then-not-is_in-clause-extends c = extends_none _ _ _ refl
