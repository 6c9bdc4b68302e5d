use Rattle.std.proofs.Common.{rules, refl}
use Rattle.sno_text.proofs.Tables.{extends_none, extends_push}
use Rattle.sno_text.proofs.token.read_literal.Goals as goal

pub returns-in_err-id-clause-extends : goal.returns-in_err-id-clause-extends
returns-in_err-id-clause-extends c = extends_none _ _ _ c.in_err-id.ensures.err

pub returns-clause-extends : goal.returns-clause-extends
returns-clause-extends c =
    extends_push _ _ _ _ c.in_ok-id.ensures.pushed.1 (record { operands = tt; spans = (c.in-Some.ensures.order, search rules); named = tt })

pub returns-in_default-clause-extends : goal.returns-in_default-clause-extends
returns-in_default-clause-extends c = extends_none _ _ _ refl
