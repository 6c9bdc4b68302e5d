use Rattle.std.proofs.Common.{refl}
use Rattle.sno_text.proofs.Tables.{extends_none}
use Rattle.sno_text.proofs.body.read_object.Goals as goal

pub returns-then-at-from-clause-extends : goal.returns-then-at-from-clause-extends
returns-then-at-from-clause-extends c = extends_none _ _ _ refl
