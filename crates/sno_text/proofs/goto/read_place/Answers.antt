use Rattle.std.proofs.Common.{refl}
use Rattle.sno_text.proofs.Tables.{extends_none}
use Rattle.sno_text.proofs.goto.read_place.Goals as goal

pub returns-in_default-read_label-clause-extends : goal.returns-in_default-read_label-clause-extends
returns-in_default-read_label-clause-extends c = extends_none _ _ _ refl

pub returns-clause-extends : goal.returns-clause-extends
returns-clause-extends c = extends_none _ _ _ refl
