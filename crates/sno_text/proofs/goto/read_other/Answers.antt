use Rattle.std.proofs.Common.{refl}
use Rattle.sno_text.proofs.Tables.{extends_none}
use Rattle.sno_text.proofs.goto.read_other.Goals as goal

pub returns-then-byte_at-letter-clause-extends : goal.returns-then-byte_at-letter-clause-extends
returns-then-byte_at-letter-clause-extends c = extends_none _ _ _ refl
