use Rattle.sno_value.proofs.Texts.{written_both}
use Rattle.sno_value.proofs.text.here.Goals as goal

pub returns : goal.returns
returns c = rw (c.copy_from_slice.ensures.after, c.copy_from_slice-2.ensures.after) (written_both c.args.first.now c.args.second.now _ _)
