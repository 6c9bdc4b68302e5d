use Rattle.std.proofs.Common.{sym, arith, ◌/◌, ◌%◌, slice_index}
use Rattle.std.proofs.lemmas.Nat.Bits.{shr_and_one}
use Rattle.sno_pattern.proofs.SetLaws.{is_in-members}
use Rattle.sno_pattern.proofs.byte_set.ByteSet.contains.Goals as goal

pub returns : goal.returns
returns c =
    rw (shr_and_one (slice_index c.self.inside.words (c.args.byte / 64)) (c.args.byte % 64), ← c.self.view_is)
    (sym (is_in-members c.self.inside.words c.args.byte (omega arith)))
