use Rattle.std.proofs.Common.{◌≡◌, length}
use Rattle.std.specs.Io.KnownBytes.{Keeps}
use Rattle.sno_io.proofs.streams.read_through.Given as goal

-- what was asked in vain gave nothing
abbrev pub invariant-tries : goal.invariant-tries
invariant-tries g l = (length l.buf ≡ length l.initial.buf) × Keeps (g.R.Read.remaining l.initial.reader) (g.R.Read.remaining l.reader)
