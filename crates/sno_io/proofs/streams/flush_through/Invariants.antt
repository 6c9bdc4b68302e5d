use Rattle.std.specs.Io.KnownBytes.{Keeps}
use Rattle.sno_io.proofs.streams.flush_through.Given as goal

-- what was asked in vain took nothing
abbrev pub invariant-tries : goal.invariant-tries
invariant-tries g l = Keeps (g.W.Write.contents l.initial.writer) (g.W.Write.contents l.writer)
