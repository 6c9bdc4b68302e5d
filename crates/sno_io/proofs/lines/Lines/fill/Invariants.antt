use Rattle.std.proofs.Common.{◌≡◌, ◌-◌, ◌+◌, ◌⊎◌, false, if◌then◌else◌, length, true}
use Rattle.std.specs.Prelude.{Contains}
use Rattle.sno_io.specs.inner.Held.{Joins}
use Rattle.sno_io.specs.Lines.{line_length}
use Rattle.sno_io.proofs.lines.Lines.fill.Given as goal

abbrev pub invariant-reads : goal.invariant-reads
invariant-reads g l = record {
  len_is : l.len ≡ line_length l.self.held;
  given : Joins (g.R.Source.feed l.fn.reader).left (g.R.Source.feed l.reader).left l.fn.self l.self;
  unasked : (l.fn.self.told_end ≡ true) ⊎ Contains l.fn.self.held 10 → l.reader ≡ l.fn.reader;
  stopped : l.self.stopped ≡ l.fn.self.stopped;
  sound : (g.R.Source.feed l.reader).broken ≡ false;
  same : l.self.told_end ≡ true → (g.R.Source.feed l.reader).at_end ≡ true;
}

-- a read brings a byte or tells the end
abbrev pub decreases-reads : goal.decreases-reads
decreases-reads g l = (1000001 - length l.self.held) + (if l.self.told_end then 0 else 1)
