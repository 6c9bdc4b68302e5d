use Rattle.std.proofs.Common.{◌≡◌, drop, length, take, vec_len}
use Rattle.sno_store.specs.Calls.{restored}
use Rattle.sno_store.specs.inner.Seen.{numbered}
use Rattle.sno_store.proofs.calls.bring_back.Given as goal

abbrev pub invariant-saved : goal.invariant-saved
invariant-saved l =
    record {
      held : take l.held l.saved.items ≡ take l.held l.initial.saved.items;
      long : length l.values.items ≡ length l.initial.values.items;
      values : restored (numbered (drop l.held l.saved.items)) l.values.items
          ≡ restored (numbered (drop l.held l.initial.saved.items)) l.initial.values.items;
    }

abbrev pub decreases-saved : goal.decreases-saved
decreases-saved l = vec_len l.saved
