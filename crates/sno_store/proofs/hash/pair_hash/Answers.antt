use Rattle.std.proofs.Common.{rules}
use Rattle.sno_store.specs.inner.Hashes.{pair_hash}
use Rattle.sno_store.proofs.hash.pair_hash.Goals as goal

pub returns : goal.returns
unfolding pair_hash
returns c = search rules
