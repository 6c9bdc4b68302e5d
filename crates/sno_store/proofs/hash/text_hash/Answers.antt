use Rattle.std.proofs.Common.{rules}
use Rattle.sno_store.specs.inner.Hashes.{text_hash}
use Rattle.sno_store.proofs.hash.text_hash.Goals as goal

pub returns : goal.returns
unfolding text_hash
returns c = search rules
