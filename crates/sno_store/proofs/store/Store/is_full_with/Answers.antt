use Rattle.std.proofs.Common.{rules}
use Rattle.sno_store.specs.Definitions.{names}
use Rattle.sno_store.specs.inner.Seen.{prototype_seen}
use Rattle.sno_store.proofs.CountLaws.{room_left}
use Rattle.sno_store.proofs.store.Store.is_full_with.Goals as goal

pub returns-else-len-gt-MOST_SYMBOLS : goal.returns-else-len-gt-MOST_SYMBOLS
returns-else-len-gt-MOST_SYMBOLS c =
    let p = prototype_seen c.args.parts in
    room_left (names p) c.args.self.now.symbols c.len.result (search rules) c.requires.few (search rules)
