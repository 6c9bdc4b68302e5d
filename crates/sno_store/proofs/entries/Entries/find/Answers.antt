use Rattle.std.proofs.Common.{◌∙◌, ap, rules}
use Rattle.sno_store.specs.Stored.{stored_notions}
use Rattle.sno_store.specs.Tables.{entry_place}
use Rattle.sno_store.specs.inner.Indexed.{IsAt, keys_of}
use Rattle.sno_store.proofs.EntryLaws.{entry_here}
use Rattle.sno_store.proofs.entries.Entries.find.Goals as goal

pub returns-then-is_at : goal.returns-then-is_at
returns-then-is_at c =
    let entries = c.self.inside.entries.items in
    let at : IsAt (keys_of entries) c.self.inside.named c.args.key.now = search rules in
    entry_here c.args.key.now entries c.self.inside.named c.requires c.self.invariant.2 at
    ∙ ap (entry_place stored_notions c.args.key.now) c.self.view_is
