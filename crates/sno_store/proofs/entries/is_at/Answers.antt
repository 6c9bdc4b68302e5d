use Rattle.std.proofs.Common.{◌≡◌, rules}
use Rattle.sno_value.specs.contracts.value.ValuePartialEq.TheImpl.{ghosts}
use Rattle.sno_store.proofs.EntryLaws.{answers}
use Rattle.sno_store.proofs.entries.is_at.Goals as goal

pub returns-in-Some : goal.returns-in-Some
returns-in-Some c =
    let same : c.eq.result ≡ ghosts.eq c.args.key.now c.in-Some.field-0.now.0 = search rules in
    answers c.args.entries.now c.args.place c.args.key.now c.in-Some.field-0.now c.eq.result c.requires
    c.in-Some.ensures.lookup.3.0 c.in-Some.ensures.lookup.3.1 same
