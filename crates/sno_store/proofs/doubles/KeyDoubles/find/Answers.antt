use Rattle.std.proofs.Common.{◌≡◌, ◌∙◌, Some, rules}
use Rattle.std.specs.BTreeMap.{get}
use Rattle.sno_store.specs.inner.Doubles.{id_cmp, id_of}
use Rattle.sno_store.proofs.DoubleLaws.{by_id}
use Rattle.sno_store.proofs.doubles.KeyDoubles.find.Goals as goal

pub returns : goal.returns
returns c =
    let got : Some c.in_ok-place.place.now ≡ get id_cmp c.args.self.now.others (id_of c.args.key.now) = search rules in
    got ∙ by_id c.args.self.now c.args.key.now c.in_default.not-Str
