use Rattle.std.proofs.Common.{◌≡◌, ◌∙◌, true, false, refl, ap, take, rules, arith, length}
use Rattle.std.specs.List.{list_any}
use Rattle.std.specs.Str.{bytes_eq}
use Rattle.std.proofs.lemmas.List.{take_all}
use Rattle.sno_store.specs.Store.{is_symbol}
use Rattle.sno_store.specs.Definitions.{listed}
use Rattle.sno_store.proofs.CountLaws.{first_joined}
use Rattle.sno_store.proofs.symbols.Symbols.has_with.Goals as goal

pub returns-then-has : goal.returns-then-has
returns-then-has c =
    let known : true ≡ is_symbol c.args.name.now c.args.self.now = search rules in
    first_joined c.args.name.now c.args.first.now (listed c.args.list.now) c.args.self.now true _ _ known refl refl

pub returns-then-eq : goal.returns-then-eq
returns-then-eq c =
    let unknown : false ≡ is_symbol c.args.name.now c.args.self.now = search rules in
    let same : true ≡ bytes_eq c.args.name.now c.args.first.now = search rules in
    first_joined c.args.name.now c.args.first.now (listed c.args.list.now) c.args.self.now false true _ unknown same refl

pub returns : goal.returns
returns c =
    let unknown : false ≡ is_symbol c.args.name.now c.args.self.now = search rules in
    let other : false ≡ bytes_eq c.args.name.now c.args.first.now = search rules in
    let all : c.is_among.result ≡ list_any (bytes_eq c.args.name.now) (listed c.args.list.now) =
    c.is_among.ensures ∙ ap (λ n. list_any (bytes_eq c.args.name.now) (take n (listed c.args.list.now))) c.count.ensures
    ∙ ap (list_any (bytes_eq c.args.name.now)) (take_all (length (listed c.args.list.now)) (listed c.args.list.now) (omega arith)) in
    first_joined c.args.name.now c.args.first.now (listed c.args.list.now) c.args.self.now false false c.is_among.result unknown other all
