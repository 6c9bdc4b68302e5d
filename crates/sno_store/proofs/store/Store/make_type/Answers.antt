use Rattle.std.proofs.Common.{◌≡◌, ℕ, List, [], ◌∷◌, ◌++◌, ◌∙◌, length, map, sym, ap, subst, arith, rules}
use Rattle.sno_store.specs.declared.error.StoreError.TheVariants.{NoMemory}
use Rattle.sno_store.specs.Store.{Store}
use Rattle.sno_store.specs.inner.Seen.{prototype_seen}
use Rattle.sno_store.specs.Symbols.{HasMore}
use Rattle.sno_store.specs.declared.functions.Function.TheVariants.{Constructs}
use Rattle.sno_store.specs.Functions.{with_function}
use Rattle.sno_store.specs.Types.{DataType, with_fields}
use Rattle.sno_value.specs.declared.ids.SymId.{SymId}
use Rattle.sno_store.proofs.NameLaws.{stopped, has_none, has_both}
use Rattle.sno_store.proofs.DefineLaws.{begun_more, formals_stopped}
use Rattle.sno_store.proofs.TypeLaws.{is_made, few_fields, type_more, type_done, type_passed}
use Rattle.sno_store.proofs.store.Store.make_type.Goals as goal

pub returns-in_err-constructor : goal.returns-in_err-constructor
returns-in_err-constructor c =
    let p = prototype_seen c.args.parts in
    let stop = stopped p.function (p.formals ++ p.locals) c.args.self.now c.symbol.new.self c.in_err-constructor.field-0.0 (is_made p c.requires.sound).function
    c.in_err-constructor.ensures in
    type_passed p c.args.self.now c.symbol.new.self c.in_err-constructor.field-0.0 c.from_residual-in_err-constructor.result
    c.from_residual-in_err-constructor.ensures.1
    (stop.0, subst (HasMore c.args.self.now) (sym stop.1) (has_none c.args.self.now))

pub join-requires-clause-names : goal.join-requires-clause-names
join-requires-clause-names c = (is_made (prototype_seen c.args.parts) c.requires.sound).formals

pub returns-in_err-fields : goal.returns-in_err-fields
returns-in_err-fields c =
    let p = prototype_seen c.args.parts in
    let h = c.in_err-fields.ensures in
    type_passed p c.args.self.now c.join.new.self c.in_err-fields.field-0.0 c.from_residual-in_err-fields.result c.from_residual-in_err-fields.ensures.1 (
      formals_stopped p c.args.self.now c.symbol.new.self c.in_ok-constructor.constructor c.in_err-fields.field-0.0 c.in_ok-constructor.ensures h.0,
      has_both c.args.self.now c.symbol.new.self c.join.new.self
          (begun_more p c.args.self.now c.symbol.new.self c.in_ok-constructor.constructor c.in_ok-constructor.ensures) h.1,
    )

pub returns-in_err-name : goal.returns-in_err-name
returns-in_err-name c =
    let p = prototype_seen c.args.parts in
    type_passed p c.args.self.now c.args.self.now NoMemory c.from_residual.result c.from_residual.ensures.1 (tt, has_none c.args.self.now)

pub returns-in_err-reserve : goal.returns-in_err-reserve
returns-in_err-reserve c =
    let p = prototype_seen c.args.parts in
    let types = c.reserve.ensures.items ∙ ap (λ (x : Store). x.types) c.self-2.view_is in
    let same = ap (λ (x : Store). record x { types = c.reserve.new.self.items }) c.self-2.view_is ∙ ap (λ ts. record c.join.new.self { types = ts }) types in
    let more = type_more p c.requires.sound c.args.self.now c.symbol.new.self c.join.new.self c.in_ok-constructor.constructor c.in_ok-fields.fields
    c.in_ok-constructor.ensures c.in_ok-fields.ensures in
    type_passed p c.args.self.now _ NoMemory c.from_residual-in_err-reserve.result c.from_residual-in_err-reserve.ensures.1
    (tt, subst (HasMore c.args.self.now) (sym same) more)

pub returns-in_err-construct : goal.returns-in_err-construct
returns-in_err-construct c =
    let p = prototype_seen c.args.parts in
    let types = c.reserve.ensures.items ∙ ap (λ (x : Store). x.types) c.self-2.view_is in
    let functions = c.in_err-construct.ensures.err ∙ ap (λ (x : Store). x.functions) c.self-2.view_is in
    let same = ap (λ (x : Store). record x { types = c.reserve.new.self.items; functions = c.construct.new.self }) c.self-2.view_is
    ∙ (λ i. record c.join.new.self { types = types i; functions = functions i }) in
    let more = type_more p c.requires.sound c.args.self.now c.symbol.new.self c.join.new.self c.in_ok-constructor.constructor c.in_ok-fields.fields
    c.in_ok-constructor.ensures c.in_ok-fields.ensures in
    type_passed p c.args.self.now _ NoMemory c.from_residual-in_err-construct.result c.from_residual-in_err-construct.ensures.1
    (tt, subst (HasMore c.args.self.now) (sym same) more)

pub new-requires : goal.new-requires
new-requires c = record {
  few = few_fields (prototype_seen c.args.parts) c.requires.sound c.args.self.now c.symbol.new.self c.join.new.self c.in_ok-constructor.constructor
      c.in_ok-fields.fields c.in_ok-constructor.ensures c.in_ok-fields.ensures;
}

pub returns : goal.returns
returns c =
    let p = prototype_seen c.args.parts in
    let ids = c.in_ok-fields.fields.items in
    let types : c.reserve.new.self.items ≡ c.join.new.self.types = c.reserve.ensures.items ∙ ap (λ (x : Store). x.types) c.self-2.view_is in
    let functions : c.self-2.inside.functions ≡ c.join.new.self.functions = ap (λ (x : Store). x.functions) c.self-2.view_is in
    let pushed : c.push.new.self.items ≡ c.reserve.new.self.items ++ c.new.result ∷ [] = search rules in
    let items : c.deref.result.now ≡ ids = search rules in
    let number : c.len-number.result ≡ length c.reserve.new.self.items = search (rules, arith) in
    let named : List ℕ → DataType = λ name. record { name = name; fields = map (λ (id : SymId). id.0) ids } in
    type_done p c.requires.sound c.args.self.now c.symbol.new.self c.join.new.self c.in_ok-constructor.constructor c.in_ok-fields.fields
    c.in_ok-constructor.ensures c.in_ok-fields.ensures
    _ c.new.result c.len-number.result c.push.new.self.items c.construct.new.self
    (ap (λ (x : Store). record x { types = c.push.new.self.items; functions = c.construct.new.self }) c.self-2.view_is)
    (pushed ∙ ap (λ ts. ts ++ c.new.result ∷ []) types)
    (c.new.ensures ∙ ap named c.in_ok-name.ensures.items)
    (number ∙ ap length types)
    (c.in_ok-construct.ensures.ok
    ∙ (λ i. with_fields (map (λ (id : SymId). id.0) (items i))
    (with_function c.in_ok-constructor.constructor.0 (Constructs c.len-number.result) (functions i))))
