use Rattle.std.proofs.Common.{◌++◌, ◌∙◌, sym, ap, subst, map}
use Rattle.sno_store.specs.declared.error.StoreError.TheVariants.{NoMemory}
use Rattle.sno_value.specs.declared.ids.SymId.{SymId}
use Rattle.sno_store.specs.Store.{Store}
use Rattle.sno_store.specs.declared.functions.Function.TheVariants.{Defined}
use Rattle.sno_store.specs.Functions.{with_function}
use Rattle.sno_store.specs.inner.Seen.{prototype_seen}
use Rattle.sno_store.specs.Symbols.{HasMore}
use Rattle.sno_store.proofs.NameLaws.{stopped, has_none, has_both}
use Rattle.sno_store.proofs.DefineLaws.{sound_names, more_all, parts_done, parts_passed, begun_more, formals_stopped, locals_stopped}
use Rattle.sno_store.proofs.store.Store.define_parts.Goals as goal

pub returns-in_err-function : goal.returns-in_err-function
returns-in_err-function c =
    let p = prototype_seen c.args.parts in
    let stop = stopped p.function (p.formals ++ p.locals) c.args.self.now c.symbol.new.self c.in_err-function.field-0.0
    (sound_names p c.requires.sound).function c.in_err-function.ensures in
    parts_passed p c.args.entry.now c.args.self.now c.symbol.new.self c.in_err-function.field-0.0 c.from_residual-in_err-function.result
    c.from_residual-in_err-function.ensures.1
    (stop.0, subst (HasMore c.args.self.now) (sym stop.1) (has_none c.args.self.now))

pub join-requires-clause-names : goal.join-requires-clause-names
join-requires-clause-names c = (sound_names (prototype_seen c.args.parts) c.requires.sound).formals

pub returns-in_err-formals : goal.returns-in_err-formals
returns-in_err-formals c =
    let p = prototype_seen c.args.parts in
    let h = c.in_err-formals.ensures in
    parts_passed p c.args.entry.now c.args.self.now c.join.new.self c.in_err-formals.field-0.0 c.from_residual-in_err-formals.result
    c.from_residual-in_err-formals.ensures.1 (
      formals_stopped p c.args.self.now c.symbol.new.self c.in_ok-function.function c.in_err-formals.field-0.0 c.in_ok-function.ensures h.0,
      has_both c.args.self.now c.symbol.new.self c.join.new.self
          (begun_more p c.args.self.now c.symbol.new.self c.in_ok-function.function c.in_ok-function.ensures) h.1,
    )

pub join-requires-2-clause-names : goal.join-requires-2-clause-names
join-requires-2-clause-names c = (sound_names (prototype_seen c.args.parts) c.requires.sound).locals

pub returns-in_err-locals : goal.returns-in_err-locals
returns-in_err-locals c =
    let p = prototype_seen c.args.parts in
    let h = c.in_err-locals.ensures in
    let g = c.in_ok-formals.ensures in
    parts_passed p c.args.entry.now c.args.self.now c.join-2.new.self c.in_err-locals.field-0.0 c.from_residual-in_err-locals.result
    c.from_residual-in_err-locals.ensures.1 (
      locals_stopped p c.args.self.now c.symbol.new.self c.join.new.self c.in_ok-function.function c.in_err-locals.field-0.0 c.in_ok-function.ensures g.0 h.0,
      has_both c.args.self.now c.symbol.new.self c.join-2.new.self
          (begun_more p c.args.self.now c.symbol.new.self c.in_ok-function.function c.in_ok-function.ensures)
          (has_both c.symbol.new.self c.join.new.self c.join-2.new.self g.1 h.1),
    )

pub returns-in_err-define : goal.returns-in_err-define
returns-in_err-define c =
    let p = prototype_seen c.args.parts in
    let same = ap (λ (x : Store). record x { functions = c.define.new.self }) c.self-2.view_is ∙ ap (λ ds. record c.join-2.new.self { functions = ds })
    (c.in_err-define.ensures.err ∙ ap (λ (x : Store). x.functions) c.self-2.view_is) in
    let more = more_all p c.args.entry.now c.args.self.now c.symbol.new.self c.join.new.self c.join-2.new.self c.in_ok-function.function c.in_ok-formals.formals
    c.in_ok-locals.locals c.in_ok-function.ensures c.in_ok-formals.ensures c.in_ok-locals.ensures in
    parts_passed p c.args.entry.now c.args.self.now _ NoMemory c.from_residual-in_err-define.result c.from_residual-in_err-define.ensures.1
    (tt, subst (HasMore c.args.self.now) (sym same) more)

pub returns : goal.returns
returns c =
    let p = prototype_seen c.args.parts in
    parts_done p c.args.entry.now c.args.self.now c.symbol.new.self c.join.new.self c.join-2.new.self c.in_ok-function.function c.in_ok-formals.formals
    c.in_ok-locals.locals c.in_ok-function.ensures c.in_ok-formals.ensures c.in_ok-locals.ensures
    _ c.new.result c.define.new.self
    (ap (λ (x : Store). record x { functions = c.define.new.self }) c.self-2.view_is)
    (c.in_ok-define.ensures.ok ∙ ap (λ (x : Store). with_function c.in_ok-function.function.0 (Defined c.new.result) x.functions) c.self-2.view_is)
    (c.new.ensures ∙ ap (λ l. record {
      entry = l;
      formals = map (λ (id : SymId). id.0) c.in_ok-formals.formals.items;
      locals = map (λ (id : SymId). id.0) c.in_ok-locals.locals.items;
    }) (c.in_ok-label.ensures.items ∙ c.entry_label.ensures))
