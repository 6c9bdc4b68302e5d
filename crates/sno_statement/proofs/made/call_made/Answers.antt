use Rattle.std.proofs.Common.{map, sym, ◌∙◌}
use Rattle.sno_runtime.specs.Values.{shown}
use Rattle.sno_statement.proofs.MadeCalls.{constructed_runs, field_runs, defined_runs}
use Rattle.sno_statement.proofs.made.call_made.Goals as goal

pub returns-in-Some : goal.returns-in-Some
returns-in-Some g c =
    constructed_runs (g.S.Calls.caller c.args.scope.now) c.args.function.0
    (map (shown c.args.runtime.now.nodes) c.args.arguments.now)
    c.args.runtime.now c.construct.new.runtime _ c.construct.result c.in-Some.number c.requires.within.ready
    (sym (rw c.store.ensures at c.constructor.ensures) ∙ c.in-Some.is) c.construct.ensures

pub returns-then-is_field : goal.returns-then-is_field
returns-then-is_field g c =
    field_runs (g.S.Calls.caller c.args.scope.now) c.args.function.0 (map (shown c.args.runtime.now.nodes) c.args.arguments.now)
    c.args.runtime.now c.args.runtime.now _ c.field_of.result c.requires.within.ready (sym (rw c.store-2.ensures at c.is_field.ensures) ∙ c.if-is_field.true)
    c.field_of.ensures

pub returns : goal.returns
returns g c =
    defined_runs (g.S.Calls.caller c.args.scope.now) c.args.function.0
    (map (shown c.args.runtime.now.nodes) c.args.arguments.now)
    c.args.runtime.now c.call.new.runtime _ c.call.result _
    (sym (rw c.store.ensures at c.constructor.ensures) ∙ c.in_default.is) (sym (rw c.store-2.ensures at c.is_field.ensures) ∙ c.if-is_field.false)
    c.call.ensures
