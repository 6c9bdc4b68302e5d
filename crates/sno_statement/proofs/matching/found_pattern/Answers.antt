use Rattle.std.proofs.Common.{◌≡◌, ◌∙◌, Ok, ap, refl, subst}
use Rattle.sno_value.specs.declared.value.Value.{Value as Stored}
use Rattle.sno_value.specs.declared.value.Value.TheVariants.{Pat}
use Rattle.sno_pattern.specs.Table.{tree}
use Rattle.sno_runtime.specs.Action.{Action, and_then, either, fails}
use Rattle.sno_runtime.specs.Operators.{as_pattern}
use Rattle.sno_runtime.specs.Runtime.{tree_of, IsPatternOf}
use Rattle.sno_runtime.specs.Values.{Value, shown, IsValueOf}
use Rattle.sno_runtime.specs.inner.Runtime.{Does}
use Rattle.sno_runtime.proofs.Outcomes.{gives_does, settles_got}
use Rattle.sno_expression.specs.Evaluate.{expression}
use Rattle.sno_expression.specs.Forms.{value}
use Rattle.sno_statement.proofs.matching.found_pattern.Goals as goal

pub returns-in-Some-clause-does : goal.returns-in-Some-clause-does
returns-in-Some-clause-does c = λ call.
    let s = c.args.runtime.now in
    let id = c.in-Some.id in
    let same = c.in_ok-instructions.ensures.0 call ∙ ap (expression c.args.code.now call) c.value_of.ensures in
    let held = subst (λ (act : Action Value). Does {X = Stored} shown IsValueOf act s s (Ok (Pat id))) same
    ((rw c.program.ensures.program at c.in-Some.ensures) call) in
    let given = gives_does tree_of IsPatternOf s id (tree s.nodes id.0) refl held.answer in
    settles_got shown IsValueOf tree_of IsPatternOf (expression c.args.code.now call (value c.args.pattern)) (either fails as_pattern) s s s _ (Ok id) held given

pub returns-clause-does : goal.returns-clause-does
returns-clause-does c = λ call.
    let same = c.in_ok-instructions.ensures.0 call ∙ ap (expression c.args.code.now call) c.value_of.ensures in
    subst (λ (act : Action Value). Does tree_of IsPatternOf (and_then act as_pattern) c.args.runtime.now c.standing_pattern.new.runtime (Ok c.in_ok-id.id)) same
    ((rw c.program-2.ensures.program at c.in_ok-id.ensures.does) call)
