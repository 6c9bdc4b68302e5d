use Rattle.std.proofs.Common.{ap, ◌∙◌, ℕ, List, [], None, Some, refl, Err, arith}
use Rattle.std.proofs.lemmas.Result.{err_from_is_err_and}
use Rattle.sno_value.specs.declared.value.Value.TheVariants as stored
use Rattle.sno_runtime.specs.Values.{Str, shown, IsValueOf}
use Rattle.sno_runtime.proofs.Outcomes.{gives_does}
use Rattle.sno_statement.specs.Matches.{matches}
use Rattle.sno_statement.specs.Statements.{assigns_text, pattern_value, replaces, with_part}
use Rattle.sno_statement.proofs.RunningLaws.{answered, does_runs}
use Rattle.sno_statement.proofs.StatementLaws.{read_runs, part_runs, part_ended, text_runs, textless_runs, twice_runs}
use Rattle.sno_statement.proofs.CallingLaws.{still_in}
use Rattle.sno_statement.proofs.replacement.replace_in.Goals as goal

pub read-requires : goal.read-requires
read-requires g c = c.requires.ready.reads

pub returns-in_err-value : goal.returns-in_err-value
returns-in_err-value g c =
    let p = err_from_is_err_and c.from_residual.result c.from_residual.ensures.1 in
    let lost = read_runs c.requires.ready c.in_err-value.ensures in
    answered (p.1 ∙ ap Err p.2) (part_ended _ lost)

pub returns-in_err-text : goal.returns-in_err-text
returns-in_err-text g c =
    let p = err_from_is_err_and c.from_residual-in_err-text.result c.from_residual-in_err-text.ensures.1 in
    let read = read_runs c.requires.ready c.in_ok-value.ensures in
    answered (p.1 ∙ ap Err p.2) (part_runs _ read (textless_runs _ _ read.ready (c.in_err-text.ensures.text c.read.new.self.nodes)))

pub first_span-requires-clause-short : goal.first_span-requires-clause-short
first_span-requires-clause-short g c = c.in_ok-text.ensures.short c.read.new.self.nodes c.in_ok-value.ensures.answer

pub first_span-requires-clause-within : goal.first_span-requires-clause-within
first_span-requires-clause-within g c =
    still_in _ _ _ _ _ c.requires c.in_ok-value.ensures.calls (read_runs c.requires.ready c.in_ok-value.ensures).ready

pub returns-in_err-span : goal.returns-in_err-span
returns-in_err-span g c =
    let p = err_from_is_err_and c.from_residual-in_err-span.result c.from_residual-in_err-span.ensures.1 in
    let program = g.S.Calls.code c.args.scope.now in
    let call = g.S.Calls.caller c.args.scope.now in
    let read = read_runs c.requires.ready c.in_ok-value.ensures in
    let text = c.in_ok-text.text in
    answered (p.1 ∙ ap Err p.2) (part_runs _ read (text_runs _ _ text (c.in_ok-text.ensures.text c.read.new.self.nodes)
    (twice_runs (pattern_value program call c.args.pattern) (λ q. matches program call q text) (replaces program call c.args.target.now text c.args.object)
    (part_ended _ c.in_err-span.ensures))))

pub put_object-requires-clause-order : goal.put_object-requires-clause-order
put_object-requires-clause-order g c = c.in_ok-span.ensures.answer.0

pub put_object-requires-clause-inside : goal.put_object-requires-clause-inside
put_object-requires-clause-inside g c = c.in_ok-span.ensures.answer.1

pub put_object-requires-clause-short : goal.put_object-requires-clause-short
put_object-requires-clause-short g c = c.in_ok-text.ensures.short c.read.new.self.nodes c.in_ok-value.ensures.answer

pub put_object-requires-clause-within : goal.put_object-requires-clause-within
put_object-requires-clause-within g c =
    still_in _ _ _ _ _ c.requires (c.in_ok-span.ensures.calls ∙ c.in_ok-value.ensures.calls) c.in_ok-span.ensures.ready

pub returns-in-Some : goal.returns-in-Some
returns-in-Some g c =
    let program = g.S.Calls.code c.args.scope.now in
    let call = g.S.Calls.caller c.args.scope.now in
    let read = read_runs c.requires.ready c.in_ok-value.ensures in
    let text = c.in_ok-text.text in
    let next = replaces program call c.args.target.now text (Some c.in-Some.object) in
    rw c.in-Some.is (part_runs _ read (text_runs _ _ text (c.in_ok-text.ensures.text c.read.new.self.nodes)
    (twice_runs (pattern_value program call c.args.pattern) (λ q. matches program call q text) next (part_runs next c.in_ok-span.ensures c.put_object.ensures))))

pub put_nothing-requires-clause-order : goal.put_nothing-requires-clause-order
put_nothing-requires-clause-order g c = c.in_ok-span.ensures.answer.0

pub put_nothing-requires-clause-within : goal.put_nothing-requires-clause-within
put_nothing-requires-clause-within g c = c.in_ok-span.ensures.answer.1

pub put_nothing-requires-clause-sound : goal.put_nothing-requires-clause-sound
put_nothing-requires-clause-sound g c = c.in_ok-span.ensures.ready.writes

pub returns : goal.returns
returns g c =
    let program = g.S.Calls.code c.args.scope.now in
    let call = g.S.Calls.caller c.args.scope.now in
    let read = read_runs c.requires.ready c.in_ok-value.ensures in
    let text = c.in_ok-text.text in
    let found = c.in_ok-span.ensures in
    let given = gives_does shown IsValueOf c.first_span.new.runtime (stored.Str []) (Str []) refl (omega arith) in
    let put = c.put_nothing.ensures _ found.ready.reads in
    let last = λ (new : List ℕ). assigns_text c.args.target.now (with_part text c.in_ok-span.span new) in
    let next = replaces program call c.args.target.now text None in
    rw c.in-None.is (part_runs _ read (text_runs _ _ text (c.in_ok-text.ensures.text c.read.new.self.nodes)
    (twice_runs (pattern_value program call c.args.pattern) (λ q. matches program call q text) next
    (part_runs next found (part_runs _ (does_runs shown IsValueOf _ _ _ _ _ found.ready given) (text_runs last (Str []) [] refl put))))))
