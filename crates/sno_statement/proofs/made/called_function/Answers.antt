use Rattle.std.proofs.Common.{refl}
use Rattle.sno_expression.specs.Forms.{node_at}
use Rattle.sno_statement.proofs.FunctionLaws.{calls_none, named}
use Rattle.sno_statement.proofs.made.called_function.Goals as goal

pub symbol-requires : goal.symbol-requires
symbol-requires c = (c.in-Some.ensures c.args.program.now c.args.next.now.part c.requires.known).1

pub returns-clause-does : goal.returns-clause-does
returns-clause-does c =
    let t = c.args.program.now in
    let call = (c.in-Some.ensures t c.args.next.now.part c.requires.known).0 in
    named t.text (node_at t c.args.next.now.part) _ c.in-Some.name.now.span call.0 c.args.next.now.part.wanted c.args.runtime.now c.args.runtime.now
    _ c.made_function.result (call.1.1) refl (call.1.0) c.in-Some-symbol.ensures c.made_function.ensures

pub returns-then-calls_nothing-clause-does : goal.returns-then-calls_nothing-clause-does
returns-then-calls_nothing-clause-does c =
    let t = c.args.program.now in
    calls_none t.text (node_at t c.args.next.now.part) c.args.next.now.part.wanted c.args.runtime.now
    (c.calls_nothing.ensures c.if-calls_nothing.true t c.args.next.now.part c.requires.known)
