use Rattle.std.proofs.Common.{◌≡◌, refl, arith}
use Rattle.std.proofs.lemmas.Result.{err_from_is_err_and}
use Rattle.sno_expression.specs.declared.forms.Wanted.TheVariants.{Value}
use Rattle.sno_expression.specs.Forms.{node_at}
use Rattle.sno_statement.proofs.FunctionLaws.{no_value_wanted, calls_none, unnamed, named, named_or_error}
use Rattle.sno_expression.proofs.FormLaws.{no_form}
use Rattle.sno_statement.proofs.made.searched_function.Goals as goal
use Rattle.sno_statement.proofs.made.searched_function.Goals.{then-not-matches-via-then-not-matches, then-not-matches-via-else-not-matches+then-part-nodes}
use Rattle.sno_statement.proofs.made.searched_function.Goals.{in-Value}
use Rattle.sno_statement.proofs.made.searched_function.Goals.{in_default}

-- a call without a value wanted, or a number beyond the table
pub returns-then-not-matches-clause-does : goal.returns-then-not-matches-clause-does
returns-then-not-matches-clause-does c =
    let t = c.args.program.now in
    calls_none t.text (node_at t c.args.part) c.args.part.wanted c.args.runtime.now
    (elim c.then-not-matches.branch [
      | then-not-matches-via-then-not-matches w ↦ elim c.match-matches.branch [
        | in-Value v ↦ absurd (let a = w.if-not-matches.true in let b = v.matches-is in cc)
        | in_default v ↦ no_value_wanted t.text (node_at t c.args.part) c.args.part.wanted v.in_default.not-Value
      ]
      | then-not-matches-via-else-not-matches+then-part-nodes w ↦ rw (no_form t c.args.part (omega (arith, w.nodes.ensures.count, w.if-part-nodes.true))) refl
    ])

pub returns-in_err-name-clause-does : goal.returns-in_err-name-clause-does
returns-in_err-name-clause-does c =
    let t = c.args.program.now in
    let p = err_from_is_err_and c.from_residual.result c.from_residual.ensures.1 in
    let wants : c.args.part.wanted ≡ Value =
    elim c.match-matches.branch [ in-Value v ↦ v.in-Value.is | in_default v ↦ absurd (let a = c.if-not-matches.false in let b = v.matches-is in cc) ] in
    rw (p.1, p.2) (unnamed t.text (node_at t c.args.part) c.node.result.now c.in-Call.name c.in-Call.field-1 c.args.part.wanted c.args.runtime.now
    c.variable_at.new.self c.in_err-name.field-0.0
    c.node.ensures.node c.in-Call.is wants (rw c.text.ensures at c.in_err-name.ensures))

pub returns-in_err-name-clause-halts : goal.returns-in_err-name-clause-halts
returns-in_err-name-clause-halts c = λ is.
    let p = err_from_is_err_and c.from_residual.result c.from_residual.ensures.1 in
    named_or_error c.text.result.now c.args.runtime.now c.variable_at.new.self c.in_err-name.field-0.0 c.in_err-name.ensures (let a = p.1 in let b = p.2 in cc)

pub returns-clause-does : goal.returns-clause-does
returns-clause-does c =
    let t = c.args.program.now in
    let wants : c.args.part.wanted ≡ Value =
    elim c.match-matches.branch [ in-Value v ↦ v.in-Value.is | in_default v ↦ absurd (let a = c.if-not-matches.false in let b = v.matches-is in cc) ] in
    named t.text (node_at t c.args.part) c.node.result.now c.in-Call.name c.in-Call.field-1 c.args.part.wanted c.args.runtime.now c.variable_at.new.self
    c.in_ok-name.name c.made_function.result
    c.node.ensures.node c.in-Call.is wants (rw c.text.ensures at c.in_ok-name.ensures) c.made_function.ensures
