use Rattle.std.proofs.Common.{◌≡◌, arith, rules, refl, sym, ap, ◌∙◌, Some, true, length}
use Rattle.sno_text.specs.Grammar.{Level}
use Rattle.sno_text.specs.inner.Links.{Stops}
use Rattle.sno_text.specs.inner.Parsed.{Parsed}
use Rattle.sno_text.proofs.Tables.{stands_id_below}
use Rattle.sno_text.proofs.Expressions.{refused_three, not_open, accepted, not_large, no_expression, no_end}
use Rattle.sno_text.proofs.Readings.{expression_whole}
use Rattle.sno_text.proofs.reader.read_expression.Goals as goal

pub returns-in_default-clause-refused : goal.returns-in_default-clause-refused
returns-in_default-clause-refused c = (
  refl,
  refused_three _ (not_open c.args.text.now _ c.has_open_literal.ensures c.if-has_open_literal.false) (omega arith)
      (sym c.nests_deep.ensures ∙ c.if-nests_deep.false)
      (no_expression _ _ c.run_end-start.ensures.run (rw c.in_default.is at c.in_ok-found.ensures.read)),
)

pub returns-then-end-text-clause-refused : goal.returns-then-end-text-clause-refused
returns-then-end-text-clause-refused c = (
  refl,
  refused_three _ (not_open c.args.text.now _ c.has_open_literal.ensures c.if-has_open_literal.false) (omega arith)
      (sym c.nests_deep.ensures ∙ c.if-nests_deep.false)
      (no_end _ _ _ _ _ c.in-Some.found c.run_end-start.ensures.run (rw c.in-Some.is at c.in_ok-found.ensures.read)
      c.run_end-end.ensures.run c.if-end-text.true),
)

pub new-program-requires : goal.new-program-requires
new-program-requires c =
    let found : Parsed c.args.text.now (Level 0) (Stops c.args.text.now 0) c.run_end-start.result c.new-nodes.result.items c.read_level.new.nodes.items
    (Some c.in-Some.found) = rw c.in-Some.is at c.in_ok-found.ensures.read in
    let same : c.in_ok-text.text.items ≡ c.args.text.now = search rules in
    let none : length c.new-nodes.result.items ≡ 0 = ap length c.new-nodes.ensures.items in
    expression_whole _ _ _ _ _ same (rw c.new-nodes.ensures.items at c.in_ok-found.ensures.extends) (let r = found.room in let w = found.within in omega arith)
    c.new.ensures.items c.new-2.ensures.empty

pub returns-clause-accepted : goal.returns-clause-accepted
returns-clause-accepted c =
    let found : Parsed c.args.text.now (Level 0) (Stops c.args.text.now 0) c.run_end-start.result c.new-nodes.result.items c.read_level.new.nodes.items
    (Some c.in-Some.found) = rw c.in-Some.is at c.in_ok-found.ensures.read in
    let fits : c.in-Some.found.fits ≡ true = search rules in
    rw c.new-program.ensures.nodes (accepted _ _ _ _ _ c.in-Some.found (not_open c.args.text.now _ c.has_open_literal.ensures c.if-has_open_literal.false)
    (not_large _ (omega arith) (sym c.nests_deep.ensures ∙ c.if-nests_deep.false)) c.run_end-start.ensures.run found c.run_end-end.ensures.run
    c.if-end-text.false (c.has_line_end.ensures.none c.if-has_line_end.false) fits c.new-nodes.ensures.items)

pub returns-clause-number : goal.returns-clause-number
returns-clause-number c =
    let found : Parsed c.args.text.now (Level 0) (Stops c.args.text.now 0) c.run_end-start.result c.new-nodes.result.items c.read_level.new.nodes.items
    (Some c.in-Some.found) = rw c.in-Some.is at c.in_ok-found.ensures.read in
    rw c.new-program.ensures.nodes (stands_id_below _ found.tree _ found.stands)

pub returns-clause-table : goal.returns-clause-table
returns-clause-table c =
    let found : Parsed c.args.text.now (Level 0) (Stops c.args.text.now 0) c.run_end-start.result c.new-nodes.result.items c.read_level.new.nodes.items
    (Some c.in-Some.found) = rw c.in-Some.is at c.in_ok-found.ensures.read in
    let same : c.in_ok-text.text.items ≡ c.args.text.now = search rules in
    let none : length c.new-nodes.result.items ≡ 0 = ap length c.new-nodes.ensures.items in
    let whole = expression_whole _ _ _ _ _ same (rw c.new-nodes.ensures.items at c.in_ok-found.ensures.extends) (let r = found.room in let w = found.within in
    omega arith) c.new.ensures.items c.new-2.ensures.empty in
    rw (c.new-program.ensures.text, c.new-program.ensures.nodes) whole.table
