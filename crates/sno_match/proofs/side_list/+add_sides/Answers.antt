use Rattle.std.proofs.Common.{◌≡◌, ◌+◌, arith, refl, subst, sym}
use Rattle.sno_pattern.specs.Table.{tree}
use Rattle.sno_match.specs.inner.Sides.{sides_of, Lists}
use Rattle.sno_match.proofs.SideLaws.{lists_above, lists_both, lists_one}
use Rattle.sno_match.proofs.StartLaws.{cond_body_fails, first_fails, imm_body_fails}
use Rattle.sno_match.proofs.side_list.+add_sides.Goals as goal

pub returns-in_ok-add-in-Primitive-clause-lists : goal.returns-in_ok-add-in-Primitive-clause-lists
returns-in_ok-add-in-Primitive-clause-lists t c =
    let nodes = c.args.patterns.now in
    lists_one nodes (tree nodes c.args.id.0) _ (sides_of c.args.list.now) (sides_of c.add.new.self) refl c.in-Primitive.ensures
    c.in_ok-add-in-Primitive.ensures.some

pub returns-in_ok-steps-in-Alt-clause-lists : goal.returns-in_ok-steps-in-Alt-clause-lists
returns-in_ok-steps-in-Alt-clause-lists t c =
    let nodes = c.args.patterns.now in
    let before = c.in_ok-before-in-Alt in
    let behind = c.in_ok-behind-in-Alt in
    let steps : c.in_ok-steps-in-Alt.steps ≡ before.before + behind.behind + 2 = omega (arith, c.in_ok-both-in-Alt.ensures, c.in_ok-steps-in-Alt.ensures) in
    subst (λ n. Lists nodes (tree nodes c.args.id.0) n (sides_of c.args.list.now) (sides_of c.add_sides-in-Alt.new.list)) (sym steps)
    (lists_both nodes (tree nodes c.args.id.0) (tree nodes c.in-Alt.first.0) (tree nodes c.in-Alt.second.0) before.before behind.behind
    (sides_of c.args.list.now) (sides_of c.add_sides.new.list) (sides_of c.add_sides-in-Alt.new.list) c.in-Alt.ensures.2 before.ensures.lists
    behind.ensures.lists)

pub returns-in_ok-steps-in-Cat-clause-lists : goal.returns-in_ok-steps-in-Cat-clause-lists
returns-in_ok-steps-in-Cat-clause-lists t c =
    let nodes = c.args.patterns.now in
    let part = tree nodes c.in-Cat.part.0 in
    let above = first_fails (tree nodes c.args.id.0) part (tree nodes c.in-Cat._second.0) c.in-Cat.ensures.2 in
    subst (λ n. Lists nodes (tree nodes c.args.id.0) n (sides_of c.args.list.now) (sides_of c.add_sides-in-Cat.new.list)) (sym c.in_ok-steps-in-Cat.ensures.1)
    (lists_above nodes (tree nodes c.args.id.0) part c.in_ok-before-in-Cat.before (sides_of c.args.list.now) (sides_of c.add_sides-in-Cat.new.list) above
    c.in_ok-before-in-Cat.ensures.lists)

pub returns-in_ok-steps-in-Cond-clause-lists : goal.returns-in_ok-steps-in-Cond-clause-lists
returns-in_ok-steps-in-Cond-clause-lists t c =
    let nodes = c.args.patterns.now in
    let part = tree nodes c.in-Cond.part.0 in
    let above = cond_body_fails (tree nodes c.args.id.0) part c.in-Cond._target c.in-Cond.ensures.1 in
    subst (λ n. Lists nodes (tree nodes c.args.id.0) n (sides_of c.args.list.now) (sides_of c.add_sides-in-Cond.new.list)) (sym c.in_ok-steps-in-Cond.ensures.1)
    (lists_above nodes (tree nodes c.args.id.0) part c.in_ok-before-in-Cond.before (sides_of c.args.list.now) (sides_of c.add_sides-in-Cond.new.list) above
    c.in_ok-before-in-Cond.ensures.lists)

pub returns-in_ok-steps-in-Imm-clause-lists : goal.returns-in_ok-steps-in-Imm-clause-lists
returns-in_ok-steps-in-Imm-clause-lists t c =
    let nodes = c.args.patterns.now in
    let part = tree nodes c.in-Imm.part.0 in
    let above = imm_body_fails (tree nodes c.args.id.0) part c.in-Imm._target c.in-Imm.ensures.1 in
    subst (λ n. Lists nodes (tree nodes c.args.id.0) n (sides_of c.args.list.now) (sides_of c.add_sides-in-Imm.new.list)) (sym c.in_ok-steps-in-Imm.ensures.1)
    (lists_above nodes (tree nodes c.args.id.0) part c.in_ok-before-in-Imm.before (sides_of c.args.list.now) (sides_of c.add_sides-in-Imm.new.list) above
    c.in_ok-before-in-Imm.ensures.lists)
