use Rattle.std.proofs.Common.{arith, rules, subst}
use Rattle.sno_pattern.specs.Table.{tree}
use Rattle.sno_match.specs.inner.Straight.{waits, LeadsTo}
use Rattle.sno_match.proofs.StraightLaws.{begun, closed, next_known}
use Rattle.sno_match.proofs.straight.straight_in_vain.Goals as goal

pub goals-init : goal.goals-init
goals-init c =
    let new = c.new-search in
    record {
      looks = c.requires.looks;
      inside = rw new.ensures.cursor c.requires.inside;
      enough = omega (arith, new.ensures.steps);
      leads = begun c.args.patterns.now c.args.subject.now c.args.pattern c.args.at new.result c.requires.known (search rules) new.ensures.waits
          new.ensures.cursor new.ensures.steps;
    }

pub goals-preserved-then-goal : goal.goals-preserved-then-goal
goals-preserved-then-goal c =
    let i = c.goals.invariant in
    let next = c.in-Some.ensures in
    record {
      looks = i.looks;
      inside = rw next.cursor i.inside;
      enough = omega (arith, c.if-left-lt4.false, next.steps, i.enough);
      leads = closed c.args.patterns.now c.args.subject.now (tree c.args.patterns.now c.args.pattern.0) c.args.at c.in-Some.goal c.goals.search
          c.next.new.self i.leads next.waits next.cursor next.steps (search rules);
    }

pub enter-requires-clause-known : goal.enter-requires-clause-known
enter-requires-clause-known c =
    let nodes = c.args.patterns.now in
    let i = c.goals.invariant in
    next_known nodes c.args.subject.now (tree nodes c.args.pattern.0) c.args.at c.goals.search.steps (waits c.next.new.self) c.in-Some.goal
    c.goals.search.cursor
    (subst (λ ids. LeadsTo nodes (tree nodes c.args.pattern.0) c.args.subject.now c.args.at c.goals.search.steps ids c.goals.search.cursor)
    c.in-Some.ensures.waits i.leads) c.if-goal.false
