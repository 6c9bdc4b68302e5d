use Rattle.sno_match.specs.inner.Shared.{goals_of}
use Rattle.sno_match.proofs.ArbPassLaws.{match_behind, close_behind}
use Rattle.sno_match.proofs.arb.behind_arb.Goals as goal

pub returns-in-Match-goal : goal.returns-in-Match-goal
returns-in-Match-goal c =
    let records = c.args.records.now in
    let first = rw c.in-Match.is at c.in_ok-arb.ensures.0 in
    let next = rw c.in-Match-goal.is at c.in_ok-next.ensures.0 in
    record {
      behind = match_behind c.args.patterns.now (goals_of records c.args.goals) (goals_of records c.in_ok-arb.arb.behind)
          (goals_of records c.in_ok-next.next.behind) c.in-Match.id c.in-Match-goal.id first next (c.is_arb.ensures c.if-not-is_arb.false) c.requires.known;
    }

pub returns-in-Match-goal-2 : goal.returns-in-Match-goal-2
returns-in-Match-goal-2 c =
    let records = c.args.records.now in
    let first = rw c.in-Match.is at c.in_ok-arb.ensures.0 in
    let next = rw c.in-CloseCond.is at c.in_ok-next.ensures.0 in
    let last = rw c.in-Match-goal-2.is at c.in_ok-second-in-CloseCond.ensures.0 in
    record {
      behind = close_behind c.args.patterns.now (goals_of records c.args.goals) (goals_of records c.in_ok-arb.arb.behind)
          (goals_of records c.in_ok-next.next.behind) (goals_of records c.in_ok-second-in-CloseCond.second.behind) c.in-Match.id c.in-Match-goal-2.id
          c.in-CloseCond.target c.in-CloseCond.start first next last (c.is_arb.ensures c.if-not-is_arb.false) c.requires.known;
    }
