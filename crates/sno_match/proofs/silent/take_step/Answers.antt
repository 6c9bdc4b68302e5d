use Rattle.std.proofs.Common.{◌≡◌, ◌∷◌, ap, refl, subst, sym}
use Rattle.sno_match.specs.declared.goal.Goal.TheVariants as N
use Rattle.sno_match.specs.declared.goal.Mark.TheVariants.{Enter, Next}
use Rattle.sno_match.specs.inner.Shared.{goals_of, marked}
use Rattle.sno_match.proofs.HandLaws.{led}
use Rattle.sno_match.proofs.silent.take_step.Goals as goal

pub returns-in-None-clause-leads : goal.returns-in-None-clause-leads
returns-in-None-clause-leads c =
    let records = c.args.records.now.items in
    let list = subst (λ rs. goals_of rs c.args.point.goals ≡ c.in-Some.first.goal ∷ goals_of rs c.in-Some.first.behind) c.deref.ensures.value c.in-Some.ensures.0 in
    led c.args.patterns.now c.args.subject.now c.in-Some.first.goal c.args.point.cursor Enter records c.args.pending.now.items c.args.point c.args.below.now.items
    c.enter_goal.new.records.items c.enter_goal.new.pending.items c.enter_goal.new.top c.enter_goal.new.below.items c.enter_goal.result (goals_of records c.in-Some.first.behind) list
    (ap marked (sym c.in-None.is)) refl c.requires.stack c.enter_goal.ensures.enters

pub returns-in-Match-clause-leads : goal.returns-in-Match-clause-leads
returns-in-Match-clause-leads c =
    let records = c.args.records.now.items in
    let list = subst (λ rs. goals_of rs c.args.point.goals ≡ c.in-Some.first.goal ∷ goals_of rs c.in-Some.first.behind) c.deref.ensures.value c.in-Some.ensures.0 in
    led c.args.patterns.now c.args.subject.now (N.Match c.in-Match.id) c.args.point.cursor (Next c.in-Some-next.at) records c.args.pending.now.items
    c.args.point c.args.below.now.items c.go_back.new.records.items c.args.pending.now.items c.go_back.new.top c.go_back.new.below.items c.go_back.result
    (goals_of records c.in-Some.first.behind) (rw c.in-Match.is at list) (ap marked (sym c.in-Some-next.is)) refl c.requires.stack
    (c.go_back.ensures c.args.pending.now.items c.requires.holds)
