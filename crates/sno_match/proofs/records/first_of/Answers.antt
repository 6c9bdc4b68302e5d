use Rattle.std.proofs.Common.{◌∙◌, ap, arith, reverse}
use Rattle.sno_match.specs.inner.Shared.{goals_of}
use Rattle.sno_match.proofs.SharedLaws.{no_goals, first_goal}
use Rattle.sno_match.proofs.records.first_of.Goals as goal

pub returns-then-goals-eq0-clause-none : goal.returns-then-goals-eq0-clause-none
returns-then-goals-eq0-clause-none c = ap (goals_of c.args.records.now) c.if-goals-eq0.true ∙ no_goals (reverse c.args.records.now)

pub returns-clause-some : goal.returns-clause-some
returns-clause-some c = first_goal c.args.records.now c.args.goals _ (omega arith) c.requires.inside c.requires.falls
