use Rattle.std.proofs.Common.{◌∙◌, sym, ap, arith, reverse}
use Rattle.sno_match.specs.Point.{rest_of}
use Rattle.sno_match.specs.inner.Shared.{goals_of}
use Rattle.sno_match.proofs.SharedLaws.{no_goals, first_rest, first_smaller}
use Rattle.sno_match.proofs.records.behind_first.Goals as goal

pub returns-then-goals-eq0-clause-value : goal.returns-then-goals-eq0-clause-value
returns-then-goals-eq0-clause-value c =
    let none = no_goals (reverse c.args.records.now) in
    none ∙ sym (ap (λ n. rest_of (goals_of c.args.records.now n)) c.if-goals-eq0.true ∙ ap rest_of none)

pub returns-clause-value : goal.returns-clause-value
returns-clause-value c = first_rest c.args.records.now c.args.goals _ (omega arith) c.requires.inside c.requires.falls

pub returns-clause-smaller : goal.returns-clause-smaller
returns-clause-smaller c = first_smaller c.args.records.now c.args.goals _ (omega arith) c.requires.inside c.requires.falls
