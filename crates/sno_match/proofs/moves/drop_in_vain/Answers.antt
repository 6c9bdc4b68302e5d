use Rattle.std.proofs.Common.{arith, subst}
use Rattle.sno_match.specs.declared.goal.Goal.{Goal}
use Rattle.sno_match.specs.declared.goal.Goal.TheVariants as N
use Rattle.sno_match.specs.declared.goal.Mark.{Mark}
use Rattle.sno_match.specs.declared.goal.Top.TheVariants as T
use Rattle.sno_match.specs.Top.{IsTop}
use Rattle.sno_match.proofs.PartLaws as parts
use Rattle.sno_match.proofs.moves.drop_in_vain.Goals as goal

pub returns-clause-leads : goal.returns-clause-leads
returns-clause-leads g c =
    let old = g.P.Points.points c.args.points.now in
    let id = c.in-Match.id in
    let at = c.in-Open.cursor in
    let open_at = subst (λ (goal : Goal). IsTop old (T.Open goal at c.in-Open.mark)) c.in-Match.is c.in-Open.ensures in
    let top = subst (λ (mark : Mark). IsTop old (T.Open (N.Match id) at mark)) c.in-Enter.is open_at in
    parts.vain_passed c.args.patterns.now c.args.subject.now c.args.limit c.args.steps.now c.in-Some.price old (g.P.Points.points c.pop.new.self)
    id at top c.in-Some.ensures.fails (omega (arith, c.in-Some.ensures.near, c.requires.steps_in)) c.pop.ensures.points c.requires.stack c.requires.cuts
