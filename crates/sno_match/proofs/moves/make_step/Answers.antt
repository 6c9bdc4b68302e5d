use Rattle.std.proofs.Common.{arith, ◌<◌, ◌≡◌, ◌+◌, ◌-◌, List, [], subst, sym}
use Rattle.std.proofs.lemmas.Result.{err_from_is_err_and}
use Rattle.sno_match.specs.Point.{Point}
use Rattle.sno_match.specs.Remaining.{IsStack}
use Rattle.sno_match.specs.Scopes.{HasCuts}
use Rattle.sno_match.specs.Silent.{LeadsOn}
use Rattle.sno_match.proofs.MoveLaws as laws
use Rattle.sno_match.proofs.PartLaws as parts
use Rattle.sno_match.proofs.moves.make_step.Goals as goal

pub returns-in-Some : goal.returns-in-Some
returns-in-Some g c =
    let nodes = c.args.patterns.now in
    let s = c.args.subject.now in
    let limit = c.args.limit in
    let old = g.P.Points.points c.args.points.now in
    let new = g.P.Points.points c.replace.new.self in
    let steps = c.args.steps.now in
    let rest = c.in-Some.rest in
    let sides = c.in-Some.ensures in
    let passed = parts.sides_passed nodes s limit steps rest.steps old new c.args.goal c.args.cursor c.args.mark c.requires.top.top rest.id
    sides.known sides.gives_way (omega (arith, sides.near)) c.in_ok-replace.ensures.ok c.requires.stands.stack c.requires.stands.cuts in
    record {
      stands = record {
        stack = passed.stack;
        cuts = passed.cuts;
        steps_in = passed.steps_in;
        looks = c.requires.stands.looks;
        small = c.requires.stands.small;
      };
      ok = λ start way. parts.leads_makes nodes s limit old new steps (steps + rest.steps) start way (omega (arith, sides.some)) passed;
      records = omega (arith, c.replace.ensures.records, sides.some);
      err = tt;
    }

pub returns-in_err-replace-clause-stands : goal.returns-in_err-replace-clause-stands
returns-in_err-replace-clause-stands g c =
    let same = sym c.in_err-replace.ensures.err.0 in
    record {
      stack = subst (IsStack c.args.patterns.now c.args.subject.now) same c.requires.stands.stack;
      cuts = subst (HasCuts c.args.patterns.now (c.args.limit - c.args.steps.now)) same c.requires.stands.cuts;
      steps_in = c.requires.stands.steps_in;
      looks = c.requires.stands.looks;
      small = c.requires.stands.small;
    }

pub returns-in_err-replace-clause-err : goal.returns-in_err-replace-clause-err
returns-in_err-replace-clause-err g c =
    let p = err_from_is_err_and c.from_residual.result c.from_residual.ensures.1 in
    let old = g.P.Points.points c.args.points.now in
    rw p.1 (subst (λ (points : List Point). LeadsOn c.args.patterns.now c.args.subject.now c.args.limit old c.args.steps.now points c.args.steps.now)
    (sym c.in_err-replace.ensures.err.0) (parts.no_step c.args.patterns.now c.args.subject.now c.args.limit old c.args.steps.now
    c.requires.stands.steps_in c.requires.stands.stack c.requires.stands.cuts))

pub returns : goal.returns
returns g c =
    let nodes = c.args.patterns.now in
    let s = c.args.subject.now in
    let old = g.P.Points.points c.args.points.now in
    let new = g.P.Points.points c.take_step.new.points in
    let steps = c.args.steps.now in
    let due : steps < c.args.limit = c.requires.room in
    let top = c.requires.top.top in
    let step = c.in_ok-take_step.ensures.ok in
    let left = c.args.limit - steps - 1 in
    let behind : c.args.limit - steps - 1 ≡ c.args.limit - (steps + 1) = omega arith in
    record {
      stands = record {
        cuts = laws.cuts_at nodes s old c.args.goal top.0 c.args.cursor top.1 c.args.mark top.2 top.3 0 c.args.limit steps [] due left behind
            c.requires.stands.cuts step.plan c.take_step.new.told new step.is_plan step.scopes step.carried;
        stack = laws.stack_at nodes s old c.args.goal top.0 c.args.cursor top.1 c.args.mark top.2 top.3 left step.plan c.take_step.new.told new
            c.requires.stands.stack step.is_plan step.carried;
        steps_in = omega (arith, due);
        looks = c.take_step.ensures.looks;
        small = c.requires.stands.small;
      };
      ok = λ start way.
          laws.made_at nodes s old c.args.goal top.0 c.args.cursor top.1 c.args.mark top.2 top.3 start c.args.limit steps way due left behind
          c.requires.stands.cuts step.plan c.take_step.new.told new step.is_plan step.scopes step.carried c.requires.stands.stack.marked;
      records = omega (arith, c.in_ok-take_step.ensures.costs.0);
      err = tt;
    }

pub take_step-requires-clause-step : goal.take_step-requires-clause-step
take_step-requires-clause-step g c =
    let nodes = c.args.patterns.now in
    let s = c.args.subject.now in
    let old = g.P.Points.points c.args.points.now in
    let top = c.requires.top.top in
    let fits = laws.fits_at nodes s old c.args.goal top.0 c.args.cursor top.1 c.args.mark top.2 top.3 c.requires.stands.stack in
    record {
      known = c.requires.top.known;
      next = parts.fits_alone nodes s c.args.cursor c.args.mark c.args.goal top.0 fits.next;
      due = c.requires.top.due;
    }

pub returns-in_err-take_step-clause-stands : goal.returns-in_err-take_step-clause-stands
returns-in_err-take_step-clause-stands g c =
    let same = sym c.in_err-take_step.ensures.costs.1.0 in
    record {
      stack = subst (IsStack c.args.patterns.now c.args.subject.now) same c.requires.stands.stack;
      cuts = subst (HasCuts c.args.patterns.now (c.args.limit - c.args.steps.now)) same c.requires.stands.cuts;
      steps_in = c.requires.stands.steps_in;
      looks = c.take_step.ensures.looks;
      small = c.requires.stands.small;
    }

pub returns-in_err-take_step-clause-err : goal.returns-in_err-take_step-clause-err
returns-in_err-take_step-clause-err g c =
    let p = err_from_is_err_and c.from_residual-in_err-take_step.result c.from_residual-in_err-take_step.ensures.1 in
    let old = g.P.Points.points c.args.points.now in
    rw p.1 (subst (λ (points : List Point). LeadsOn c.args.patterns.now c.args.subject.now c.args.limit old c.args.steps.now points c.args.steps.now)
    (sym c.in_err-take_step.ensures.costs.1.0) (parts.no_step c.args.patterns.now c.args.subject.now c.args.limit old c.args.steps.now
    c.requires.stands.steps_in c.requires.stands.stack c.requires.stands.cuts))
