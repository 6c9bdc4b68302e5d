use Rattle.std.proofs.Common.{arith, ap, length, subst, Option, Some, ◌+◌}
use Rattle.sno_match.specs.declared.shared.Held.{Held}
use Rattle.sno_match.specs.inner.Shared.{Holds, points_of}
use Rattle.sno_match.specs.Remaining.{IsStack}
use Rattle.sno_match.specs.Silent.{LeadsOn}
use Rattle.sno_match.proofs.HandLaws.{unchanged}
use Rattle.sno_match.proofs.PartLaws as parts
use Rattle.sno_match.proofs.silent.take_steps.Goals as goal

pub steps-init : goal.steps-init
steps-init c = record {
  holds = c.requires.holds;
  looks = c.requires.stands.looks;
  leads = parts.no_step c.args.patterns.now c.args.subject.now c.args.limit _ c.args.taken c.requires.stands.steps_in c.requires.stands.stack
      c.requires.stands.cuts;
  records = omega arith;
}

pub take_step-requires-clause-holds : goal.take_step-requires-clause-holds
take_step-requires-clause-holds c =
    subst (λ (t : Option Held). Holds c.steps.lists.records.items c.steps.lists.pending.items t c.steps.lists.below.items) c.in-Some.is c.steps.invariant.holds

pub take_step-requires-clause-stack : goal.take_step-requires-clause-stack
take_step-requires-clause-stack c =
    subst (λ (t : Option Held). IsStack c.args.patterns.now c.args.subject.now
    (points_of c.steps.lists.records.items c.steps.lists.pending.items t c.steps.lists.below.items)) c.in-Some.is c.steps.invariant.leads.stack

pub take_step-requires-clause-looks : goal.take_step-requires-clause-looks
take_step-requires-clause-looks c = c.steps.invariant.looks

pub returns-in_default-clause-looks : goal.returns-in_default-clause-looks
returns-in_default-clause-looks c = c.steps.invariant.looks

pub returns-in_default-clause-holds : goal.returns-in_default-clause-holds
returns-in_default-clause-holds c =
    subst (λ (t : Option Held). Holds c.steps.lists.records.items c.steps.lists.pending.items t c.steps.lists.below.items) c.in_default.is c.steps.invariant.holds

pub returns-in_default-clause-leads : goal.returns-in_default-clause-leads
returns-in_default-clause-leads c =
    subst (λ (t : Option Held). LeadsOn c.args.patterns.now c.args.subject.now c.args.limit
    (points_of c.args.lists.now.records.items c.args.lists.now.pending.items c.args.lists.now.top c.args.lists.now.below.items) c.args.taken
    (points_of c.steps.lists.records.items c.steps.lists.pending.items t c.steps.lists.below.items) c.steps.steps) c.in_default.is c.steps.invariant.leads

pub returns-in_default-clause-records : goal.returns-in_default-clause-records
returns-in_default-clause-records c = c.steps.invariant.records

pub returns-then-not-take_step-clause-holds : goal.returns-then-not-take_step-clause-holds
returns-then-not-take_step-clause-holds c =
    let same = rw c.if-not-take_step.true at c.take_step.ensures.leads in
    unchanged (λ rs ps t bs. Holds rs ps t bs) c.steps.lists.records.items c.take_step.new.records.items c.steps.lists.pending.items
    c.take_step.new.pending.items (Some c.in-Some.point) c.take_step.new.top c.steps.lists.below.items c.take_step.new.below.items
    same.0 same.1 same.2 same.3
    (subst (λ (t : Option Held). Holds c.steps.lists.records.items c.steps.lists.pending.items t c.steps.lists.below.items) c.in-Some.is c.steps.invariant.holds)

pub returns-then-not-take_step-clause-leads : goal.returns-then-not-take_step-clause-leads
returns-then-not-take_step-clause-leads c =
    let before = subst (λ (t : Option Held). LeadsOn c.args.patterns.now c.args.subject.now c.args.limit
    (points_of c.args.lists.now.records.items c.args.lists.now.pending.items c.args.lists.now.top c.args.lists.now.below.items) c.args.taken
    (points_of c.steps.lists.records.items c.steps.lists.pending.items t c.steps.lists.below.items) c.steps.steps) c.in-Some.is c.steps.invariant.leads in
    let same = rw c.if-not-take_step.true at c.take_step.ensures.leads in
    unchanged (λ rs ps t bs. LeadsOn c.args.patterns.now c.args.subject.now c.args.limit
    (points_of c.args.lists.now.records.items c.args.lists.now.pending.items c.args.lists.now.top c.args.lists.now.below.items) c.args.taken
    (points_of rs ps t bs) c.steps.steps) c.steps.lists.records.items c.take_step.new.records.items c.steps.lists.pending.items
    c.take_step.new.pending.items (Some c.in-Some.point) c.take_step.new.top c.steps.lists.below.items c.take_step.new.below.items
    same.0 same.1 same.2 same.3 before

pub returns-then-not-take_step-clause-records : goal.returns-then-not-take_step-clause-records
returns-then-not-take_step-clause-records c =
    let same = rw c.if-not-take_step.true at c.take_step.ensures.leads in
    omega (arith, ap length same.0, c.steps.invariant.records)

pub steps-preserved : goal.steps-preserved
steps-preserved c =
    let before = subst (λ (t : Option Held). LeadsOn c.args.patterns.now c.args.subject.now c.args.limit
    (points_of c.args.lists.now.records.items c.args.lists.now.pending.items c.args.lists.now.top c.args.lists.now.below.items) c.args.taken
    (points_of c.steps.lists.records.items c.steps.lists.pending.items t c.steps.lists.below.items) c.steps.steps) c.in-Some.is c.steps.invariant.leads in
    let led = rw c.if-not-take_step.false at c.take_step.ensures.leads in
    record {
      holds = led.0;
      looks = c.take_step.ensures.looks;
      leads = parts.steps_behind c.args.patterns.now c.args.subject.now c.args.limit
          (points_of c.args.lists.now.records.items c.args.lists.now.pending.items c.args.lists.now.top c.args.lists.now.below.items)
          (points_of c.steps.lists.records.items c.steps.lists.pending.items (Some c.in-Some.point) c.steps.lists.below.items)
          (points_of c.take_step.new.records.items c.take_step.new.pending.items c.take_step.new.top c.take_step.new.below.items)
          c.args.taken c.steps.steps (c.steps.steps + 1) before (led.1 c.args.limit c.steps.steps c.steps-test.true before.cuts);
      records = omega (arith, led.2, c.steps.invariant.records);
    }

pub returns-clause-looks : goal.returns-clause-looks
returns-clause-looks c = c.steps.invariant.looks

pub returns-clause-holds : goal.returns-clause-holds
returns-clause-holds c = c.steps.invariant.holds

pub returns-clause-leads : goal.returns-clause-leads
returns-clause-leads c = c.steps.invariant.leads

pub returns-clause-records : goal.returns-clause-records
returns-clause-records c = c.steps.invariant.records
