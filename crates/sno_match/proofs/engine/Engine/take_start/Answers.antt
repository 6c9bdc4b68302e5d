use Rattle.std.proofs.Common.{◌≡◌, ◌<◌, ◌+◌, length, arith, refl, ◌∙◌, ap, []}
use Rattle.sno_match.specs.declared.event.Event.TheVariants as V
use Rattle.sno_match.specs.declared.engine.State.TheVariants as S
use Rattle.sno_match.specs.Matching.{Matching}
use Rattle.sno_match.specs.inner.Running.{later_starts}
use Rattle.sno_match.proofs.SessionLaws.{anchored_once, last_start}
use Rattle.sno_match.proofs.EngineLaws as laws
use Rattle.sno_match.proofs.CountLaws.{match_few, match_counted}
use Rattle.sno_match.proofs.LookLaws.{same_looks}
use Rattle.sno_match.proofs.engine.Engine.take_start.Goals as goal
use Rattle.sno_match.proofs.engine.Engine.take_start.Goals.{then-self-via-then-self, then-self-via-else-self+then-passed-end}

pub overflow_add-self : goal.overflow_add-self
overflow_add-self g c = let few = match_few _ _ _ _ c.self.invariant.0 in omega (arith, few, c.self.ranges)

pub overflow_add-self-then-steps-self : goal.overflow_add-self-then-steps-self
overflow_add-self-then-steps-self g c = let few = match_few _ _ _ _ c.self.invariant.0 in omega (arith, few, c.self.ranges)

pub invariant_of-self : goal.invariant_of-self
invariant_of-self g c =
    let none : later_starts c.self.inside.anchored c.self.inside.subject.bytes c.pass_failing_starts-passed.result.start ≡ [] =
    elim c.then-self.branch [
      | then-self-via-then-self w ↦ anchored_once c.self.inside.anchored c.self.inside.subject.bytes c.pass_failing_starts-passed.result.start w.if-self.true
      | then-self-via-else-self+then-passed-end w ↦ last_start c.self.inside.anchored c.self.inside.subject.bytes c.pass_failing_starts-passed.result.start
          (w.if-passed-end.true ∙ ap length c.as_slice-subject.ensures.value)
    ] in
    let l = laws.over_leads c.args.self.now c.self.inside.lent.value c.self.inside.pattern c.self.inside.subject.bytes c.self.inside.anchored
    c.self.inside.limit c.self.inside.answers.items c.self.inside.told c.self.inside.steps c.self.inside.state c.self.inside.way.items
    (g.P.Points.points c.self.inside.points) (g.P.Points.records c.self.inside.points) c.self.inside.start c.self.view_is c.self.invariant.0
    c.requires.going c.requires.on c.requires.none
    c.args.patterns.now c.as_slice-subject.result.now c.requires.table c.as_slice-subject.ensures.value c.pass_failing_starts-passed.result.start
    c.pass_failing_starts-passed.result.steps c.pass_failing_starts-passed.ensures.inside c.pass_failing_starts-passed.ensures.enough
    c.pass_failing_starts-passed.ensures.passes none in (
      (laws.tells_all c.args.self.now c.self.inside.lent.value c.self.inside.pattern c.self.inside.subject.bytes c.self.inside.anchored c.self.inside.limit
          c.self.inside.answers.items c.self.inside.told c.self.inside.steps c.self.inside.state c.self.inside.way.items
          (g.P.Points.points c.self.inside.points) (g.P.Points.records c.self.inside.points) c.self.inside.start c.self.view_is c.self.invariant.0
          c.requires.going c.requires.on
          V.Exhausted (c.self.inside.steps + c.pass_failing_starts-passed.result.steps) c.pass_failing_starts-passed.result.start
          (g.P.Points.points c.self.inside.points) c.self.inside.way.items (g.P.Points.records c.self.inside.points) l (S.Ended V.Exhausted) refl).0,
      same_looks c.self.inside.lent.value c.args.patterns.now c.self.inside.subject.bytes c.as_slice-subject.result.now c.pass_failing_starts-passed.new.looks
          (ap (λ (x : Matching). x.nodes) c.self.view_is ∙ c.requires.table) c.as_slice-subject.ensures.value c.pass_failing_starts-passed.ensures.looks,
      c.self.invariant.2,
    )

pub returns-then-self-clause-ok : goal.returns-then-self-clause-ok
returns-then-self-clause-ok g c =
    let none : later_starts c.self.inside.anchored c.self.inside.subject.bytes c.pass_failing_starts-passed.result.start ≡ [] =
    elim c.then-self.branch [
      | then-self-via-then-self w ↦ anchored_once c.self.inside.anchored c.self.inside.subject.bytes c.pass_failing_starts-passed.result.start w.if-self.true
      | then-self-via-else-self+then-passed-end w ↦ last_start c.self.inside.anchored c.self.inside.subject.bytes c.pass_failing_starts-passed.result.start
          (w.if-passed-end.true ∙ ap length c.as_slice-subject.ensures.value)
    ] in
    let l = laws.over_leads c.args.self.now c.self.inside.lent.value c.self.inside.pattern c.self.inside.subject.bytes c.self.inside.anchored
    c.self.inside.limit c.self.inside.answers.items c.self.inside.told c.self.inside.steps c.self.inside.state c.self.inside.way.items
    (g.P.Points.points c.self.inside.points) (g.P.Points.records c.self.inside.points) c.self.inside.start c.self.view_is c.self.invariant.0
    c.requires.going c.requires.on c.requires.none
    c.args.patterns.now c.as_slice-subject.result.now c.requires.table c.as_slice-subject.ensures.value c.pass_failing_starts-passed.result.start
    c.pass_failing_starts-passed.result.steps c.pass_failing_starts-passed.ensures.inside c.pass_failing_starts-passed.ensures.enough
    c.pass_failing_starts-passed.ensures.passes none in
    (laws.tells_all c.args.self.now c.self.inside.lent.value c.self.inside.pattern c.self.inside.subject.bytes c.self.inside.anchored c.self.inside.limit
    c.self.inside.answers.items c.self.inside.told c.self.inside.steps c.self.inside.state c.self.inside.way.items (g.P.Points.points c.self.inside.points)
    (g.P.Points.records c.self.inside.points) c.self.inside.start c.self.view_is c.self.invariant.0 c.requires.going c.requires.on
    V.Exhausted (c.self.inside.steps + c.pass_failing_starts-passed.result.steps) c.pass_failing_starts-passed.result.start
    (g.P.Points.points c.self.inside.points) c.self.inside.way.items (g.P.Points.records c.self.inside.points) l (S.Ended V.Exhausted) refl).1

pub returns-then-self-clause-counts : goal.returns-then-self-clause-counts
returns-then-self-clause-counts g c =
    let none : later_starts c.self.inside.anchored c.self.inside.subject.bytes c.pass_failing_starts-passed.result.start ≡ [] =
    elim c.then-self.branch [
      | then-self-via-then-self w ↦ anchored_once c.self.inside.anchored c.self.inside.subject.bytes c.pass_failing_starts-passed.result.start w.if-self.true
      | then-self-via-else-self+then-passed-end w ↦ last_start c.self.inside.anchored c.self.inside.subject.bytes c.pass_failing_starts-passed.result.start
          (w.if-passed-end.true ∙ ap length c.as_slice-subject.ensures.value)
    ] in
    let l = laws.over_leads c.args.self.now c.self.inside.lent.value c.self.inside.pattern c.self.inside.subject.bytes c.self.inside.anchored
    c.self.inside.limit c.self.inside.answers.items c.self.inside.told c.self.inside.steps c.self.inside.state c.self.inside.way.items
    (g.P.Points.points c.self.inside.points) (g.P.Points.records c.self.inside.points) c.self.inside.start c.self.view_is c.self.invariant.0
    c.requires.going c.requires.on c.requires.none
    c.args.patterns.now c.as_slice-subject.result.now c.requires.table c.as_slice-subject.ensures.value c.pass_failing_starts-passed.result.start
    c.pass_failing_starts-passed.result.steps c.pass_failing_starts-passed.ensures.inside c.pass_failing_starts-passed.ensures.enough
    c.pass_failing_starts-passed.ensures.passes none in
    (laws.tells_all c.args.self.now c.self.inside.lent.value c.self.inside.pattern c.self.inside.subject.bytes c.self.inside.anchored c.self.inside.limit
    c.self.inside.answers.items c.self.inside.told c.self.inside.steps c.self.inside.state c.self.inside.way.items (g.P.Points.points c.self.inside.points)
    (g.P.Points.records c.self.inside.points) c.self.inside.start c.self.view_is c.self.invariant.0 c.requires.going c.requires.on
    V.Exhausted (c.self.inside.steps + c.pass_failing_starts-passed.result.steps) c.pass_failing_starts-passed.result.start
    (g.P.Points.points c.self.inside.points) c.self.inside.way.items (g.P.Points.records c.self.inside.points) l (S.Ended V.Exhausted) refl).2

pub invariant_of-self-then-steps-self : goal.invariant_of-self-then-steps-self
invariant_of-self-then-steps-self g c =
    let same = ap length c.as_slice-subject.ensures.value in
    let room : c.pass_failing_starts-passed.result.start < length c.self.inside.subject.bytes =
    omega (arith, same, ap length c.as_slice-subject.ensures.value, c.pass_failing_starts-passed.ensures.inside, c.if-passed-end.false) in
    let l = laws.short_leads c.args.self.now c.self.inside.lent.value c.self.inside.pattern c.self.inside.subject.bytes c.self.inside.anchored
    c.self.inside.limit c.self.inside.answers.items c.self.inside.told c.self.inside.steps c.self.inside.state c.self.inside.way.items
    (g.P.Points.points c.self.inside.points) (g.P.Points.records c.self.inside.points) c.self.inside.start c.self.view_is c.self.invariant.0
    c.requires.going c.requires.on c.requires.none
    c.args.patterns.now c.as_slice-subject.result.now c.requires.table c.as_slice-subject.ensures.value c.pass_failing_starts-passed.result.start
    c.pass_failing_starts-passed.result.steps c.pass_failing_starts-passed.ensures.inside c.pass_failing_starts-passed.ensures.enough
    c.pass_failing_starts-passed.ensures.passes c.if-self.false room c.if-steps-self.true in (
      (laws.tells_all c.args.self.now c.self.inside.lent.value c.self.inside.pattern c.self.inside.subject.bytes c.self.inside.anchored c.self.inside.limit
          c.self.inside.answers.items c.self.inside.told c.self.inside.steps c.self.inside.state c.self.inside.way.items
          (g.P.Points.points c.self.inside.points) (g.P.Points.records c.self.inside.points) c.self.inside.start c.self.view_is c.self.invariant.0
          c.requires.going c.requires.on
          V.Limit (c.self.inside.steps + c.pass_failing_starts-passed.result.steps) c.pass_failing_starts-passed.result.start
          (g.P.Points.points c.self.inside.points) c.self.inside.way.items (g.P.Points.records c.self.inside.points) l (S.Ended V.Limit) refl).0,
      same_looks c.self.inside.lent.value c.args.patterns.now c.self.inside.subject.bytes c.as_slice-subject.result.now c.pass_failing_starts-passed.new.looks
          (ap (λ (x : Matching). x.nodes) c.self.view_is ∙ c.requires.table) c.as_slice-subject.ensures.value c.pass_failing_starts-passed.ensures.looks,
      c.self.invariant.2,
    )

pub returns-then-steps-self-clause-ok : goal.returns-then-steps-self-clause-ok
returns-then-steps-self-clause-ok g c =
    let same = ap length c.as_slice-subject.ensures.value in
    let room : c.pass_failing_starts-passed.result.start < length c.self.inside.subject.bytes =
    omega (arith, same, ap length c.as_slice-subject.ensures.value, c.pass_failing_starts-passed.ensures.inside, c.if-passed-end.false) in
    let l = laws.short_leads c.args.self.now c.self.inside.lent.value c.self.inside.pattern c.self.inside.subject.bytes c.self.inside.anchored
    c.self.inside.limit c.self.inside.answers.items c.self.inside.told c.self.inside.steps c.self.inside.state c.self.inside.way.items
    (g.P.Points.points c.self.inside.points) (g.P.Points.records c.self.inside.points) c.self.inside.start c.self.view_is c.self.invariant.0
    c.requires.going c.requires.on c.requires.none
    c.args.patterns.now c.as_slice-subject.result.now c.requires.table c.as_slice-subject.ensures.value c.pass_failing_starts-passed.result.start
    c.pass_failing_starts-passed.result.steps c.pass_failing_starts-passed.ensures.inside c.pass_failing_starts-passed.ensures.enough
    c.pass_failing_starts-passed.ensures.passes c.if-self.false room c.if-steps-self.true in
    (laws.tells_all c.args.self.now c.self.inside.lent.value c.self.inside.pattern c.self.inside.subject.bytes c.self.inside.anchored c.self.inside.limit
    c.self.inside.answers.items c.self.inside.told c.self.inside.steps c.self.inside.state c.self.inside.way.items (g.P.Points.points c.self.inside.points)
    (g.P.Points.records c.self.inside.points) c.self.inside.start c.self.view_is c.self.invariant.0 c.requires.going c.requires.on
    V.Limit (c.self.inside.steps + c.pass_failing_starts-passed.result.steps) c.pass_failing_starts-passed.result.start (g.P.Points.points c.self.inside.points)
    c.self.inside.way.items (g.P.Points.records c.self.inside.points) l (S.Ended V.Limit) refl).1

pub returns-then-steps-self-clause-counts : goal.returns-then-steps-self-clause-counts
returns-then-steps-self-clause-counts g c =
    let same = ap length c.as_slice-subject.ensures.value in
    let room : c.pass_failing_starts-passed.result.start < length c.self.inside.subject.bytes =
    omega (arith, same, ap length c.as_slice-subject.ensures.value, c.pass_failing_starts-passed.ensures.inside, c.if-passed-end.false) in
    let l = laws.short_leads c.args.self.now c.self.inside.lent.value c.self.inside.pattern c.self.inside.subject.bytes c.self.inside.anchored
    c.self.inside.limit c.self.inside.answers.items c.self.inside.told c.self.inside.steps c.self.inside.state c.self.inside.way.items
    (g.P.Points.points c.self.inside.points) (g.P.Points.records c.self.inside.points) c.self.inside.start c.self.view_is c.self.invariant.0
    c.requires.going c.requires.on c.requires.none
    c.args.patterns.now c.as_slice-subject.result.now c.requires.table c.as_slice-subject.ensures.value c.pass_failing_starts-passed.result.start
    c.pass_failing_starts-passed.result.steps c.pass_failing_starts-passed.ensures.inside c.pass_failing_starts-passed.ensures.enough
    c.pass_failing_starts-passed.ensures.passes c.if-self.false room c.if-steps-self.true in
    (laws.tells_all c.args.self.now c.self.inside.lent.value c.self.inside.pattern c.self.inside.subject.bytes c.self.inside.anchored c.self.inside.limit
    c.self.inside.answers.items c.self.inside.told c.self.inside.steps c.self.inside.state c.self.inside.way.items (g.P.Points.points c.self.inside.points)
    (g.P.Points.records c.self.inside.points) c.self.inside.start c.self.view_is c.self.invariant.0 c.requires.going c.requires.on
    V.Limit (c.self.inside.steps + c.pass_failing_starts-passed.result.steps) c.pass_failing_starts-passed.result.start (g.P.Points.points c.self.inside.points)
    c.self.inside.way.items (g.P.Points.records c.self.inside.points) l (S.Ended V.Limit) refl).2

pub returns-in_err-begin-clause-counts : goal.returns-in_err-begin-clause-counts
returns-in_err-begin-clause-counts g c =
    let e = c.in_err-begin.ensures.err in
    let kept = match_counted _ _ _ _ c.self.invariant.0 refl in
    rw (e.0, e.1) kept

pub invariant_of-self-2 : goal.invariant_of-self-2
invariant_of-self-2 g c =
    let same = ap length c.as_slice-subject.ensures.value in
    let room : c.pass_failing_starts-passed.result.start < length c.self.inside.subject.bytes =
    omega (arith, same, ap length c.as_slice-subject.ensures.value, c.pass_failing_starts-passed.ensures.inside, c.if-passed-end.false) in
    let l = laws.begun_leads c.args.self.now c.self.inside.lent.value c.self.inside.pattern c.self.inside.subject.bytes c.self.inside.anchored
    c.self.inside.limit c.self.inside.answers.items c.self.inside.told c.self.inside.steps c.self.inside.state c.self.inside.way.items
    (g.P.Points.points c.self.inside.points) (g.P.Points.records c.self.inside.points) c.self.inside.start c.self.view_is c.self.invariant.0
    c.requires.going c.requires.on c.requires.none
    c.args.patterns.now c.as_slice-subject.result.now c.requires.table c.as_slice-subject.ensures.value c.pass_failing_starts-passed.result.start
    c.pass_failing_starts-passed.result.steps c.pass_failing_starts-passed.ensures.inside c.pass_failing_starts-passed.ensures.enough
    c.pass_failing_starts-passed.ensures.passes c.if-self.false room (g.P.Points.points c.begin.new.self) (g.P.Points.records c.begin.new.self)
    c.if-steps-self.false c.in_ok-begin.ensures.ok c.in_ok-begin.ensures.records in
    let size_new = ap length c.in_ok-begin.ensures.ok in
    let empty = ap (λ (x : Matching). x.points) c.self.view_is ∙ c.requires.none in
    let due : c.self.inside.steps + c.pass_failing_starts-passed.result.steps < c.self.inside.limit =
    omega (arith, c.self.invariant.0.steps_in, c.pass_failing_starts-passed.ensures.enough, c.if-steps-self.false) in (
      (laws.goes_all c.args.self.now c.self.inside.lent.value c.self.inside.pattern c.self.inside.subject.bytes c.self.inside.anchored c.self.inside.limit
          c.self.inside.answers.items c.self.inside.told c.self.inside.steps c.self.inside.state c.self.inside.way.items
          (g.P.Points.points c.self.inside.points) (g.P.Points.records c.self.inside.points) c.self.inside.start c.self.view_is c.self.invariant.0
          c.requires.going c.requires.on
          (c.self.inside.steps + c.pass_failing_starts-passed.result.steps + 1) (c.pass_failing_starts-passed.result.start + 1)
          (g.P.Points.points c.begin.new.self) c.self.inside.way.items (g.P.Points.records c.begin.new.self) l (omega (arith, size_new, empty, due))).0,
      same_looks c.self.inside.lent.value c.args.patterns.now c.self.inside.subject.bytes c.as_slice-subject.result.now c.pass_failing_starts-passed.new.looks
          (ap (λ (x : Matching). x.nodes) c.self.view_is ∙ c.requires.table) c.as_slice-subject.ensures.value c.pass_failing_starts-passed.ensures.looks,
      c.self.invariant.2,
    )

pub returns-clause-ok : goal.returns-clause-ok
returns-clause-ok g c =
    let same = ap length c.as_slice-subject.ensures.value in
    let room : c.pass_failing_starts-passed.result.start < length c.self.inside.subject.bytes =
    omega (arith, same, ap length c.as_slice-subject.ensures.value, c.pass_failing_starts-passed.ensures.inside, c.if-passed-end.false) in
    let l = laws.begun_leads c.args.self.now c.self.inside.lent.value c.self.inside.pattern c.self.inside.subject.bytes c.self.inside.anchored
    c.self.inside.limit c.self.inside.answers.items c.self.inside.told c.self.inside.steps c.self.inside.state c.self.inside.way.items
    (g.P.Points.points c.self.inside.points) (g.P.Points.records c.self.inside.points) c.self.inside.start c.self.view_is c.self.invariant.0
    c.requires.going c.requires.on c.requires.none
    c.args.patterns.now c.as_slice-subject.result.now c.requires.table c.as_slice-subject.ensures.value c.pass_failing_starts-passed.result.start
    c.pass_failing_starts-passed.result.steps c.pass_failing_starts-passed.ensures.inside c.pass_failing_starts-passed.ensures.enough
    c.pass_failing_starts-passed.ensures.passes c.if-self.false room (g.P.Points.points c.begin.new.self) (g.P.Points.records c.begin.new.self)
    c.if-steps-self.false c.in_ok-begin.ensures.ok c.in_ok-begin.ensures.records in
    let size_new = ap length c.in_ok-begin.ensures.ok in
    let empty = ap (λ (x : Matching). x.points) c.self.view_is ∙ c.requires.none in
    let due : c.self.inside.steps + c.pass_failing_starts-passed.result.steps < c.self.inside.limit =
    omega (arith, c.self.invariant.0.steps_in, c.pass_failing_starts-passed.ensures.enough, c.if-steps-self.false) in
    (laws.goes_all c.args.self.now c.self.inside.lent.value c.self.inside.pattern c.self.inside.subject.bytes c.self.inside.anchored c.self.inside.limit
    c.self.inside.answers.items c.self.inside.told c.self.inside.steps c.self.inside.state c.self.inside.way.items (g.P.Points.points c.self.inside.points)
    (g.P.Points.records c.self.inside.points) c.self.inside.start c.self.view_is c.self.invariant.0 c.requires.going c.requires.on
    (c.self.inside.steps + c.pass_failing_starts-passed.result.steps + 1) (c.pass_failing_starts-passed.result.start + 1) (g.P.Points.points c.begin.new.self)
    c.self.inside.way.items (g.P.Points.records c.begin.new.self) l (omega (arith, size_new, empty, due))).1

pub returns-clause-counts : goal.returns-clause-counts
returns-clause-counts g c =
    let same = ap length c.as_slice-subject.ensures.value in
    let room : c.pass_failing_starts-passed.result.start < length c.self.inside.subject.bytes =
    omega (arith, same, ap length c.as_slice-subject.ensures.value, c.pass_failing_starts-passed.ensures.inside, c.if-passed-end.false) in
    let l = laws.begun_leads c.args.self.now c.self.inside.lent.value c.self.inside.pattern c.self.inside.subject.bytes c.self.inside.anchored
    c.self.inside.limit c.self.inside.answers.items c.self.inside.told c.self.inside.steps c.self.inside.state c.self.inside.way.items
    (g.P.Points.points c.self.inside.points) (g.P.Points.records c.self.inside.points) c.self.inside.start c.self.view_is c.self.invariant.0
    c.requires.going c.requires.on c.requires.none
    c.args.patterns.now c.as_slice-subject.result.now c.requires.table c.as_slice-subject.ensures.value c.pass_failing_starts-passed.result.start
    c.pass_failing_starts-passed.result.steps c.pass_failing_starts-passed.ensures.inside c.pass_failing_starts-passed.ensures.enough
    c.pass_failing_starts-passed.ensures.passes c.if-self.false room (g.P.Points.points c.begin.new.self) (g.P.Points.records c.begin.new.self)
    c.if-steps-self.false c.in_ok-begin.ensures.ok c.in_ok-begin.ensures.records in
    let size_new = ap length c.in_ok-begin.ensures.ok in
    let empty = ap (λ (x : Matching). x.points) c.self.view_is ∙ c.requires.none in
    let due : c.self.inside.steps + c.pass_failing_starts-passed.result.steps < c.self.inside.limit =
    omega (arith, c.self.invariant.0.steps_in, c.pass_failing_starts-passed.ensures.enough, c.if-steps-self.false) in
    (laws.goes_all c.args.self.now c.self.inside.lent.value c.self.inside.pattern c.self.inside.subject.bytes c.self.inside.anchored c.self.inside.limit
    c.self.inside.answers.items c.self.inside.told c.self.inside.steps c.self.inside.state c.self.inside.way.items (g.P.Points.points c.self.inside.points)
    (g.P.Points.records c.self.inside.points) c.self.inside.start c.self.view_is c.self.invariant.0 c.requires.going c.requires.on
    (c.self.inside.steps + c.pass_failing_starts-passed.result.steps + 1) (c.pass_failing_starts-passed.result.start + 1) (g.P.Points.points c.begin.new.self)
    c.self.inside.way.items (g.P.Points.records c.begin.new.self) l (omega (arith, size_new, empty, due))).2
