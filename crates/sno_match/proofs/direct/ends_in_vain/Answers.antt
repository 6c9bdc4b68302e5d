use Rattle.std.proofs.Common.{◌≡◌, ◌+◌, ◌*◌, ◌-◌, ◌∙◌, ap, arith}
use Rattle.sno_pattern.specs.Table.{tree}
use Rattle.sno_match.proofs.StartLaws.{head_fails}
use Rattle.sno_match.proofs.direct.ends_in_vain.Goals as goal

pub returns-clause-vain : goal.returns-clause-vain
returns-clause-vain c = λ goals fails.
    let nodes = c.args.patterns.now in
    let head = c.in_ok-head.head in
    let place = c.in_ok-place in
    let before = c.passed_before in
    let at = c.args.at in
    let to = before.result.start in
    let passed : place.place + 1 - at - 1 ≡ to - at = omega (arith, before.ensures.start) in
    let price : head.above + 2 + c.args.closes ≡ 1 + head.above + c.args.closes + 1 = omega arith in (
      1 + head.above + c.args.closes,
      omega (arith, before.ensures.start),
      before.ensures.steps ∙ ap (λ n. n * (head.above + 2 + c.args.closes)) passed ∙ ap (λ n. (to - at) * n) price,
      λ e low high.
          fails (λ none. absurd (omega (arith, none, c.if-behind.false))) (1 + head.above) e
          (head_fails (tree nodes c.args.behind.0) (tree nodes head.id.0) c.args.subject.now head.above e c.in-Primitive.ensures
          c.in_ok-head.ensures.fails (place.ensures.none e low (omega (arith, high, before.ensures.start)))),
    )
