use Rattle.std.proofs.Common.{◌+◌, arith}
use Rattle.sno_pattern.specs.Table.{tree}
use Rattle.sno_match.proofs.StartLaws.{begins_outside, outside_under, passes_on}
use Rattle.sno_match.proofs.choices.pass_sides.Goals as goal

pub starts-preserved : goal.starts-preserved
starts-preserved c =
    let nodes = c.args.patterns.now in
    let p = tree nodes c.args.pattern.0 in
    let head = tree nodes c.args.head.id.0 in
    let begins = c.args.begins.now in
    let vain = c.in-Some in
    let behind = c.pass_others-behind in
    record {
      inside = behind.ensures.inside;
      enough = omega (arith, behind.ensures.enough, c.starts.invariant.enough, vain.ensures.near);
      passes = passes_on p c.args.subject.now c.args.start c.starts.passed.start behind.result.start c.starts.passed.steps
          (vain.steps + c.args.head.above) behind.result.steps c.starts.invariant.passes c.starts-test.true
          (c.requires.fails.vain c.args.subject.now vain.steps (c.starts.passed.start + 1) vain.ensures.fails)
          (behind.ensures.passes p (outside_under p head begins.set begins.steps c.args.head.above c.requires.fails
          (begins_outside begins.set head begins.steps c.requires.begins)));
    }
