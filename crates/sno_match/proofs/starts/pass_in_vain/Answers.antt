use Rattle.std.proofs.Common.{arith}
use Rattle.sno_pattern.specs.Table.{tree}
use Rattle.sno_match.proofs.StartLaws.{passes_on}
use Rattle.sno_match.proofs.starts.pass_in_vain.Goals as goal

pub starts-init : goal.starts-init
starts-init c = record {
  looks = c.requires.looks;
  inside = c.requires.inside;
  enough = c.requires.enough;
  passes = c.requires.passes;
}

pub starts-preserved : goal.starts-preserved
starts-preserved c =
    let p = tree c.args.patterns.now c.args.pattern.0 in
    let i = c.starts.invariant in
    let vain = c.in-Some in
    let behind = c.pass_behind-behind in
    record {
      looks = behind.ensures.looks;
      inside = behind.ensures.inside;
      enough = omega (arith, behind.ensures.enough, i.enough, vain.ensures.near);
      passes = passes_on p c.args.subject.now c.args.start c.starts.passed.start behind.result.start c.starts.passed.steps
          vain.steps behind.result.steps i.passes c.starts-test.true vain.ensures.fails behind.ensures.passes;
    }
