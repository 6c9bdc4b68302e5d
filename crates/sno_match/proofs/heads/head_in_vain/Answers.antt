use Rattle.std.proofs.Common.{arith, subst}
use Rattle.sno_pattern.specs.Table.{tree}
use Rattle.sno_match.specs.inner.Starts.{FailsAt}
use Rattle.sno_match.proofs.StartLaws.{head_fails}
use Rattle.sno_match.proofs.heads.head_in_vain.Goals as goal

pub returns-clause-fails : goal.returns-clause-fails
returns-clause-fails c =
    let nodes = c.args.patterns.now in
    let head = c.in_ok-head.head in
    subst (λ n. FailsAt (tree nodes c.args.pattern.0) c.args.subject.now n c.args.at) (omega arith)
    (head_fails (tree nodes c.args.pattern.0) (tree nodes head.id.0) c.args.subject.now head.above c.args.at c.in-Primitive.ensures
    c.in_ok-head.ensures.fails (c.fails_at.ensures c.if-not-fails_at.false))
