use Rattle.std.proofs.Common.{◌∙◌, ap, length}
use Rattle.std.specs.Prelude.{unwrap_or}
use Rattle.sno_pattern.proofs.RunLaws.{rest_of, span-some}
use Rattle.sno_pattern.proofs.sets.span_end.Goals as goal

pub returns-else-run-eq0 : goal.returns-else-run-eq0
returns-else-run-eq0 c =
    let left = length (rest_of c.args.subject.now c.args.at) in
    span-some c.args.set.now c.args.subject.now c.args.at c.unwrap_or-run.result
    (c.unwrap_or-run.ensures ∙ ap (λ run. unwrap_or run left) c.first_not_in.ensures) c.if-run-eq0.false
