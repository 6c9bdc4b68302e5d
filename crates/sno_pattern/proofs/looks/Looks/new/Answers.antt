use Rattle.sno_pattern.proofs.LookLaws.{empty_true, none_earlier, still_before}
use Rattle.sno_pattern.proofs.looks.Looks.new.Goals as goal

pub invariant_of-result : goal.invariant_of-result
invariant_of-result c = (
  still_before 1 _ c.no_runs.ensures,
  (
    none_earlier 2 _ c.new.ensures,
    λ _. empty_true _ _ 1 _ _ _ c.no_runs.ensures (none_earlier 1 _ c.new.ensures) c.new-2.ensures c.new-3.ensures c.new-4.ensures,
  ),
)

pub returns : goal.returns
returns c = empty_true _ _ 1 _ _ _ c.no_runs.ensures (none_earlier 1 _ c.new.ensures) c.new-2.ensures c.new-3.ensures c.new-4.ensures
