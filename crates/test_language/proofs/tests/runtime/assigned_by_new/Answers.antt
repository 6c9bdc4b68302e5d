use Rattle.test_language.proofs.tests.runtime.assigned_by_new.Goals as goal

pub assign-ending-requires-clause-value : goal.assign-ending-requires-clause-value
assign-ending-requires-clause-value c = c.value_named-value.ensures c.in_ok-runtime.runtime.nodes
