use Rattle.test_language.proofs.tests.runtime.given_by_new.Goals as goal

pub given-given-requires-clause-x : goal.given-given-requires-clause-x
given-given-requires-clause-x c = c.value_named.ensures c.in_ok-runtime.runtime.nodes

pub given-given-requires-clause-y : goal.given-given-requires-clause-y
given-given-requires-clause-y c = c.value_named-2.ensures c.in_ok-runtime.runtime.nodes
