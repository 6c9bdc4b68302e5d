use Rattle.std.proofs.Common.{◌+◌, ◌*◌}
use Rattle.test_matcher.proofs.tests.reference.Search.+reference.Given as goal

abbrev pub decreases-search : goal.decreases-search
decreases-search l = 8 * l.depth

abbrev pub decreases-search_behind : goal.decreases-search_behind
decreases-search_behind l = 8 * l.depth + 1

abbrev pub decreases-search_either : goal.decreases-search_either
decreases-search_either l = 8 * l.depth + 2

abbrev pub decreases-search_again : goal.decreases-search_again
decreases-search_again l = 8 * l.depth + 2

abbrev pub decreases-search_ends : goal.decreases-search_ends
decreases-search_ends l = 8 * l.depth + 2

abbrev pub decreases-search_first : goal.decreases-search_first
decreases-search_first l = 8 * l.depth + 2

abbrev pub decreases-enter_form : goal.decreases-enter_form
decreases-enter_form l = 8 * l.depth + 3

abbrev pub decreases-enter : goal.decreases-enter
decreases-enter l = 8 * l.depth + 4

abbrev pub invariant-search_again-tries : goal.invariant-search_again-tries
invariant-search_again-tries l = Unit {0}

abbrev pub invariant-search_ends-tries : goal.invariant-search_ends-tries
invariant-search_ends-tries l = Unit {0}
