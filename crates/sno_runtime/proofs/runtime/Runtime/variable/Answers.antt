use Rattle.std.proofs.Common.{sym, subst, arith}
use Rattle.sno_runtime.specs.Runtime.{IsKnown}
use Rattle.sno_runtime.proofs.Stores.{known_joined, named}
use Rattle.sno_runtime.proofs.runtime.Runtime.variable.Goals as goal

pub invariant_of-self-2 : goal.invariant_of-self-2
invariant_of-self-2 c = subst (IsKnown c.self.inside.patterns) (sym c.in_ok-id.ensures.1)
    (known_joined c.self.inside.patterns c.args.name.now c.self.inside.store (let short = c.if-name-gt-MOST_BYTES.false in omega arith) c.self.invariant)

pub returns : goal.returns
returns c = rw (← c.self.view_is) (named _ _ c.args.name.now c.in_ok-id.id (let short = c.if-name-gt-MOST_BYTES.false in omega arith) c.in_ok-id.ensures)
