use Rattle.std.proofs.Common.{refl, rules}
use mir.Syntax.{w64}
use mir.Val.{SFits}
use Rattle.std.proofs.lemmas.Int.{to_z-of_z}
use Rattle.sno_runtime.proofs.runtime.Runtime.set_keyword.Goals as goal

pub returns-clause-set : goal.returns-clause-set
returns-clause-set c =
    let fits : SFits w64 c.args.number = search rules in
    let set = rw (to_z-of_z w64 c.args.number fits) at (c.if-not-set.ensures.set refl) in
    rw (← c.self.view_is) (c.set.new.self, set, refl)
