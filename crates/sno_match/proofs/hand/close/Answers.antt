use Rattle.std.proofs.Common.{◌++◌, ◌∷◌, [], ◌∙◌, ap}
use Rattle.sno_match.proofs.HandLaws.{closed}
use Rattle.sno_match.proofs.hand.close.Goals as goal

pub returns : goal.returns
returns c = λ records below is holds.
    closed records c.args.pending.now.items c.args.point below holds c.args.behind is c.push_reserved.new.self.items c.args.assignment
    (c.push_reserved.ensures.items ∙ ap (λ entries. entries ++ c.args.assignment ∷ []) c.truncate.ensures.items)
