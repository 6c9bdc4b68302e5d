use Rattle.std.proofs.Common.{◌∙◌, ap, sym, subst, reverse, take}
use Rattle.sno_match.specs.inner.Shared.{Falls}
use Rattle.sno_match.proofs.SharedLaws.{falls_cut}
use Rattle.sno_match.proofs.records.put_front.Goals as goal

pub link-goals-requires-clause-falls : goal.link-goals-requires-clause-falls
link-goals-requires-clause-falls c =
    subst (λ rs. Falls (reverse rs)) (sym (c.truncate.ensures.items ∙ ap (take c.args.keep) c.make_room.ensures.items))
    (falls_cut c.args.records.now.items c.args.keep c.requires.falls)
