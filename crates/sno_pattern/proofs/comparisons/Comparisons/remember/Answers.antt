use Rattle.std.proofs.Common.{subst, sym}
use Rattle.sno_pattern.specs.Compared.{AreCompared}
use Rattle.sno_pattern.proofs.AgreementLaws.{texts_put}
use Rattle.sno_pattern.proofs.comparisons.Comparisons.remember.Goals as goal

pub returns : goal.returns
returns c = λ nodes s are is.
    let known = subst (AreCompared nodes s) (sym c.self.view_is) (c.make_room.ensures nodes s are) in
    record { texts = texts_put nodes s c.self.inside.texts.items _ c.args.told known.texts is; periods = known.periods }
