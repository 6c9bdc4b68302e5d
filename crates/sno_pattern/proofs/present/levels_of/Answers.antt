use Rattle.std.proofs.Common.{[], ◌∷◌, length, length-append, arith, ap, ◌≡◌, suc}
use Rattle.sno_pattern.proofs.PresentLaws.{level-above, levels-more}
use Rattle.sno_pattern.proofs.present.levels_of.Goals as goal

pub levels-preserved : goal.levels-preserved
levels-preserved c =
    let grown = c.in_ok-push.ensures.items in
    let more : length c.push.new.self.items ≡ suc (length c.levels.levels.items) = omega (arith, ap length grown, length-append c.levels.levels.items (c.levels.top ∷ [])) in
    record {
      below = levels-more c.args.subject.now c.levels.levels.items c.push.new.self.items c.levels.top c.levels.invariant.below c.levels.invariant.top grown;
      top = rw more (level-above c.args.subject.now (length c.levels.levels.items) c.levels.top c.in_ok-above.above c.levels.invariant.top c.in_ok-above.ensures.level);
    }
