use Rattle.sno_pattern.proofs.PlaceLaws.{break_place_here, break_place_none}
use Rattle.sno_pattern.proofs.places.place_before_set.Goals as goal

pub returns-in-Some : goal.returns-in-Some
returns-in-Some c = break_place_here c.args.set.now c.args.subject.now c.args.from c.args.until c.in-Some._end c.requires.range c.in-Some.ensures

pub returns-in-None : goal.returns-in-None
returns-in-None c = break_place_none c.args.set.now c.args.subject.now c.args.from c.args.until c.requires.range c.in-None.ensures
