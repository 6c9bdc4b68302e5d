use Rattle.std.proofs.Common.{◌∙◌, ap, position}
use Rattle.sno_pattern.specs.Ends.{is_in}
use Rattle.sno_pattern.proofs.PlaceLaws.{place_some, place_none}
use Rattle.sno_pattern.proofs.places.place_in_set.Goals as goal

pub returns-in-Some : goal.returns-in-Some
returns-in-Some c = place_some (is_in c.args.set.now) c.args.subject.now c.args.from c.args.until c.in-Some.before
    (c.in-Some.ensures ∙ ap (position (is_in c.args.set.now)) c.bytes_between.ensures)

pub returns-in-None : goal.returns-in-None
returns-in-None c = place_none (is_in c.args.set.now) c.args.subject.now c.args.from c.args.until c.requires.range
    (c.in-None.ensures ∙ ap (position (is_in c.args.set.now)) c.bytes_between.ensures)
