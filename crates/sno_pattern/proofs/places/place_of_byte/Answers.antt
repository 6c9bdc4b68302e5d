use Rattle.std.proofs.Common.{◌==◌, ◌∙◌, ap, position}
use Rattle.sno_pattern.proofs.PlaceLaws.{place_some, place_none}
use Rattle.sno_pattern.proofs.places.place_of_byte.Goals as goal

pub returns-in-Some : goal.returns-in-Some
returns-in-Some c = place_some (λ b. b == c.args.byte) c.args.subject.now c.args.from c.args.until c.in-Some.before
    (c.in-Some.ensures ∙ ap (position (λ b. b == c.args.byte)) c.bytes_between.ensures)

pub returns-in-None : goal.returns-in-None
returns-in-None c = place_none (λ b. b == c.args.byte) c.args.subject.now c.args.from c.args.until c.requires.range
    (c.in-None.ensures ∙ ap (position (λ b. b == c.args.byte)) c.bytes_between.ensures)
