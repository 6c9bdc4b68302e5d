use Rattle.std.proofs.Common.{◌≡◌, ◌==◌, ◌+◌, length, ◌∙◌, rules}
use Rattle.sno_pattern.proofs.PlaceLaws.{before_end, end_if-some}
use Rattle.sno_pattern.proofs.places.place_of_count.Goals as goal

pub returns-in-Pos : goal.returns-in-Pos
returns-in-Pos c = rw c.in-Pos.is (c.place_between.ensures _ (λ at. end_if-some (at == c.args.n) at))

pub returns-in-Some : goal.returns-in-Some
returns-in-Some c =
    let n = c.args.n in
    let end = length c.args.subject.now in
    let left : c.in-Some.place + n ≡ end = search rules in
    rw c.in-Rpos.is (c.place_between-in-Some.ensures _ (λ at. end_if-some (at + n == end) at ∙ before_end at n end c.in-Some.place left))
