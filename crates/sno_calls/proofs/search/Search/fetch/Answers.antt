use Rattle.std.proofs.Common.{rules, arith, refl}
use Rattle.std.proofs.lemmas.List.{nil_from_length}
use Rattle.sno_calls.proofs.Searches.{next_is}
use Rattle.sno_calls.proofs.search.Search.fetch.Goals as goal

-- nothing was still to be given
pub returns : goal.returns
returns c =
    let next = c.next-outcome in
    next_is c.args.self.now next.new.self next.result c.args.self.now.ways.ended c.endless-writer.result next.new.writer _
    (nil_from_length _ (grind arith)) c.endless-writer.ensures.bytes (search rules) refl
    next.ensures.tells next.ensures.line next.ensures.kept next.ensures.again
