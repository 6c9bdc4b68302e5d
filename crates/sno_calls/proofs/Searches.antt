-- What comes next of a listing.
use Rattle.std.proofs.Common.{◌≡◌, ◌++◌, Option, Some, None, [], List, ℕ, sym, ◌∙◌, subst, ap}
use Rattle.std.specs.Io.KnownBytes.{Appends}
use Rattle.std.specs.Prelude.{IfSome}
use Rattle.snobol.specs.Enumeration.{Enumeration, Goes, TellsLine, rest_of}
use Rattle.snobol.specs.declared.enumeration.WaysOutcome.{WaysOutcome}
use Rattle.sno_calls.specs.Searches.{Writes, line_is, over_is}
use Rattle.sno_calls.specs.declared.room.Held.{Held}
use Rattle.sno_calls.specs.declared.search.Search.{Search}

-- The line that was asked for, or the end that was told before.
pub next_is : (before : Search) (after : Enumeration) (result ended : Option WaysOutcome) (old new : Held) (wrote : List ℕ) → before.bytes.items ≡ []
    → old.bytes.items ≡ [] → new.bytes.items ≡ wrote → before.ways.ended ≡ ended
    → (before.ways.ended ≡ None → (bytes : List ℕ) × Appends (Some old.bytes.items) (Some new.bytes.items) bytes
    × Goes (rest_of before.ways) (rest_of after) bytes result)
    → (before.ways.ended ≡ None → result ≡ None → TellsLine before.ways.search after.search before.ways.limit)
    → after ≡ record before.ways { state = after.state; search = after.search; ended = result }
    → IfSome ended (λ outcome. (result ≡ Some outcome) × (after ≡ before.ways) × (new ≡ old))
    → Writes before after wrote
next_is before after result None old new wrote empty o w e tells line kept again =
    let t = tells e in
    let r : after.ended ≡ result = ap (λ (x : Enumeration). x.ended) kept in
    let b : t.0 ≡ wrote = sym (sym w ∙ subst (λ (l : List ℕ). new.bytes.items ≡ l ++ t.0) o t.1) in
    line_is empty e
    (subst (λ (x : Option WaysOutcome). after ≡ record before.ways { state = after.state; search = after.search; ended = x }) (sym r) kept)
    (subst (λ (x : Option WaysOutcome). Goes (rest_of before.ways) (rest_of after) wrote x) (sym r)
    (subst (λ (l : List ℕ). Goes (rest_of before.ways) (rest_of after) l result) b t.2))
    (λ n. line e (sym r ∙ n))
next_is before after result (Some outcome) old new wrote empty o w e tells line kept again =
    over_is outcome empty e again.1 (sym w ∙ ap (λ (h : Held). h.bytes.items) again.2 ∙ o)
