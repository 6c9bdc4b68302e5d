-- What a call of `next` gives, from what its parts do.
use Rattle.std.proofs.Common.{◌≡◌, ℕ, ◌+◌, ◌<◌, ◌≤◌, ◌⊎◌, inl, inr, true, false, List, [], ◌++◌, length, take, drop, ap, ap₂, subst, sym, ◌∙◌, append_assoc}
use Rattle.std.proofs.Common.{arith, refl, Option, Some, Result, Err}
use Rattle.std.specs.Prelude.{Contains}
use Rattle.std.proofs.lemmas.Bool.{both_ways}
use Rattle.std.proofs.lemmas.List.{length-append, length-take-le}
use Rattle.std.specs.Io.KnownBytes.{Consumes}
use Rattle.std.specs.declared.vec.Vec.{Vec}
use Rattle.std.specs.declared.alloc.Global.{Global}
use Rattle.sno_io.specs.declared.lines.LineError.{LineError}
use Rattle.sno_io.specs.declared.lines.LineError.TheVariants.{NoMemory, ReadFault, TooLong}
use Rattle.sno_io.specs.inner.Held.{IsSettled, Joins}
use Rattle.sno_io.specs.Lines.{GivesLine, Input, ReadsLine, first_line, line_length, next_line}
use Rattle.sno_io.proofs.Bytes.{consumes_then}
use Rattle.sno_io.proofs.FirstLines.{has_feed, line_length-le, line_length-whole, next_last, next_whole}

-- a further read, before which the end was not told
pub joins_more : (a b c : Option (List ℕ)) (old mid new : Input) → Joins a b old mid → mid.told_end ≡ false → (xs : List ℕ) → Consumes b c xs
    → new.held ≡ mid.held ++ xs → Joins a c old new
joins_more a b c old mid new j open_end xs k e = record {
  given = j.given ++ xs;
  consumed = consumes_then a b c j.given xs j.consumed k;
  joined = e ∙ ap (λ zs. zs ++ xs) j.joined ∙ append_assoc old.held j.given xs;
  ended = λ t. absurd (both_ways mid.told_end open_end (j.ended t).1);
}

-- where more is wanted, the call began with no line feed held and no end told
pub still_open : (a b : Option (List ℕ)) (old new : Input) → Joins a b old new → line_length new.held ≡ length new.held → new.told_end ≡ false
    → (old.told_end ≡ true) ⊎ Contains old.held 10 → ⊥
still_open a b old new j none open_end (inl t) = both_ways new.told_end open_end (j.ended t).1
still_open a b old new j none open_end (inr feed) =
    let first = has_feed old.held feed in
    let whole : line_length new.held ≡ line_length old.held = ap line_length j.joined ∙ line_length-whole old.held j.given first in
    let size : length new.held ≡ length old.held + length j.given = ap length j.joined ∙ length-append old.held j.given in
    absurd (omega arith)

-- the line that is handed out
pub handed : (reading : Input) (line rest more : List ℕ) (len : ℕ) → len ≡ line_length reading.held → IsSettled len reading → len ≤ 1000000
    → 0 < length reading.held → line ≡ take len reading.held → rest ≡ drop (len + 1) reading.held
    → (reading.told_end ≡ true → more ≡ []) → (next_line (reading.held ++ more) ≡ Some (line, rest ++ more)) × (length line ≤ 1000000)
handed reading line rest more len is settled short some front back nothing = (go settled ∙ ap₂ (λ l r. Some (l, r ++ more)) (sym same) (sym behind), size)
  where
    same : line ≡ first_line reading.held
    same = front ∙ ap (λ n. take n reading.held) is

    behind : rest ≡ drop (line_length reading.held + 1) reading.held
    behind = back ∙ ap (λ n. drop (n + 1) reading.held) is

    size : length line ≤ 1000000
    size = omega (arith, ap length front, length-take-le len reading.held (omega (arith, line_length-le reading.held)))

    go : IsSettled len reading → next_line (reading.held ++ more) ≡ Some (first_line reading.held, drop (line_length reading.held + 1) reading.held ++ more)
    go (inl lt) = next_whole reading.held more (omega arith)
    go (inr (inl long)) = absurd (omega arith)
    go (inr (inr told)) = next_last reading.held more some (nothing told)

-- what was read and what is handed out
pub reads_line : (a b : Option (List ℕ)) (old mid new : Input) (r : Result (Option (Vec ℕ Global)) LineError) → Joins a b old mid
    → new.told_end ≡ mid.told_end
    → ((more : List ℕ) → (mid.told_end ≡ true → more ≡ []) → GivesLine r (mid.held ++ more) (new.held ++ more)) → ReadsLine a b old new r
reads_line a b old mid new r j told gives = record {
  given = j.given;
  consumed = j.consumed;
  ended = λ t. let e = j.ended t in (e.0, told ∙ e.1);
  line = λ more nothing. subst (λ zs. GivesLine r (zs ++ more) (new.held ++ more)) j.joined (gives more (λ t. nothing (told ∙ t)));
}

-- an error that says nothing of the line leaves what was read
pub reads_none : (a b : Option (List ℕ)) (old new : Input) (e : LineError) → Joins a b old new → (e ≡ TooLong → ⊥) → ReadsLine a b old new (Err e)
reads_none a b old new e j fits = record {
  given = j.given;
  consumed = j.consumed;
  ended = j.ended;
  line = λ more nothing. left_as_is e fits more;
}
  where
    left_as_is : (e : LineError) → (e ≡ TooLong → ⊥) → (more : List ℕ) → GivesLine (Err e) (old.held ++ j.given ++ more) (new.held ++ more)
    left_as_is TooLong fits more = absurd (fits refl)
    left_as_is ReadFault fits more = ap (λ zs. zs ++ more) j.joined
    left_as_is NoMemory fits more = ap (λ zs. zs ++ more) j.joined
