-- The scans over a line.
use Rattle.std.proofs.Common.{◌≡◌, ℕ, ◌+◌, ◌<◌, ◌||◌, ◌&&◌, ◌==◌, not, List, ◌∷◌, length, drop, get_or, refl, ap, drop-cons, add-one, nat_lt}
use Rattle.sno_text.specs.Refusals.{quote_step, has_open_literal, depth_step, is_deep}

dropped : (i : ℕ) (s : List ℕ) → i < length s → drop i s ≡ get_or s i 0 ∷ drop (i + 1) s
dropped i s h = rw (add-one, drop-cons s i 0) refl

pub open_more : (q i : ℕ) (s : List ℕ) → i < length s → has_open_literal q (drop i s)
    ≡ (((get_or s i 0 == 10) && not (q == 0)) || has_open_literal (quote_step q (get_or s i 0)) (drop (i + 1) s))
open_more q i s h = ap (has_open_literal q) (dropped i s h)

pub deep_more : (q n i : ℕ) (s : List ℕ) → i < length s → is_deep q n (drop i s)
    ≡ (nat_lt 40 (depth_step q n (get_or s i 0)) || is_deep (quote_step q (get_or s i 0)) (depth_step q n (get_or s i 0)) (drop (i + 1) s))
deep_more q n i s h = ap (is_deep q n) (dropped i s h)

pub ruleset scan_facts = (open_more, deep_more)
