-- Where the paths of hashes end, when a slot changes at which others end, or a node joins.
use Rattle.std.proofs.Common.{◌≡◌, ℕ, zero, suc, ◌+◌, ◌-◌, ◌/◌, ◌%◌, ◌<◌, ◌≤◌, ⊎_elim, Bool}
use Rattle.std.proofs.Common.{List, [], ◌++◌, length, slice_index_or, slice_set, refl, sym, subst, ap, ◌∙◌, arith, if◌then◌else◌}
use Rattle.std.proofs.lemmas.Bool.{cases_lt, le-leb, lt-leb}
use Rattle.std.proofs.lemmas.List.{get_or_past, get_or-set_other}
use Rattle.std.proofs.Common.{replicate, take}
use Rattle.std.proofs.lemmas.List.{get_or_append_left, get_or-append_right, get_or-replicate, length-append, length-replicate, take_all}
use Rattle.sno_store.specs.declared.tree.End.{End}
use Rattle.sno_store.specs.inner.Paths.{at, end_at, path_end, end_of, IsLive, IsOn}

-- the branches of a step
abbrev step : List ℕ → ℕ → ℕ → ℕ → Bool → End
step slots n node rest b =
    if b then end_at (node + rest % 16) (rest / 16) n else path_end slots n (at slots (node + rest % 16) - 1_000_000) (rest / 16)

pub stops : (slots : List ℕ) (n node rest : ℕ) → at slots (node + rest % 16) ≤ 1_000_000
    → path_end slots (suc n) node rest ≡ end_at (node + rest % 16) (rest / 16) n
unfolding path_end
stops slots n node rest few = ap (step slots n node rest) (le-leb (at slots (node + rest % 16)) 1_000_000 few)

pub goes : (slots : List ℕ) (n node rest : ℕ) → 1_000_000 < at slots (node + rest % 16)
    → path_end slots (suc n) node rest ≡ path_end slots n (at slots (node + rest % 16) - 1_000_000) (rest / 16)
unfolding path_end
goes slots n node rest more = ap (step slots n node rest) (lt-leb (at slots (node + rest % 16)) 1_000_000 more)

pub nowhere : (slots : List ℕ) (node rest : ℕ) → path_end slots 0 node rest ≡ end_at 0 0 0
unfolding path_end
nowhere slots node rest = refl

-- one slot changes, which led no further
module _ (old new : List ℕ) (s : ℕ) (leaf : at old s ≤ 1_000_000)
    (others : (t : ℕ) → (t ≡ s → ⊥) → at new t ≡ at old t) where
  pub kept : (n node rest : ℕ) → ((path_end old n node rest).slot ≡ s → ⊥) → path_end new n node rest ≡ path_end old n node rest
  kept zero node rest off = nowhere new node rest ∙ sym (nowhere old node rest)
  kept (suc n) node rest off = ⊎_elim (on (λ v away. kept n v (rest / 16) away)) ends (cases_lt 1_000_000 (at old t)) where
    t : ℕ
    t = node + rest % 16

    ends : at old t ≤ 1_000_000 → path_end new (suc n) node rest ≡ path_end old (suc n) node rest
    ends few =
        let e = stops old n node rest few in
        let same : at new t ≡ at old t = others t (λ h. off (ap (λ (x : End). x.slot) e ∙ h)) in
        stops new n node rest (subst (λ v. v ≤ 1_000_000) (sym same) few) ∙ sym e

    on : ((v : ℕ) → ((path_end old n v (rest / 16)).slot ≡ s → ⊥) → path_end new n v (rest / 16) ≡ path_end old n v (rest / 16))
        → 1_000_000 < at old t → path_end new (suc n) node rest ≡ path_end old (suc n) node rest
    on below more =
        let e = goes old n node rest more in
        let same : at new t ≡ at old t = others t (λ h. absurd (omega (arith, ap (at old) h, more, leaf))) in
        goes new n node rest (subst (λ v. 1_000_000 < v) (sym same) more)
        ∙ ap (λ v. path_end new n (v - 1_000_000) (rest / 16)) same
        ∙ below (at old t - 1_000_000) (λ h. off (ap (λ (x : End). x.slot) e ∙ h)) ∙ sym e

  -- where the slot leads on, a path that ended there goes on
  pub deeper : 1_000_000 < at new s → (n node rest m : ℕ)
      → (path_end old n node rest).slot ≡ s → (path_end old n node rest).left ≡ suc m
      → path_end new n node rest ≡ path_end new (suc m) (at new s - 1_000_000) (path_end old n node rest).rest
  deeper linked zero node rest m here left =
      absurd (omega (arith, sym (ap (λ (x : End). x.left) (nowhere old node rest)) ∙ left))
  deeper linked (suc n) node rest m here left =
      ⊎_elim (on (λ v. deeper linked n v (rest / 16) m)) ends (cases_lt 1_000_000 (at old t)) where
        t : ℕ
        t = node + rest % 16

        Goal : Type 0
        Goal = path_end new (suc n) node rest ≡ path_end new (suc m) (at new s - 1_000_000) (path_end old (suc n) node rest).rest

        ends : at old t ≤ 1_000_000 → Goal
        ends few =
            let e = stops old n node rest few in
            let place : t ≡ s = sym (ap (λ (x : End). x.slot) e) ∙ here in
            let levels : n ≡ suc m = sym (ap (λ (x : End). x.left) e) ∙ left in
            goes new n node rest (subst (λ v. 1_000_000 < at new v) (sym place) linked)
            ∙ ap (λ v. path_end new n (at new v - 1_000_000) (rest / 16)) place
            ∙ ap (λ k. path_end new k (at new s - 1_000_000) (rest / 16)) levels
            ∙ ap (λ (x : End). path_end new (suc m) (at new s - 1_000_000) x.rest) (sym e)

        on : ((v : ℕ) → (path_end old n v (rest / 16)).slot ≡ s → (path_end old n v (rest / 16)).left ≡ suc m
            → path_end new n v (rest / 16) ≡ path_end new (suc m) (at new s - 1_000_000) (path_end old n v (rest / 16)).rest)
            → 1_000_000 < at old t → Goal
        on below more =
            let e = goes old n node rest more in
            let same : at new t ≡ at old t = others t (λ h. absurd (omega (arith, ap (at old) h, more, leaf))) in
            goes new n node rest (subst (λ v. 1_000_000 < v) (sym same) more)
            ∙ ap (λ v. path_end new n (v - 1_000_000) (rest / 16)) same
            ∙ below (at old t - 1_000_000) (sym (ap (λ (x : End). x.slot) e) ∙ here)
            (sym (ap (λ (x : End). x.left) e) ∙ left)
            ∙ ap (λ (x : End). path_end new (suc m) (at new s - 1_000_000) x.rest) (sym e)

  -- who ends elsewhere is found as before
  pub still : (hash v : ℕ) → at old (end_of old hash).slot ≡ v → ((end_of old hash).slot ≡ s → ⊥) → at new (end_of new hash).slot ≡ v
  still hash v here off =
      ap (λ (x : End). at new x.slot) (kept 16 0 hash off) ∙ others (end_of old hash).slot off ∙ here

-- a slot at which no number is found gets one
pub written : (old new hashes : List ℕ) (s held : ℕ) → at old s ≡ held → held ≤ 1_000_000
    → ((t : ℕ) → (t ≡ s → ⊥) → at new t ≡ at old t) → (IsLive old hashes s held → ⊥)
    → (i : ℕ) → i < length hashes → IsOn old (slice_index_or hashes i 0) i → IsOn new (slice_index_or hashes i 0) i
written old new hashes s held is few others free i within here =
    still old new s (subst (λ v. v ≤ 1_000_000) (sym is) few) others hash (suc i) here (λ h.
    let count : held ≡ suc i = sym is ∙ ap (at old) (sym h) ∙ here in
    free (record {
      some = omega (arith, count);
      known = omega (arith, count, within);
      here = subst (λ k. (end_of old (slice_index_or hashes k 0)).slot ≡ s) (omega (arith, count)) h;
    })) where
      hash : ℕ
      hash = slice_index_or hashes i 0

-- and its own path ends there
pub written_here : (old new : List ℕ) (hash number : ℕ) → at old (end_of old hash).slot ≤ 1_000_000 → suc number ≤ 1_000_000
    → ((t : ℕ) → (t ≡ (end_of old hash).slot → ⊥) → at new t ≡ at old t) → at new (end_of old hash).slot ≡ suc number
    → at new (end_of new hash).slot ≡ suc number
written_here old new hash number leaf few others here = ends 16 0 hash refl where
  s : ℕ
  s = (end_of old hash).slot

  ends : (n node rest : ℕ) → (path_end old n node rest).slot ≡ s → at new (path_end new n node rest).slot ≡ suc number
  ends zero node rest is =
      let zero_old : 0 ≡ s = sym (ap (λ (x : End). x.slot) (nowhere old node rest)) ∙ is in
      ap (λ (x : End). at new x.slot) (nowhere new node rest) ∙ ap (at new) zero_old ∙ here
  ends (suc n) node rest is = ⊎_elim (on (λ v. ends n v (rest / 16))) stop (cases_lt 1_000_000 (at old t)) where
    t : ℕ
    t = node + rest % 16

    stop : at old t ≤ 1_000_000 → at new (path_end new (suc n) node rest).slot ≡ suc number
    stop less =
        let place : t ≡ s = sym (ap (λ (x : End). x.slot) (stops old n node rest less)) ∙ is in
        let value : at new t ≡ suc number = ap (at new) place ∙ here in
        ap (λ (x : End). at new x.slot) (stops new n node rest (subst (λ v. v ≤ 1_000_000) (sym value) few)) ∙ value

    on : ((v : ℕ) → (path_end old n v (rest / 16)).slot ≡ s → at new (path_end new n v (rest / 16)).slot ≡ suc number)
        → 1_000_000 < at old t → at new (path_end new (suc n) node rest).slot ≡ suc number
    on below more =
        let e = goes old n node rest more in
        let same : at new t ≡ at old t = others t (λ h. absurd (omega (arith, ap (at old) h, more, leaf))) in
        ap (λ (x : End). at new x.slot) (goes new n node rest (subst (λ v. 1_000_000 < v) (sym same) more)
        ∙ ap (λ v. path_end new n (v - 1_000_000) (rest / 16)) same)
        ∙ below (at old t - 1_000_000) (sym (ap (λ (x : End). x.slot) e) ∙ is)

-- a number goes to a node that joined, to which its slot leads
pub divided : (old mid new hashes : List ℕ) (s held node place m : ℕ) → IsLive old hashes s held → at old s ≡ held → held ≤ 1_000_000
    → (end_of old (slice_index_or hashes (held - 1) 0)).left ≡ suc m
    → place ≡ node + (end_of old (slice_index_or hashes (held - 1) 0)).rest % 16
    → s < place → 1 ≤ node → at old place ≡ 0 → at mid place ≡ held
    → ((t : ℕ) → (t ≡ place → ⊥) → at mid t ≡ at old t)
    → at new s ≡ node + 1_000_000
    → ((t : ℕ) → (t ≡ s → ⊥) → at new t ≡ at mid t)
    → (i : ℕ) → IsOn old (slice_index_or hashes i 0) i → IsOn new (slice_index_or hashes i 0) i
divided old mid new hashes s held node place m live is few left lies past some fresh put grown linked others i here =
    ⊎_elim other (λ up. ⊎_elim other_up (equal up) (cases_lt s (end_of old hash).slot)) (cases_lt (end_of old hash).slot s) where
      hash : ℕ
      hash = slice_index_or hashes i 0

      own : ℕ
      own = slice_index_or hashes (held - 1) 0

      apart : s ≡ place → ⊥
      apart h = absurd (omega (arith, h, past))

      mid_s : at mid s ≡ held
      mid_s = grown s apart ∙ is

      mid_leaf : at mid s ≤ 1_000_000
      mid_leaf = subst (λ v. v ≤ 1_000_000) (sym mid_s) few

      none : at old place ≤ 1_000_000
      none = omega (arith, fresh)

      -- its own path
      moved : at new (end_of new own).slot ≡ held
      moved =
          let same : end_of mid own ≡ end_of old own = kept old mid place none grown 16 0 own (λ h. apart (sym live.here ∙ h)) in
          let base : at new s - 1_000_000 ≡ node = omega (arith, linked) in
          let slot : at new (node + (end_of mid own).rest % 16) ≡ held =
          ap (λ (x : End). at new (node + x.rest % 16)) same ∙ ap (at new) (sym lies) ∙ others place (λ h. apart (sym h)) ∙ put in
          let on = deeper mid new s mid_leaf others (omega (arith, linked, some)) 16 0 own m
          (ap (λ (x : End). x.slot) same ∙ live.here) (ap (λ (x : End). x.left) same ∙ left) in
          ap (λ (x : End). at new x.slot) (on ∙ ap (λ b. path_end new (suc m) b (end_of mid own).rest) base
          ∙ stops new m node (end_of mid own).rest (subst (λ v. v ≤ 1_000_000) (sym slot) few)) ∙ slot

      off : (end_of old hash).slot ≡ place → ⊥
      off h = absurd (omega (arith, ap (at old) h, here, fresh))

      in_mid : at mid (end_of mid hash).slot ≡ suc i
      in_mid = still old mid place none grown hash (suc i) here off

      same : end_of mid hash ≡ end_of old hash
      same = kept old mid place none grown 16 0 hash off

      elsewhere : ((end_of old hash).slot ≡ s → ⊥) → IsOn new hash i
      elsewhere away = still mid new s mid_leaf others hash (suc i) in_mid (λ h. away (sym (ap (λ (x : End). x.slot) same) ∙ h))

      other : (end_of old hash).slot < s → IsOn new hash i
      other h = elsewhere (λ e. absurd (omega (arith, h, e)))

      other_up : s < (end_of old hash).slot → IsOn new hash i
      other_up h = elsewhere (λ e. absurd (omega (arith, h, e)))

      equal : s ≤ (end_of old hash).slot → (end_of old hash).slot ≤ s → IsOn new hash i
      equal up low =
          let e : (end_of old hash).slot ≡ s = omega (arith, up, low) in
          let count : held ≡ suc i = sym is ∙ ap (at old) (sym e) ∙ here in
          let index : held - 1 ≡ i = omega (arith, count) in
          subst (λ k. at new (end_of new (slice_index_or hashes k 0)).slot ≡ suc i) index (moved ∙ count)

-- the same where the levels are counted down
pub stops_at : (slots : List ℕ) (n node rest : ℕ) → 1 ≤ n → at slots (node + rest % 16) ≤ 1_000_000
    → path_end slots n node rest ≡ end_at (node + rest % 16) (rest / 16) (n - 1)
stops_at slots zero node rest some few = absurd (omega (arith, some))
stops_at slots (suc n) node rest some few =
    let one : n ≡ suc n - 1 = omega arith in
    stops slots n node rest few ∙ ap (end_at (node + rest % 16) (rest / 16)) one

pub goes_at : (slots : List ℕ) (n node rest : ℕ) → 1 ≤ n → 1_000_000 < at slots (node + rest % 16)
    → path_end slots n node rest ≡ path_end slots (n - 1) (at slots (node + rest % 16) - 1_000_000) (rest / 16)
goes_at slots zero node rest some more = absurd (omega (arith, some))
goes_at slots (suc n) node rest some more =
    let one : n ≡ suc n - 1 = omega arith in
    goes slots n node rest more ∙ ap (λ k. path_end slots k (at slots (node + rest % 16) - 1_000_000) (rest / 16)) one

-- where no slot has anything, no number is found
pub from_none : (new hashes : List ℕ) (i : ℕ) → IsOn [] (slice_index_or hashes i 0) i → IsOn new (slice_index_or hashes i 0) i
from_none new hashes i leaf =
    absurd (omega (arith, leaf, get_or_past {X = ℕ} [] (end_of [] (slice_index_or hashes i 0)).slot 0 (omega arith)))

-- a list that is filled up with zeros has in each place what it had
pub widened : (old new : List ℕ) (n k : ℕ) → new ≡ take n old ++ replicate k 0 → length old ≤ n → (t : ℕ) → at new t ≡ at old t
widened old new n k is more t = ap (λ ss. at ss t) (is ∙ ap (λ ss. ss ++ replicate k 0) (take_all n old more)) ∙ ⊎_elim inside outside (cases_lt t (length old)) where
  inside : t < length old → at (old ++ replicate k 0) t ≡ at old t
  inside h = get_or_append_left old (replicate k 0) 0 t h

  zeros : (i : ℕ) → at (replicate k 0) i ≡ 0
  zeros i =
      ⊎_elim (λ within. get_or-replicate k i 0 0 within)
      (λ past. get_or_past {X = ℕ} (replicate k 0) i 0 (omega (arith, past, length-replicate {A = ℕ} k 0))) (cases_lt i k)

  outside : length old ≤ t → at (old ++ replicate k 0) t ≡ at old t
  outside h =
      get_or-append_right {X = ℕ} old (replicate k 0) (length old) t 0 refl h ∙ zeros (t - length old)
      ∙ sym (get_or_past {X = ℕ} old t 0 h)

pub widened_length : (old new : List ℕ) (n k : ℕ) → new ≡ take n old ++ replicate k 0 → length old ≤ n → length new ≡ length old + k
widened_length old new n k is more =
    let whole : new ≡ old ++ replicate k 0 = is ∙ ap (λ ss. ss ++ replicate k 0) (take_all n old more) in
    omega (arith, ap length whole, length-append old (replicate k 0), length-replicate {A = ℕ} k 0)

-- one slot is set
pub set_others : (old : List ℕ) (s v t : ℕ) → (t ≡ s → ⊥) → at (slice_set old s v) t ≡ at old t
set_others old s v t off = get_or-set_other old s t v 0 off

-- the same for a slot that is known by another name
pub written_at : (old new : List ℕ) (hash number s : ℕ) → s ≡ (end_of old hash).slot → at old s ≤ 1_000_000 → suc number ≤ 1_000_000
    → ((t : ℕ) → (t ≡ s → ⊥) → at new t ≡ at old t) → at new s ≡ suc number → at new (end_of new hash).slot ≡ suc number
written_at old new hash number s e leaf few others here =
    written_here old new hash number (subst (λ v. at old v ≤ 1_000_000) e leaf) few (λ t off. others t (λ h. off (h ∙ e))) (ap (at new) (sym e) ∙ here)
