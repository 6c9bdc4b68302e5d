-- Eight comparisons of a block of lanes, joined.
use Rattle.std.proofs.Common.{◌≡◌, ℕ, ◌-◌, ◌%◌, ◌^◌, Bool, true, false, not, ◌||◌, cond, eqb, List, [], ◌∷◌, length, map, get_or, replicate, bit_or, refl, sym}
use Rattle.std.proofs.Common.{◌∙◌, ap, ap₂, arith, ⊎_elim}
use Rattle.std.specs.Simd.Lanes.{zip2, mask_l, top}
use Rattle.std.proofs.lemmas.Bool.{eq-eqb, ne_eqb}
use Rattle.std.proofs.lemmas.Bool.Decides.{eqb_tells}
use Rattle.std.proofs.lemmas.List.{length-map}
use Rattle.std.proofs.lemmas.Simd.{zip2_splat, zip2_of_maps, map-map, mask_l-mod}
use Rattle.sno_pattern.specs.Ends.{is_in}
use Rattle.sno_pattern.specs.inner.Lanes.{passes}

-- a lane of a comparison
abbrev hit : ℕ → ℕ → ℕ
hit x y = cond (eqb x y) 255 0

-- a lane of eight comparisons joined, with the list's bytes
abbrev hits : List ℕ → ℕ → ℕ
hits set x =
    bit_or (bit_or (bit_or (bit_or (bit_or (bit_or (bit_or (hit x (get_or set 0 0)) (hit x (get_or set 1 0))) (hit x (get_or set 2 0)))
    (hit x (get_or set 3 0)))
    (hit x (get_or set 4 0))) (hit x (get_or set 5 0))) (hit x (get_or set 6 0))) (hit x (get_or set 7 0))

or_hits : (s t : Bool) → bit_or (cond s 255 0) (cond t 255 0) ≡ cond (s || t) 255 0
or_hits true true = refl
or_hits true false = refl
or_hits false true = refl
or_hits false false = refl

top_hit : (t : Bool) → top 7 (cond t 255 0) ≡ t
top_hit true = refl
top_hit false = refl

top_miss : (t : Bool) → top 7 (255 - cond t 255 0) ≡ not t
top_miss true = refl
top_miss false = refl

any_of_eight : (a b c d e f g h : Bool) → (((((((a || b) || c) || d) || e) || f) || g) || h) ≡ (a || (b || (c || (d || (e || (f || (g || (h || false))))))))
any_of_eight true b c d e f g h = refl
any_of_eight false true c d e f g h = refl
any_of_eight false false true d e f g h = refl
any_of_eight false false false true e f g h = refl
any_of_eight false false false false true f g h = refl
any_of_eight false false false false false true g h = refl
any_of_eight false false false false false false true h = refl
any_of_eight false false false false false false false true = refl
any_of_eight false false false false false false false false = refl

joined : (a b c d e f g h : Bool) →
    bit_or (bit_or (bit_or (bit_or (bit_or (bit_or (bit_or (cond a 255 0) (cond b 255 0)) (cond c 255 0)) (cond d 255 0)) (cond e 255 0)) (cond f 255 0))
    (cond g 255 0)) (cond h 255 0)
    ≡ cond (a || (b || (c || (d || (e || (f || (g || (h || false)))))))) 255 0
joined a b c d e f g h =
    rw (
      or_hits a b,
      or_hits (a || b) c,
      or_hits ((a || b) || c) d,
      or_hits (((a || b) || c) || d) e,
      or_hits ((((a || b) || c) || d) || e) f,
      or_hits (((((a || b) || c) || d) || e) || f) g,
      or_hits ((((((a || b) || c) || d) || e) || f) || g) h,
      any_of_eight a b c d e f g h,
    )
    refl

pub turned : (x y : ℕ) → eqb x y ≡ eqb y x
turned x y = ⊎_elim (λ same. same.0 ∙ sym (eq-eqb y x (sym same.1))) (λ apart. apart.0 ∙ sym (ne_eqb y x (λ e. apart.1 (sym e)))) (eqb_tells x y)

hits-is_in : (set : List ℕ) → length set ≡ 8 → (x : ℕ) → hits set x ≡ cond (is_in set x) 255 0
hits-is_in (a ∷ b ∷ c ∷ d ∷ e ∷ f ∷ g ∷ h ∷ []) eight x =
    joined (eqb x a) (eqb x b) (eqb x c) (eqb x d) (eqb x e) (eqb x f) (eqb x g) (eqb x h)
    ∙ rw (turned x a, turned x b, turned x c, turned x d, turned x e, turned x f, turned x g, turned x h) refl
hits-is_in [] eight x = absurd (omega arith)
hits-is_in (a ∷ []) eight x = absurd (omega arith)
hits-is_in (a ∷ b ∷ []) eight x = absurd (omega arith)
hits-is_in (a ∷ b ∷ c ∷ []) eight x = absurd (omega arith)
hits-is_in (a ∷ b ∷ c ∷ d ∷ []) eight x = absurd (omega arith)
hits-is_in (a ∷ b ∷ c ∷ d ∷ e ∷ []) eight x = absurd (omega arith)
hits-is_in (a ∷ b ∷ c ∷ d ∷ e ∷ f ∷ []) eight x = absurd (omega arith)
hits-is_in (a ∷ b ∷ c ∷ d ∷ e ∷ f ∷ g ∷ []) eight x = absurd (omega arith)
hits-is_in (a ∷ b ∷ c ∷ d ∷ e ∷ f ∷ g ∷ h ∷ i ∷ rest) eight x = absurd (omega arith)

-- the joined comparisons of a block
abbrev compared : List ℕ → List ℕ → List ℕ
compared v set =
    zip2 bit_or (zip2 bit_or
    (zip2 bit_or (zip2 bit_or
    (zip2 bit_or (zip2 bit_or (zip2 bit_or (zip2 hit v (replicate 32 (get_or set 0 0))) (zip2 hit v (replicate 32 (get_or set 1 0))))
    (zip2 hit v (replicate 32 (get_or set 2 0))))
    (zip2 hit v (replicate 32 (get_or set 3 0)))) (zip2 hit v (replicate 32 (get_or set 4 0)))) (zip2 hit v (replicate 32 (get_or set 5 0))))
    (zip2 hit v (replicate 32 (get_or set 6 0)))) (zip2 hit v (replicate 32 (get_or set 7 0)))

compared_is : (v set : List ℕ) → length v ≡ 32 → compared v set ≡ map (hits set) v
compared_is v set long =
    let s = λ (k : ℕ). zip2_splat hit v 32 (get_or set k 0) long in
    zip2_of_maps bit_or _ _ v
    (zip2_of_maps bit_or _ _ v
    (zip2_of_maps bit_or _ _ v
    (zip2_of_maps bit_or _ _ v (zip2_of_maps bit_or _ _ v (zip2_of_maps bit_or _ _ v (zip2_of_maps bit_or _ _ v (s 0) (s 1)) (s 2)) (s 3)) (s 4)) (s 5))
    (s 6)) (s 7)

tops : (f : ℕ → ℕ) (p : ℕ → Bool) → ((x : ℕ) → top 7 (f x) ≡ p x) → (v : List ℕ) → map (top 7) (map f v) ≡ map p v
tops f p same [] = refl
tops f p same (x ∷ v) = ap₂ (λ b bs. b ∷ bs) (same x) (tops f p same v)

-- the mask of the lanes whose byte is among the eight
pub mask_inside : (v set : List ℕ) → length v ≡ 32 → length set ≡ 8 → mask_l (map (top 7) (compared v set)) % 2 ^ 64 ≡ mask_l (map (passes true set) v)
mask_inside v set long eight =
    ap (λ l. mask_l (map (top 7) l) % 2 ^ 64) (compared_is v set long)
    ∙ ap (λ l. mask_l l % 2 ^ 64) (tops (hits set) (is_in set) (λ x. ap (top 7) (hits-is_in set eight x) ∙ top_hit (is_in set x)) v)
    ∙ mask_l-mod (map (is_in set) v) 64 (omega (arith, length-map v (is_in set)))

-- and of those whose byte is not
pub mask_outside : (v set : List ℕ) → length v ≡ 32 → length set ≡ 8 → mask_l (map (top 7) (map (λ x. 255 - x) (compared v set))) % 2 ^ 64
    ≡ mask_l (map (passes false set) v)
mask_outside v set long eight =
    ap (λ l. mask_l (map (top 7) l) % 2 ^ 64) (ap (map (λ x. 255 - x)) (compared_is v set long) ∙ map-map (λ x. 255 - x) (hits set) v)
    ∙ ap (λ l. mask_l l % 2 ^ 64)
    (tops (λ x. 255 - hits set x) (λ x. not (is_in set x)) (λ x. ap (λ y. top 7 (255 - y)) (hits-is_in set eight x) ∙ top_miss (is_in set x)) v)
    ∙ mask_l-mod (map (λ x. not (is_in set x)) v) 64 (omega (arith, length-map v (λ x. not (is_in set x))))
