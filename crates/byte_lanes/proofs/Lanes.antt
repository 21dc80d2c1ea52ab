-- A mask that is computed lane by lane, held to a class at each of the 256 bytes.
use Rattle.std.proofs.Common.{◌≡◌, ℕ, ◌+◌, ◌*◌, ◌-◌, ◌/◌, ◌%◌, ◌^◌, Bool, true, false, not, cond, List, [], ◌∷◌, map, length, Fits, w8, eqb, ltb, refl, ap, ap₂, ◌∙◌, arith}
use Rattle.std.proofs.lemmas.Bool.{agree_below, agree_below_at}
use Rattle.std.proofs.lemmas.List.{get_or-map, length-map}
use Rattle.std.proofs.Math.Nat.{pow-suc}
use Rattle.std.proofs.lemmas.Simd.{map-map, mask_l-mod, bit_mask_l, zip2_of_maps}
use lib.Bits.{bit_or}
use lib.Lanes.{Each1, zip2, mask_l, top}
use Rattle.byte_lanes.specs.Classes.{IsMaskOf}

each_byte : (f : ℕ → ℕ) (p : ℕ → Bool) → agree_below (λ x. top 7 (f x)) p 256 ≡ true → (v : List ℕ) → Each1 (Fits w8) v → map (λ x. top 7 (f x)) v ≡ map p v
each_byte f p all [] fits = refl
each_byte f p all (x ∷ xs) fits = ap₂ (λ a b. a ∷ b) (agree_below_at (λ y. top 7 (f y)) p 256 x all fits.0.fits) (each_byte f p all xs fits.1)

-- the mask of lanes that were computed from v is that of a class
pub masked : (f : ℕ → ℕ) (p : ℕ → Bool) (v z : List ℕ) → (length v ≡ 64) × Each1 (Fits w8) v → z ≡ map f v → agree_below (λ x. top 7 (f x)) p 256 ≡ true
    → mask_l (map (top 7) z) % 2 ^ 64 ≡ mask_l (map p v)
masked f p v z fits lanes all =
    ap (λ l. mask_l l % 2 ^ 64) (ap (map (top 7)) lanes ∙ map-map (top 7) f v ∙ each_byte f p all v fits.1) ∙ mask_l-mod (map p v) 64 (omega (arith, length-map v p, fits.0))

-- a mask says of each byte whether it is in the class
pub said : (p : ℕ → Bool) (v : List ℕ) (mask : ℕ) → mask ≡ mask_l (map p v) → IsMaskOf p v mask
said p v mask is i within = ap (λ m. m / 2 ^ i % 2) is ∙ bit_mask_l (map p v) i ∙ ap (λ b. cond b 1 0) (get_or-map p v i 0 false within)

step : (b : Bool) (m n l : ℕ) → m + n + 1 ≡ l → (cond b 1 0 + 2 * m) + (cond (not b) 1 0 + 2 * n) + 1 ≡ 2 * l
step true m n l e = omega arith
step false m n l e = omega arith

both : (p : ℕ → Bool) (v : List ℕ) → mask_l (map p v) + mask_l (map (λ x. not (p x)) v) + 1 ≡ 2 ^ length v
both p [] = refl
both p (x ∷ xs) = step (p x) _ _ _ (both p xs) ∙ omega (arith, pow-suc 2 (length xs))

-- the bits turned round
pub turned : (p : ℕ → Bool) (v : List ℕ) → length v ≡ 64 → 2 ^ 64 - 1 - mask_l (map p v) ≡ mask_l (map (λ x. not (p x)) v)
turned p v long =
    let whole : mask_l (map p v) + mask_l (map (λ x. not (p x)) v) + 1 ≡ 2 ^ 64 = both p v ∙ ap (λ n. 2 ^ n) long in
    omega (arith, whole)

-- what `==` makes of a lane
abbrev pub equal : ℕ → ℕ → ℕ
equal a b = cond (eqb a b) 255 0

-- what `<` makes of a lane
abbrev pub less : ℕ → ℕ → ℕ
less a b = cond (ltb a b) 255 0

pub or : (f g : ℕ → ℕ) (v : List ℕ) {a b : List ℕ} → a ≡ map f v → b ≡ map g v → zip2 bit_or a b ≡ map (λ x. bit_or (f x) (g x)) v
or f g v p q = zip2_of_maps bit_or f g v p q
