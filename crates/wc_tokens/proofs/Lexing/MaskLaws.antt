-- What the mask of a chunk tells of the bytes under it.
use Rattle.std.proofs.Common.{◌≡◌, ◌≢◌, ℕ, ◌+◌, ◌*◌, ◌%◌, ◌^◌, ◌<◌, ◌≤◌, Bool, true, false, not, cond, List, [], ◌∷◌}
use Rattle.std.proofs.Common.{map, length, get_or, Fits, w8, refl, ap, ap₂, ◌∙◌, arith}
use Rattle.std.proofs.lemmas.Bool.{agree_below, agree_below_at}
use Rattle.std.proofs.lemmas.List.{length-map}
use Rattle.std.proofs.lemmas.Simd.{length-chunk, mask_l-mod, trailing_mask_l, run_in_chunk_fails, run_in_chunk_stops}
use Rattle.std.proofs.lemmas.Simd.{none_from_empty_mask}
use Rattle.std.specs.List.{prefix_len}
use lib.Count.{count_trailing_zeros}
use lib.Lanes.{chunk, mask_l, top, Each1}

-- where a bit is set, not all lanes come before it
one_stops : (b : Bool) (n l m : ℕ) → 0 < cond b 1 0 + 2 * m → (0 < m → n < l) → cond (not b) (1 + n) 0 < 1 + l
one_stops true n l m some ih = omega arith
one_stops false n l m some ih = let more = ih (omega (arith, some)) in omega (arith, more)

stops : (p : ℕ → Bool) (xs : List ℕ) → 0 < mask_l (map p xs) → prefix_len (λ x. not (p x)) xs < length xs
stops p [] some = absurd (omega (arith, some))
stops p (x ∷ xs) some = omega (arith, one_stops (p x) _ (length xs) _ some (stops p xs))

module _ (p : ℕ → Bool) (text : List ℕ) (at : ℕ) {mask : ℕ} (room : at + 16 ≤ length text)
    (masked : mask ≡ mask_l (map p (chunk at 16 text))) where
  some : mask ≢ 0 → 0 < mask_l (map p (chunk at 16 text))
  some set = omega (arith, set, masked)

  counted : mask ≢ 0 → count_trailing_zeros 64 mask ≡ prefix_len (λ x. not (p x)) (chunk at 16 text)
  counted set = ap (count_trailing_zeros 64) masked
      ∙ trailing_mask_l p 64 (chunk at 16 text) (omega (arith, length-chunk at 16 text room)) (some set)

  pub first-within : mask ≢ 0 → count_trailing_zeros 64 mask < 16
  first-within set = omega (arith, counted set, length-chunk at 16 text room, stops p (chunk at 16 text) (some set))

  pub before-first : mask ≢ 0 → (k : ℕ) → at ≤ k → k < at + count_trailing_zeros 64 mask → p (get_or text k 0) ≡ false
  before-first set = run_in_chunk_fails p text at 16 (count_trailing_zeros 64 mask) 0 room (counted set)

  pub at-first : mask ≢ 0 → p (get_or text (at + count_trailing_zeros 64 mask) 0) ≡ true
  at-first set =
      run_in_chunk_stops p text at 16 (count_trailing_zeros 64 mask) 0 room (counted set) (first-within set)

  pub none-set : mask ≡ 0 → (k : ℕ) → at ≤ k → k < at + 16 → p (get_or text k 0) ≡ false
  none-set none = none_from_empty_mask p text at 16 0 room (omega (arith, masked, none))

-- ---- a mask that is computed byte by byte

each_byte : (f : ℕ → ℕ) (p : ℕ → Bool) → agree_below (λ x. top 7 (f x)) p 256 ≡ true → (v : List ℕ)
    → Each1 (Fits w8) v → map (top 7) (map f v) ≡ map p v
each_byte f p all [] fits = refl
each_byte f p all (x ∷ xs) fits =
    ap₂ (λ a b. a ∷ b) (agree_below_at (λ y. top 7 (f y)) p 256 x all fits.0.fits) (each_byte f p all xs fits.1)

pub mask-of : (f : ℕ → ℕ) (p : ℕ → Bool) (v : List ℕ) {z : List ℕ} → length v ≤ 64 → Each1 (Fits w8) v → z ≡ map f v
    → agree_below (λ x. top 7 (f x)) p 256 ≡ true → mask_l (map (top 7) z) % 2 ^ 64 ≡ mask_l (map p v)
mask-of f p v few fits e all =
    ap (λ l. mask_l l % 2 ^ 64) (ap (map (top 7)) e ∙ each_byte f p all v fits)
    ∙ mask_l-mod (map p v) 64 (omega (arith, few, length-map v p))
