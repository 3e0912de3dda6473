-- The places in a row whose tokens rise.
use Rattle.std.proofs.Common.{◌≡◌, ℕ, suc, ◌+◌, ◌≤◌, ◌<◌, ◌^◌, List, [], ◌∷◌, ◌++◌, length}
use Rattle.std.proofs.Common.{refl, sym, ◌∙◌, subst, append_assoc, arith}
use Rattle.std.proofs.lemmas.Bool.{lt-ltb, le-ltb}
use Rattle.std.proofs.lemmas.List.{length-append}
use Rattle.wc_parse_code.specs.Stored.Order.{place_of}
use Rattle.wc_parse_code.proofs.Storing.Ordered.Order.{Rises, rises-range, rises-to, rises-append}

-- each stands at the place that its token has, from this place on; 32 bits hold it
abbrev pub Placed : {X : Type 0} → (ℕ → ℕ) → (X → ℕ) → ℕ → List X → Type 0
Placed place token n [] = Unit {0}
Placed place token n (x ∷ xs) = (place (token x) ≡ n) × (n < 2 ^ 32) × Placed place token (suc n) xs

module _ {X : Type 0} (token : X → ℕ) where
  pub placed-first : (place : ℕ → ℕ) (n : ℕ) (xs ys : List X) → Placed place token n (xs ++ ys)
      → Placed place token n xs
  placed-first place n [] ys h = tt
  placed-first place n (x ∷ xs) ys h = (h.0, h.1, placed-first place (suc n) xs ys h.2)

  pub placed-last : (place : ℕ → ℕ) (n m : ℕ) (xs ys : List X) → m ≡ n + length xs → Placed place token n (xs ++ ys)
      → Placed place token m ys
  placed-last place n m [] ys e h =
      let same : m ≡ n = omega (arith, e) in subst (λ (k : ℕ). Placed place token k ys) (sym same) h
  placed-last place n m (x ∷ xs) ys e h =
      placed-last place (suc n) m xs ys (omega (arith, e)) h.2

  -- of these all come before the token, and stand before the others
  place-behind : (lo t : ℕ) (xs ys : List X) → Rises token lo xs t
      → place_of token (xs ++ ys) t ≡ length xs + place_of token ys t
  place-behind lo t [] ys h = omega arith
  place-behind lo t (x ∷ xs) ys h =
      rw (lt-ltb (token x) t (rises-range token (suc (token x)) t xs h.1))
      (omega (arith, place-behind (suc (token x)) t xs ys h.1))

  place-above : (t lo hi : ℕ) (xs : List X) → t ≤ lo → Rises token lo xs hi → place_of token xs t ≡ 0
  place-above t lo hi [] e h = refl
  place-above t lo hi (x ∷ xs) e h =
      rw (le-ltb (token x) t (omega (arith, e, h.0)))
      (place-above t (suc (token x)) hi xs (omega (arith, e, h.0)) h.1)

  rises-length : (lo hi : ℕ) (xs : List X) → Rises token lo xs hi → lo + length xs ≤ hi
  rises-length lo hi [] h = omega (arith, h)
  rises-length lo hi (x ∷ xs) h = omega (arith, h.0, rises-length (suc (token x)) hi xs h.1)

  placed-behind : (all front xs : List X) (lo hi n : ℕ) → all ≡ front ++ xs → n ≡ length front → hi ≤ 2 ^ 32
      → Rises token 0 front lo → Rises token lo xs hi → Placed (place_of token all) token n xs
  placed-behind all front [] lo hi n e l f a b = tt
  placed-behind all front (x ∷ xs) lo hi n e l f a b = (
    subst (λ (zs : List X). place_of token zs (token x) ≡ n) (sym e) here,
    omega (arith, l, f, rises-length 0 lo front a, b.0, rises-range token (suc (token x)) hi xs b.1),
    placed-behind all (front ++ x ∷ []) xs (suc (token x)) hi (suc n)
        (e ∙ sym (append_assoc front (x ∷ []) xs))
        (omega (arith, l, length-append front (x ∷ []))) f
        (rises-append token 0 lo (suc (token x)) front (x ∷ []) a (b.0, omega arith)) b.1,
  )
    where
      front_rises : Rises token 0 front (token x)
      front_rises = rises-to token 0 lo (token x) front b.0 a

      here : place_of token (front ++ x ∷ xs) (token x) ≡ n
      here = omega (
        arith,
        l,
        place-behind 0 (token x) front (x ∷ xs) front_rises,
        place-above (token x) (token x) hi (x ∷ xs) (omega arith) (omega arith, b.1),
      )

  -- each stands where as many stand before it as there are
  pub placed-all : (xs : List X) (hi : ℕ) → hi ≤ 2 ^ 32 → Rises token 0 xs hi
      → Placed (place_of token xs) token 0 xs
  placed-all xs hi f h = placed-behind xs [] xs 0 hi 0 refl refl f (omega arith) h
