-- Lists in the order of the text.
use Rattle.std.proofs.Common.{◌≡◌, ℕ, suc, ◌≤◌, ◌<◌, true, false, List, [], ◌∷◌, ◌++◌}
use Rattle.std.proofs.Common.{refl, sym, ap, ◌∙◌, subst, append-nil, arith}
use Rattle.std.specs.Prelude.{nat_lt, if◌then◌else◌}
use Rattle.std.proofs.lemmas.Bool.{lt-ltb, le-ltb}
use Rattle.wc_parse_code.specs.Stored.Order.{put, in_order}

-- their tokens rise, from the first number on to below the second
abbrev pub Rises : {X : Type 0} → (X → ℕ) → ℕ → List X → ℕ → Type 0
Rises token lo [] hi = lo ≤ hi
Rises token lo (x ∷ xs) hi = (lo ≤ token x) × Rises token (suc (token x)) xs hi

-- each token is in this range
abbrev pub Within : {X : Type 0} → (X → ℕ) → ℕ → List X → ℕ → Type 0
Within token lo [] hi = Unit {0}
Within token lo (x ∷ xs) hi = (lo ≤ token x) × (token x < hi) × Within token lo xs hi

-- the first list, whose tokens are in this range, is the second in the order of the text
pub record Row {X : Type 0} (token : X → ℕ) (lo hi : ℕ) (xs ys : List X) : Type 0 where
  pub range : lo ≤ hi
  pub within : Within token lo xs hi
  pub rises : Rises token lo ys hi
  pub is : in_order token xs ≡ ys

module _ {X : Type 0} (token : X → ℕ) where
  -- ---- lists whose tokens rise

  pub rises-range : (lo hi : ℕ) (xs : List X) → Rises token lo xs hi → lo ≤ hi
  rises-range lo hi [] h = h
  rises-range lo hi (x ∷ xs) h = omega (arith, h.0, rises-range (suc (token x)) hi xs h.1)

  pub rises-from : (low lo hi : ℕ) (xs : List X) → low ≤ lo → Rises token lo xs hi → Rises token low xs hi
  rises-from low lo hi [] e h = omega (arith, e, h)
  rises-from low lo hi (x ∷ xs) e h = (omega (arith, e, h.0), h.1)

  pub rises-to : (lo hi high : ℕ) (xs : List X) → hi ≤ high → Rises token lo xs hi → Rises token lo xs high
  rises-to lo hi high [] e h = omega (arith, e, h)
  rises-to lo hi high (x ∷ xs) e h = (h.0, rises-to (suc (token x)) hi high xs e h.1)

  pub rises-append : (lo mid hi : ℕ) (xs ys : List X) → Rises token lo xs mid → Rises token mid ys hi
      → Rises token lo (xs ++ ys) hi
  rises-append lo mid hi [] ys h k = rises-from lo mid hi ys h k
  rises-append lo mid hi (x ∷ xs) ys h k = (h.0, rises-append (suc (token x)) mid hi xs ys h.1 k)

  pub within-widen : (low lo hi high : ℕ) (xs : List X) → low ≤ lo → hi ≤ high → Within token lo xs hi
      → Within token low xs high
  within-widen low lo hi high [] e f h = tt
  within-widen low lo hi high (x ∷ xs) e f h =
      (omega (arith, e, h.0), omega (arith, f, h.1), within-widen low lo hi high xs e f h.2)

  within-append : (lo hi : ℕ) (xs ys : List X) → Within token lo xs hi → Within token lo ys hi
      → Within token lo (xs ++ ys) hi
  within-append lo hi [] ys h k = k
  within-append lo hi (x ∷ xs) ys h k = (h.0, h.1, within-append lo hi xs ys h.2 k)

  rises-within : (lo hi : ℕ) (xs : List X) → Rises token lo xs hi → Within token lo xs hi
  rises-within lo hi [] h = tt
  rises-within lo hi (x ∷ xs) h = (
    h.0,
    rises-range (suc (token x)) hi xs h.1,
    within-widen lo (suc (token x)) hi hi xs (omega (arith, h.0)) (omega arith)
        (rises-within (suc (token x)) hi xs h.1),
  )

  -- ---- one more among them

  put-first : (x : X) (lo hi : ℕ) (ys : List X) → token x < lo → Rises token lo ys hi → put token x ys ≡ x ∷ ys
  put-first x lo hi [] e h = refl
  put-first x lo hi (y ∷ ys) e h = rw (lt-ltb (token x) (token y) (omega (arith, e, h.0)))

  put-front : (x : X) (mid hi : ℕ) (xs ys : List X) → token x < mid → Rises token mid ys hi
      → put token x (xs ++ ys) ≡ put token x xs ++ ys
  put-front x mid hi [] ys e h = put-first x mid hi ys e h
  put-front x mid hi (z ∷ zs) ys e h =
      elim (nat_lt (token x) (token z)) as (λ b. (if b then x ∷ z ∷ (zs ++ ys) else z ∷ put token x (zs ++ ys))
      ≡ (if b then x ∷ z ∷ zs else z ∷ put token x zs) ++ ys) [
        | true ↦ refl
        | false ↦ ap (λ (all : List X). z ∷ all) (put-front x mid hi zs ys e h)
      ]

  put-behind : (x : X) (lo mid : ℕ) (xs ys : List X) → mid ≤ token x → Rises token lo xs mid
      → put token x (xs ++ ys) ≡ xs ++ put token x ys
  put-behind x lo mid [] ys e h = refl
  put-behind x lo mid (z ∷ zs) ys e h =
      let last = rises-range (suc (token z)) mid zs h.1 in
      rw (le-ltb (token x) (token z) (omega (arith, e, last)))
      (ap (λ (all : List X). z ∷ all) (put-behind x (suc (token z)) mid zs ys e h.1))

  in_order-append : (lo mid hi : ℕ) (xs ys : List X) → Within token lo xs mid → Rises token mid (in_order token ys) hi
      → in_order token (xs ++ ys) ≡ in_order token xs ++ in_order token ys
  in_order-append lo mid hi [] ys h k = refl
  in_order-append lo mid hi (x ∷ xs) ys h k =
      ap (put token x) (in_order-append lo mid hi xs ys h.2 k)
      ∙ put-front x mid hi (in_order token xs) (in_order token ys) h.1 k

  in_order-swap : (lo mid hi : ℕ) (xs ys : List X) → Within token mid xs hi → Rises token lo (in_order token ys) mid
      → in_order token (xs ++ ys) ≡ in_order token ys ++ in_order token xs
  in_order-swap lo mid hi [] ys h k = sym (append-nil (in_order token ys))
  in_order-swap lo mid hi (x ∷ xs) ys h k =
      ap (put token x) (in_order-swap lo mid hi xs ys h.2 k)
      ∙ put-behind x lo mid (in_order token ys) (in_order token xs) h.0 k

  in_order-rises : (lo hi : ℕ) (xs : List X) → Rises token lo xs hi → in_order token xs ≡ xs
  in_order-rises lo hi [] h = refl
  in_order-rises lo hi (x ∷ xs) h =
      ap (put token x) (in_order-rises (suc (token x)) hi xs h.1)
      ∙ put-first x (suc (token x)) hi xs (omega arith) h.1

  -- ---- rows

  pub row-none : (lo hi : ℕ) → lo ≤ hi → Row token lo hi [] []
  row-none lo hi e = record { range = e; within = tt; rises = e; is = refl }

  pub row-rising : (lo hi : ℕ) (xs : List X) → Rises token lo xs hi → Row token lo hi xs xs
  row-rising lo hi xs h = record {
    range = rises-range lo hi xs h;
    within = rises-within lo hi xs h;
    rises = h;
    is = in_order-rises lo hi xs h;
  }

  pub row-widen : (low lo hi high : ℕ) {xs ys : List X} → low ≤ lo → hi ≤ high → Row token lo hi xs ys
      → Row token low high xs ys
  row-widen low lo hi high {xs = xs} {ys = ys} e f h = record {
    range = omega (arith, e, f, h.range);
    within = within-widen low lo hi high xs e f h.within;
    rises = rises-from low lo high ys e (rises-to lo hi high ys f h.rises);
    is = h.is;
  }

  -- what stands behind comes later
  pub row-append : (lo mid hi : ℕ) {xs ys ms bs : List X} → Row token lo mid xs ms → Row token mid hi ys bs
      → Row token lo hi (xs ++ ys) (ms ++ bs)
  row-append lo mid hi {xs = xs} {ys = ys} {ms = ms} {bs = bs} h k = record {
    range = omega (arith, h.range, k.range);
    within = within-append lo hi xs ys (within-widen lo lo mid hi xs (omega arith) k.range h.within)
        (within-widen lo mid hi hi ys h.range (omega arith) k.within);
    rises = rises-append lo mid hi ms bs h.rises k.rises;
    is = in_order-append lo mid hi xs ys h.within
        (subst (λ (zs : List X). Rises token mid zs hi) (sym k.is) k.rises)
        ∙ ap (λ (zs : List X). zs ++ in_order token ys) h.is ∙ ap (λ (zs : List X). ms ++ zs) k.is;
  }

  -- what stands behind comes earlier
  pub row-swap : (lo mid hi : ℕ) {xs ys ms bs : List X} → Row token mid hi xs ms → Row token lo mid ys bs
      → Row token lo hi (xs ++ ys) (bs ++ ms)
  row-swap lo mid hi {xs = xs} {ys = ys} {ms = ms} {bs = bs} h k = record {
    range = omega (arith, h.range, k.range);
    within = within-append lo hi xs ys (within-widen lo mid hi hi xs k.range (omega arith) h.within)
        (within-widen lo lo mid hi ys (omega arith) h.range k.within);
    rises = rises-append lo mid hi bs ms k.rises h.rises;
    is = in_order-swap lo mid hi xs ys h.within
        (subst (λ (zs : List X). Rises token lo zs mid) (sym k.is) k.rises)
        ∙ ap (λ (zs : List X). zs ++ in_order token xs) k.is ∙ ap (λ (zs : List X). bs ++ zs) h.is;
  }
