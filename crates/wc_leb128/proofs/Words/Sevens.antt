-- The low seven bits of eight bytes, put together by twos, by fours and all.
use Rattle.std.proofs.Common.{◌≡◌, ℕ, ◌+◌, ◌*◌, ◌/◌, ◌%◌, ◌<◌, List, [], ◌∷◌, bit_and, length, refl, ap, ◌∙◌}
use Rattle.std.proofs.Common.{arith}
use Rattle.std.specs.Simd.Lanes.{number_l}
use Rattle.std.proofs.lemmas.Nat.{and_mask}
use Rattle.wc_leb128.specs.Reading.Eight.{AreBytes, groups}
use Rattle.wc_leb128.proofs.Words.Masks.{AreBelow, digits-masked}

-- two neighbours of each pair
pairs-of : (low g0 g1 g2 g3 g4 g5 g6 g7 : ℕ) → AreBelow 128 (g0 ∷ g1 ∷ g2 ∷ g3 ∷ g4 ∷ g5 ∷ g6 ∷ g7 ∷ [])
    → low ≡ number_l 256 (g0 ∷ g1 ∷ g2 ∷ g3 ∷ g4 ∷ g5 ∷ g6 ∷ g7 ∷ [])
    → bit_and low 0x007f_007f_007f_007f + 128 * bit_and (low / 256) 0x007f_007f_007f_007f
    ≡ number_l 65536 ((g0 + 128 * g1) ∷ (g2 + 128 * g3) ∷ (g4 + 128 * g5) ∷ (g6 + 128 * g7) ∷ [])
pairs-of low g0 g1 g2 g3 g4 g5 g6 g7 (h0, (h1, (h2, (h3, (h4, (h5, (h6, (h7, u)))))))) e =
    let even : low ≡ number_l 65536 ((g0 + 256 * g1) ∷ (g2 + 256 * g3) ∷ (g4 + 256 * g5) ∷ (g6 + 256 * g7) ∷ []) =
    omega (arith, e) in
    let odd : low / 256 ≡ number_l 65536 ((g1 + 256 * g2) ∷ (g3 + 256 * g4) ∷ (g5 + 256 * g6) ∷ g7 ∷ []) =
    omega (arith, e, h0) in
    let a = digits-masked 16 7 ((g0 + 256 * g1) ∷ (g2 + 256 * g3) ∷ (g4 + 256 * g5) ∷ (g6 + 256 * g7) ∷ [])
    (omega arith) (omega arith, (omega arith, (omega arith, (omega arith, tt)))) in
    let b = digits-masked 16 7 ((g1 + 256 * g2) ∷ (g3 + 256 * g4) ∷ (g5 + 256 * g6) ∷ g7 ∷ [])
    (omega arith) (omega arith, (omega arith, (omega arith, (omega arith, tt)))) in
    let m0 : (g0 + 256 * g1) % 128 ≡ g0 = omega arith in
    let m2 : (g2 + 256 * g3) % 128 ≡ g2 = omega arith in
    let m4 : (g4 + 256 * g5) % 128 ≡ g4 = omega arith in
    let m6 : (g6 + 256 * g7) % 128 ≡ g6 = omega arith in
    let m1 : (g1 + 256 * g2) % 128 ≡ g1 = omega arith in
    let m3 : (g3 + 256 * g4) % 128 ≡ g3 = omega arith in
    let m5 : (g5 + 256 * g6) % 128 ≡ g5 = omega arith in
    let m7 : g7 % 128 ≡ g7 = omega arith in
    let evens : bit_and low 0x007f_007f_007f_007f ≡ number_l 65536 (g0 ∷ g2 ∷ g4 ∷ g6 ∷ []) =
    ap (λ x. bit_and x 0x007f_007f_007f_007f) even ∙ a ∙ rw (m0, m2, m4, m6) refl in
    let odds : bit_and (low / 256) 0x007f_007f_007f_007f ≡ number_l 65536 (g1 ∷ g3 ∷ g5 ∷ g7 ∷ []) =
    ap (λ x. bit_and x 0x007f_007f_007f_007f) odd ∙ b ∙ rw (m1, m3, m5, m7) refl in
    omega (arith, evens, odds)

-- two neighbouring pairs of each four
fours-of : (low p0 p1 p2 p3 : ℕ) → AreBelow 16384 (p0 ∷ p1 ∷ p2 ∷ p3 ∷ [])
    → low ≡ number_l 65536 (p0 ∷ p1 ∷ p2 ∷ p3 ∷ [])
    → bit_and low 0x3fff_0000_3fff + 16384 * bit_and (low / 65536) 0x3fff_0000_3fff
    ≡ number_l 4294967296 ((p0 + 16384 * p1) ∷ (p2 + 16384 * p3) ∷ [])
fours-of low p0 p1 p2 p3 (h0, (h1, (h2, (h3, u)))) e =
    let even : low ≡ number_l 4294967296 ((p0 + 65536 * p1) ∷ (p2 + 65536 * p3) ∷ []) = omega (arith, e) in
    let odd : low / 65536 ≡ number_l 4294967296 ((p1 + 65536 * p2) ∷ p3 ∷ []) = omega (arith, e, h0) in
    let pair = (p0 + 65536 * p1) ∷ (p2 + 65536 * p3) ∷ [] in
    let a = digits-masked 32 14 pair (omega arith) (omega arith, (omega arith, tt)) in
    let b = digits-masked 32 14 ((p1 + 65536 * p2) ∷ p3 ∷ []) (omega arith) (omega arith, (omega arith, tt)) in
    let m0 : (p0 + 65536 * p1) % 16384 ≡ p0 = omega arith in
    let m2 : (p2 + 65536 * p3) % 16384 ≡ p2 = omega arith in
    let m1 : (p1 + 65536 * p2) % 16384 ≡ p1 = omega arith in
    let m3 : p3 % 16384 ≡ p3 = omega arith in
    let evens : bit_and low 0x3fff_0000_3fff ≡ number_l 4294967296 (p0 ∷ p2 ∷ []) =
    ap (λ x. bit_and x 0x3fff_0000_3fff) even ∙ a ∙ rw (m0, m2) refl in
    let odds : bit_and (low / 65536) 0x3fff_0000_3fff ≡ number_l 4294967296 (p1 ∷ p3 ∷ []) =
    ap (λ x. bit_and x 0x3fff_0000_3fff) odd ∙ b ∙ rw (m1, m3) refl in
    omega (arith, evens, odds)

all-of : (low q0 q1 : ℕ) → AreBelow 268435456 (q0 ∷ q1 ∷ []) → low ≡ number_l 4294967296 (q0 ∷ q1 ∷ [])
    → bit_and low 268435455 + 268435456 * (low / 4294967296) ≡ q0 + 268435456 * q1
all-of low q0 q1 (h0, (h1, u)) e =
    let m = and_mask low 28 in
    let a : low % 268435456 ≡ q0 = omega (arith, e) in
    let b : low / 4294967296 ≡ q1 = omega (arith, e) in
    omega (arith, m, a, b)

abbrev pairs : ℕ → ℕ
pairs low = bit_and low 0x007f_007f_007f_007f + 128 * bit_and (low / 256) 0x007f_007f_007f_007f

abbrev fours : ℕ → ℕ
fours low = bit_and low 0x3fff_0000_3fff + 16384 * bit_and (low / 65536) 0x3fff_0000_3fff

abbrev all : ℕ → ℕ
all low = bit_and low 268435455 + 268435456 * (low / 4294967296)

together : (g0 g1 g2 g3 g4 g5 g6 g7 low : ℕ) → AreBelow 128 (g0 ∷ g1 ∷ g2 ∷ g3 ∷ g4 ∷ g5 ∷ g6 ∷ g7 ∷ [])
    → low ≡ number_l 256 (g0 ∷ g1 ∷ g2 ∷ g3 ∷ g4 ∷ g5 ∷ g6 ∷ g7 ∷ [])
    → all (fours (pairs low))
    ≡ g0 + 128 * (g1 + 128 * (g2 + 128 * (g3 + 128 * (g4 + 128 * (g5 + 128 * (g6 + 128 * (g7 + 128 * 0)))))))
together g0 g1 g2 g3 g4 g5 g6 g7 low (h0, (h1, (h2, (h3, (h4, (h5, (h6, (h7, u)))))))) e =
    let p = pairs-of low g0 g1 g2 g3 g4 g5 g6 g7 (h0, (h1, (h2, (h3, (h4, (h5, (h6, (h7, u)))))))) e in
    let f = fours-of (pairs low) (g0 + 128 * g1) (g2 + 128 * g3) (g4 + 128 * g5) (g6 + 128 * g7)
    (omega arith, (omega arith, (omega arith, (omega arith, tt)))) p in
    let r = all-of (fours (pairs low)) (g0 + 128 * g1 + 16384 * (g2 + 128 * g3))
    (g4 + 128 * g5 + 16384 * (g6 + 128 * g7)) (omega arith, (omega arith, tt)) f in
    omega (arith, r)

rem-below : (b : ℕ) → b % 128 < 128
rem-below b = omega arith

pub groups-together : (word : ℕ) (bytes : List ℕ) → length bytes ≡ 8 → AreBytes bytes → word ≡ number_l 256 bytes
    → all (fours (pairs (bit_and word 0x7f7f_7f7f_7f7f_7f7f))) ≡ groups bytes
groups-together word (b0 ∷ b1 ∷ b2 ∷ b3 ∷ b4 ∷ b5 ∷ b6 ∷ b7 ∷ []) n h e =
    let low = ap (λ x. bit_and x 0x7f7f_7f7f_7f7f_7f7f) e
    ∙ digits-masked 8 7 (b0 ∷ b1 ∷ b2 ∷ b3 ∷ b4 ∷ b5 ∷ b6 ∷ b7 ∷ []) (omega arith) h in
    together (b0 % 128) (b1 % 128) (b2 % 128) (b3 % 128) (b4 % 128) (b5 % 128) (b6 % 128) (b7 % 128) _ (
      rem-below b0,
      (
        rem-below b1,
        (
          rem-below b2,
          (
            rem-below b3,
            (rem-below b4, (rem-below b5, (rem-below b6, (rem-below b7, tt)))),
          ),
        ),
      ),
    ) low
groups-together word bytes n h e = absurd cc
