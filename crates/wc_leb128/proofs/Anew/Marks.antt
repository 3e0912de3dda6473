-- The marks of the bytes of an integer but the last one, in a word.
use Rattle.std.proofs.Common.{◌≡◌, ℕ, zero, suc, ◌+◌, ◌-◌, ◌*◌, ◌%◌, ◌^◌, ◌<◌, ◌≤◌, List, [], ◌∷◌, bit_and, length}
use Rattle.std.proofs.Common.{take, get_or, refl, ap, ◌∙◌, arith, w64}
use Rattle.std.specs.Int.{to_le_bytes}
use Rattle.std.specs.Simd.Lanes.{number_l}
use Rattle.std.proofs.lemmas.Nat.{le_bytes_8}
use Rattle.wc_leb128.specs.Reading.Eight.{AreBytes}
use Rattle.wc_leb128.specs.Reading.Respelled.{again}
use Rattle.wc_leb128.proofs.Words.Masks.{digits-masked}

small : (a b c d e f g h : ℕ) → a < 256 → b < 256 → c < 256 → d < 256 → e < 256 → f < 256 → g < 256 → h < 256
    → (i : ℕ) → get_or (a ∷ b ∷ c ∷ d ∷ e ∷ f ∷ g ∷ h ∷ []) i 0 < 256
small a b c d e f g h s t u v w x y z zero = s
small a b c d e f g h s t u v w x y z (suc zero) = t
small a b c d e f g h s t u v w x y z (suc (suc zero)) = u
small a b c d e f g h s t u v w x y z (suc (suc (suc zero))) = v
small a b c d e f g h s t u v w x y z (suc (suc (suc (suc zero)))) = w
small a b c d e f g h s t u v w x y z (suc (suc (suc (suc (suc zero))))) = x
small a b c d e f g h s t u v w x y z (suc (suc (suc (suc (suc (suc zero)))))) = y
small a b c d e f g h s t u v w x y z (suc (suc (suc (suc (suc (suc (suc zero))))))) = z
small a b c d e f g h s t u v w x y z (suc (suc (suc (suc (suc (suc (suc (suc i)))))))) = omega arith

-- the seven bits of each byte, and more above these
module _ (word b0 b1 b2 b3 b4 b5 b6 b7 : ℕ) (h : AreBytes (b0 ∷ b1 ∷ b2 ∷ b3 ∷ b4 ∷ b5 ∷ b6 ∷ b7 ∷ []))
    (e : word ≡ number_l 256 (b0 ∷ b1 ∷ b2 ∷ b3 ∷ b4 ∷ b5 ∷ b6 ∷ b7 ∷ []))
  where
    low : bit_and word 0x7f7f_7f7f_7f7f_7f7f
        ≡ number_l 256 ((b0 % 128) ∷ (b1 % 128) ∷ (b2 % 128) ∷ (b3 % 128) ∷
        (b4 % 128) ∷ (b5 % 128) ∷ (b6 % 128) ∷ (b7 % 128) ∷ [])
    low =
        ap (λ x. bit_and x 0x7f7f_7f7f_7f7f_7f7f) e
        ∙ digits-masked 8 7 (b0 ∷ b1 ∷ b2 ∷ b3 ∷ b4 ∷ b5 ∷ b6 ∷ b7 ∷ []) (omega arith) h

    put : (c0 c1 c2 c3 c4 c5 c6 c7 m : ℕ) → c0 < 256 → c1 < 256 → c2 < 256 → c3 < 256 → c4 < 256 → c5 < 256
        → c6 < 256 → c7 < 256
        → bit_and word 0x7f7f_7f7f_7f7f_7f7f + m ≡ number_l 256 (c0 ∷ c1 ∷ c2 ∷ c3 ∷ c4 ∷ c5 ∷ c6 ∷ c7 ∷ [])
        → to_le_bytes w64 (bit_and word 0x7f7f_7f7f_7f7f_7f7f + m) ≡ c0 ∷ c1 ∷ c2 ∷ c3 ∷ c4 ∷ c5 ∷ c6 ∷ c7 ∷ []
    put c0 c1 c2 c3 c4 c5 c6 c7 m l0 l1 l2 l3 l4 l5 l6 l7 is =
        le_bytes_8 (c0 ∷ c1 ∷ c2 ∷ c3 ∷ c4 ∷ c5 ∷ c6 ∷ c7 ∷ []) _ refl
        (small c0 c1 c2 c3 c4 c5 c6 c7 l0 l1 l2 l3 l4 l5 l6 l7) (omega (arith, is))

    abbrev marks : ℕ → ℕ
    marks count = bit_and 9259542123273814144 (1 * 2 ^ (8 * (count - 1)) % 18446744073709551616 - 1)

    abbrev Are : ℕ → Type 0
    Are count =
        take count (to_le_bytes w64 (bit_and word 0x7f7f_7f7f_7f7f_7f7f + marks count))
        ≡ again (take count (b0 ∷ b1 ∷ b2 ∷ b3 ∷ b4 ∷ b5 ∷ b6 ∷ b7 ∷ []))

    one : Are 1
    one =
        let m : marks 1 ≡ 0 = refl in
        ap (take 1) (put (b0 % 128) (b1 % 128) (b2 % 128) (b3 % 128) (b4 % 128) (b5 % 128) (b6 % 128) (b7 % 128)
        (marks 1) (omega arith) (omega arith) (omega arith) (omega arith)
        (omega arith) (omega arith) (omega arith) (omega arith) (omega (arith, low, m)))

    two : Are 2
    two =
        let m : marks 2 ≡ 128 = refl in
        ap (take 2) (put (128 + b0 % 128) (b1 % 128) (b2 % 128) (b3 % 128) (b4 % 128) (b5 % 128) (b6 % 128) (b7 % 128)
        (marks 2) (omega arith) (omega arith) (omega arith) (omega arith)
        (omega arith) (omega arith) (omega arith) (omega arith) (omega (arith, low, m)))

    three : Are 3
    three =
        let m : marks 3 ≡ 32896 = refl in
        ap (take 3) (put (128 + b0 % 128) (128 + b1 % 128) (b2 % 128) (b3 % 128) (b4 % 128) (b5 % 128) (b6 % 128)
        (b7 % 128)
        (marks 3) (omega arith) (omega arith) (omega arith) (omega arith)
        (omega arith) (omega arith) (omega arith) (omega arith) (omega (arith, low, m)))

    four : Are 4
    four =
        let m : marks 4 ≡ 8421504 = refl in
        ap (take 4) (put (128 + b0 % 128) (128 + b1 % 128) (128 + b2 % 128) (b3 % 128) (b4 % 128) (b5 % 128)
        (b6 % 128) (b7 % 128)
        (marks 4) (omega arith) (omega arith) (omega arith) (omega arith)
        (omega arith) (omega arith) (omega arith) (omega arith) (omega (arith, low, m)))

    five : Are 5
    five =
        let m : marks 5 ≡ 2155905152 = refl in
        ap (take 5) (put (128 + b0 % 128) (128 + b1 % 128) (128 + b2 % 128) (128 + b3 % 128) (b4 % 128) (b5 % 128)
        (b6 % 128) (b7 % 128)
        (marks 5) (omega arith) (omega arith) (omega arith) (omega arith)
        (omega arith) (omega arith) (omega arith) (omega arith) (omega (arith, low, m)))

    six : Are 6
    six =
        let m : marks 6 ≡ 551911719040 = refl in
        ap (take 6) (put (128 + b0 % 128) (128 + b1 % 128) (128 + b2 % 128) (128 + b3 % 128) (128 + b4 % 128)
        (b5 % 128) (b6 % 128) (b7 % 128)
        (marks 6) (omega arith) (omega arith) (omega arith) (omega arith)
        (omega arith) (omega arith) (omega arith) (omega arith) (omega (arith, low, m)))

    seven : Are 7
    seven =
        let m : marks 7 ≡ 141289400074368 = refl in
        ap (take 7) (put (128 + b0 % 128) (128 + b1 % 128) (128 + b2 % 128) (128 + b3 % 128) (128 + b4 % 128)
        (128 + b5 % 128) (b6 % 128) (b7 % 128)
        (marks 7) (omega arith) (omega arith) (omega arith) (omega arith)
        (omega arith) (omega arith) (omega arith) (omega arith) (omega (arith, low, m)))

    eight : Are 8
    eight =
        let m : marks 8 ≡ 36170086419038336 = refl in
        ap (take 8) (put (128 + b0 % 128) (128 + b1 % 128) (128 + b2 % 128) (128 + b3 % 128) (128 + b4 % 128)
        (128 + b5 % 128) (128 + b6 % 128) (b7 % 128)
        (marks 8) (omega arith) (omega arith) (omega arith) (omega arith)
        (omega arith) (omega arith) (omega arith) (omega arith) (omega (arith, low, m)))

    pub are-marked : (count : ℕ) → 0 < count → count ≤ 8 → Are count
    are-marked zero some few = absurd (omega (arith, some))
    are-marked (suc zero) some few = one
    are-marked (suc (suc zero)) some few = two
    are-marked (suc (suc (suc zero))) some few = three
    are-marked (suc (suc (suc (suc zero)))) some few = four
    are-marked (suc (suc (suc (suc (suc zero))))) some few = five
    are-marked (suc (suc (suc (suc (suc (suc zero)))))) some few = six
    are-marked (suc (suc (suc (suc (suc (suc (suc zero))))))) some few = seven
    are-marked (suc (suc (suc (suc (suc (suc (suc (suc zero)))))))) some few = eight
    are-marked (suc (suc (suc (suc (suc (suc (suc (suc (suc n))))))))) some few = absurd (omega (arith, few))

-- the same of any eight bytes
pub marked-again : (word count : ℕ) (bytes : List ℕ) → 0 < count → count ≤ 8 → length bytes ≡ 8 → AreBytes bytes
    → word ≡ number_l 256 bytes
    → take count (to_le_bytes w64 (bit_and word 0x7f7f_7f7f_7f7f_7f7f
    + bit_and 9259542123273814144 (1 * 2 ^ (8 * (count - 1)) % 18446744073709551616 - 1)))
    ≡ again (take count bytes)
marked-again word count (b0 ∷ b1 ∷ b2 ∷ b3 ∷ b4 ∷ b5 ∷ b6 ∷ b7 ∷ []) some few n h e =
    are-marked word b0 b1 b2 b3 b4 b5 b6 b7 h e count some few
marked-again word count bytes some few n h e = absurd cc
