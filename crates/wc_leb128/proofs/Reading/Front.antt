-- Bytes that a list begins with.
use Rattle.std.proofs.Common.{◌≡◌, ℕ, zero, suc, ◌<◌, ◌≤◌, List, [], ◌∷◌, length, take, refl, ap, arith}
use Rattle.std.proofs.Common.{slice_index_or, w64}
use Rattle.std.specs.Int.{from_le_bytes}
use Rattle.std.specs.Simd.Lanes.{number_l}
use Rattle.wc_leb128.specs.Reading.Eight.{AreBytes}

pub bytes-taken : (n : ℕ) (xs : List ℕ) → ((i : ℕ) → slice_index_or xs i 0 < 256) → AreBytes (take n xs)
bytes-taken zero xs h = tt
bytes-taken (suc n) [] h = tt
bytes-taken (suc n) (x ∷ xs) h = (h 0, bytes-taken n xs (λ i. h (suc i)))

pub take-taken : (m n : ℕ) (xs : List ℕ) → m ≤ n → take m (take n xs) ≡ take m xs
take-taken zero n xs le = refl
take-taken (suc m) zero xs le = absurd (omega arith)
take-taken (suc m) (suc n) [] le = refl
take-taken (suc m) (suc n) (x ∷ xs) le = ap (λ (l : List ℕ). x ∷ l) (take-taken m n xs (omega arith))

pub word-of : (word : ℕ) (bytes : List ℕ) → length bytes ≡ 8 → word ≡ from_le_bytes w64 bytes
    → word ≡ number_l 256 bytes
word-of word (b0 ∷ b1 ∷ b2 ∷ b3 ∷ b4 ∷ b5 ∷ b6 ∷ b7 ∷ []) n e = omega (arith, e)
word-of word bytes n e = absurd cc
