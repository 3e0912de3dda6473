-- What a byte spells on its own.
use Rattle.std.proofs.Common.{◌≡◌, ◌↔◌, ℕ, ◌-◌, ◌^◌, ◌≤◌, ℤ, [], ◌∷◌, Some, inl, inr, refl, arith}
use Rattle.std.proofs.lemmas.Bool.{cases_lt, lt-ltb, le-ltb}
use Rattle.std.proofs.Math.Pow.{pow_mono}
use Rattle.wc_leb128.specs.Standard.Integers.{U, S}
use Rattle.wc_leb128.specs.Standard.OneByte.{unsigned_in_one, signed_in_one}

pub unsigned_alone : (N b n : ℕ) → 7 ≤ N → (unsigned_in_one b ≡ Some n) ↔ U N (b ∷ []) n
unsigned_alone N b n le =
    let p : 2 ^ 7 ≤ 2 ^ N = pow_mono le in
    elim (cases_lt b 128) [
      | inl lt ↦
          rw (lt-ltb b 128 lt) (
            (λ e. inl (lt, omega arith, refl, cc)),
            λ s. elim s [ inl w ↦ cc | inr w ↦ absurd (omega arith) ],
          )
      | inr ge ↦
          rw (le-ltb b 128 ge)
          ((λ e. cc), λ s. elim s [ inl w ↦ absurd (omega arith) | inr w ↦ absurd w.4 ])
    ]

pub signed_alone : (N b : ℕ) (z : ℤ) → 7 ≤ N → (signed_in_one b ≡ Some z) ↔ S N (b ∷ []) z
signed_alone N b z le =
    let p : 2 ^ 6 ≤ 2 ^ (N - 1) = pow_mono {i = 6} {j = N - 1} (omega arith) in
    elim (cases_lt b 64) [
      | inl lt ↦
          rw (lt-ltb b 64 lt) (
            (λ e. inl (lt, omega arith, refl, cc)),
            λ s. elim s [
              | inl w ↦ cc
              | inr w ↦ elim w [ inl v ↦ absurd (omega arith) | inr v ↦ absurd (omega arith) ]
            ],
          )
      | inr ge ↦
          elim (cases_lt b 128) [
            | inl lt ↦
                rw (le-ltb b 64 ge) rw (lt-ltb b 128 lt) (
                  (λ e. inr (inl (ge, lt, omega arith, refl, cc))),
                  λ s. elim s [
                    | inl w ↦ absurd (omega arith)
                    | inr w ↦ elim w [ inl v ↦ cc | inr v ↦ absurd (omega arith) ]
                  ],
                )
            | inr more ↦
                rw (le-ltb b 64 ge) rw (le-ltb b 128 more) (
                  (λ e. cc),
                  λ s. elim s [
                    | inl w ↦ absurd (omega arith)
                    | inr w ↦ elim w [ inl v ↦ absurd (omega arith) | inr v ↦ absurd v.4 ]
                  ],
                )
          ]
    ]
