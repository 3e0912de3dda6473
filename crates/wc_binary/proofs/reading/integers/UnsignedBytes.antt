-- An unsigned integer in the making.
use Rattle.std.proofs.Common.{◌≡◌, ℕ, ◌+◌, List, [], ◌∷◌, ◌++◌, length, Ok, Err, inl, inr, refl, sym, ap, ◌∙◌}
use Rattle.std.proofs.Common.{append_assoc, arith}
use Rattle.wc_leb128.specs.Standard.Integers.{U, Begins, IsUnfinished}
use Rattle.std.proofs.lemmas.List.{length-append}
use Rattle.std.specs.Prelude.{IsTrue}
use Rattle.wc_binary.specs.declared.fault.BinFault.TheVariants.{Bad}
use Rattle.wc_binary.specs.declared.fault.BinWhy.TheVariants.{End, Integer}
use Rattle.wc_binary.specs.Standard.Phrase.{halt}
use Rattle.wc_binary.specs.Reading.Reading.{got, unsigned_at}
use Rattle.wc_binary.specs.Reading.Source.{Input, Fails, Gave}
use Rattle.wc_binary.proofs.reading.ahead.Fronts.{bytes_to}
use Rattle.wc_binary.proofs.reading.Going.{EndsAt, GoesOn-stops}
use Rattle.wc_binary.proofs.reading.integers.SignedBytes.{Held, held-to}
use Rattle.wc_binary.proofs.phrases.Unsigned.{unsigned-spelled, unsigned-stopped-at}

module _ (N : ℕ) (a : List ℕ) (start first : ℕ) (old now : Input) (at byte : ℕ)
    (h : Held a start first old now at byte) where
  pub unsigned-done : (v : ℕ) → U N (a ++ byte ∷ []) v → Gave old now (Ok v) (λ x. unsigned_at N start (first ∷ x))
  unsigned-done v s = (
    h.going,
    λ k.
        let b = h.bytes k in
        let split : first ∷ old.left ≡ (a ++ byte ∷ []) ++ now.left =
        b.1 ∙ sym (append_assoc a (byte ∷ []) now.left) in
        let place : start + length (a ++ byte ∷ []) ≡ now.place =
        omega (arith, length-append a (byte ∷ []), b.2, h.behind) in
        let e = unsigned-spelled N start (a ++ byte ∷ []) now.left v s in
        (b.0, ap (λ (z : List ℕ). unsigned_at N start z) split ∙ e ∙ ap (λ (q : ℕ). got v q now.left) place),
  )

  pub unsigned-bad : IsUnfinished (U N) a → (Begins (U N) (a ++ byte ∷ []) → ⊥)
      → Fails old now (Bad at Integer) (λ x. unsigned_at N start (first ∷ x))
  unsigned-bad u bars = (
    GoesOn-stops old now h.going,
    λ k.
        let b = h.bytes k in
        let place : start + length a ≡ at = sym b.2 in
        let f = halt (start + length a) Integer (start + length a + 1) in
        let e = unsigned-stopped-at N start a (byte ∷ now.left) f u (inr (byte, now.left, refl, bars, refl)) in
        let behind : at + 1 ≡ now.place = sym h.behind in
        ap (λ (z : List ℕ). unsigned_at N start z) b.1 ∙ e ∙ ap (λ (q : ℕ). Err (halt q Integer (q + 1))) place
        ∙ ap (λ (q : ℕ). Err (halt at Integer q)) behind,
  )

  pub unsigned-end : IsUnfinished (U N) (a ++ byte ∷ []) → IsTrue old.known
      → IsTrue now.known × EndsAt now.place old now (λ x. unsigned_at N start (first ∷ x))
  unsigned-end u k =
      let s = h.bytes k in
      let place : start + length (a ++ byte ∷ []) ≡ now.place =
      omega (arith, length-append a (byte ∷ []), s.2, h.behind) in
      let f = halt (start + length (a ++ byte ∷ [])) End (start + length (a ++ byte ∷ [])) in (
        s.0,
        λ c within e.
            let t = unsigned-stopped-at N start (a ++ byte ∷ []) (bytes_to c now) f u (inl (e, refl)) in
            ap (λ (z : List ℕ). unsigned_at N start z) (held-to a start first old now at byte h k c within) ∙ t
            ∙ ap (λ (q : ℕ). Err (halt q End q)) place,
      )
