-- A signed integer in the making.
use Rattle.std.proofs.Common.{◌≡◌, ℕ, suc, ◌+◌, ◌-◌, List, [], ◌∷◌, ◌++◌, length, take, Option, Some, None, Ok, Err}
use Rattle.std.proofs.Common.{inl, inr, refl, sym, ap, ◌∙◌, append_assoc, arith}
use Rattle.std.specs.Prelude.{IsTrue, ℤ}
use Rattle.std.proofs.lemmas.List.{length-append}
use Rattle.wc_leb128.specs.Standard.Integers.{S, Begins, IsUnfinished}
use Rattle.wc_binary.specs.declared.fault.BinFault.TheVariants.{Bad}
use Rattle.wc_binary.specs.declared.fault.BinWhy.TheVariants.{End, Integer}
use Rattle.wc_binary.specs.Standard.Phrase.{halt}
use Rattle.wc_binary.specs.Reading.Reading.{got, signed_at}
use Rattle.wc_binary.specs.Reading.Source.{Input, GoesOn, NextGives, Fails, Gave}
use Rattle.wc_binary.proofs.reading.ahead.Fronts.{bytes_to, IsWithin, front}
use Rattle.wc_binary.proofs.reading.Going.{EndsAt, GoesOn-refl, GoesOn-stops, GoesOn-trans}
use Rattle.wc_binary.proofs.phrases.Signed.{signed-spelled, signed-stopped-at}

-- the bytes a were pushed, and the next one was read at `at`; `first` was read at `start`, right before the old input
pub record Held (a : List ℕ) (start first : ℕ) (old now : Input) (at byte : ℕ) : Type 0 where
  pub going : GoesOn old now
  pub begun : old.place ≡ start + 1
  pub behind : now.place ≡ at + 1
  pub bytes : IsTrue old.known → IsTrue now.known × (first ∷ old.left ≡ a ++ byte ∷ now.left) × (at ≡ start + length a)

pub held-first : (start first : ℕ) (old : Input) → old.place ≡ start + 1 → Held [] start first old old start first
held-first start first old e = record {
  going = GoesOn-refl old;
  begun = e;
  behind = e;
  bytes = λ k.
      (k, refl, omega arith);
}

-- the same up to any place behind them
pub held-to : (a : List ℕ) (start first : ℕ) (old now : Input) (at byte : ℕ) → Held a start first old now at byte
    → IsTrue old.known → (c : Option ℕ) → IsWithin now.place c
    → first ∷ bytes_to c old ≡ (a ++ byte ∷ []) ++ bytes_to c now
held-to a start first old now at byte h k None le = (h.bytes k).1 ∙ sym (append_assoc a (byte ∷ []) now.left)
held-to a start first old now at byte h k (Some c) le =
    let b = h.bytes k in
    let split : first ∷ old.left ≡ (a ++ byte ∷ []) ++ now.left = b.1 ∙ sym (append_assoc a (byte ∷ []) now.left) in
    let place : now.place ≡ start + length (a ++ byte ∷ []) =
    omega (arith, length-append a (byte ∷ []), b.2, h.behind) in
    let more : c - start ≡ suc (c - old.place) = omega (arith, h.begun, le, h.going.forward) in
    sym (ap (λ n. take n (first ∷ old.left)) more) ∙ ap (λ (l : List ℕ). take (c - start) l) split
    ∙ front (a ++ byte ∷ []) now.left start c now.place place le

module _ (N : ℕ) (a : List ℕ) (start first : ℕ) (old now : Input) (at byte : ℕ)
    (h : Held a start first old now at byte) where
  pub held-done : (v : ℤ) → S N (a ++ byte ∷ []) v → Gave old now (Ok v) (λ x. signed_at N start (first ∷ x))
  held-done v s = (
    h.going,
    λ k.
        let b = h.bytes k in
        let split : first ∷ old.left ≡ (a ++ byte ∷ []) ++ now.left =
        b.1 ∙ sym (append_assoc a (byte ∷ []) now.left) in
        let place : start + length (a ++ byte ∷ []) ≡ now.place =
        omega (arith, length-append a (byte ∷ []), b.2, h.behind) in
        let e = signed-spelled N start (a ++ byte ∷ []) now.left v s in
        (b.0, ap (λ (z : List ℕ). signed_at N start z) split ∙ e ∙ ap (λ (q : ℕ). got v q now.left) place),
  )

  pub held-bad : IsUnfinished (S N) a → (Begins (S N) (a ++ byte ∷ []) → ⊥)
      → Fails old now (Bad at Integer) (λ x. signed_at N start (first ∷ x))
  held-bad u bars = (
    GoesOn-stops old now h.going,
    λ k.
        let b = h.bytes k in
        let place : start + length a ≡ at = sym b.2 in
        let f = halt (start + length a) Integer (start + length a + 1) in
        let e = signed-stopped-at N start a (byte ∷ now.left) f u (inr (byte, now.left, refl, bars, refl)) in
        let behind : at + 1 ≡ now.place = sym h.behind in
        ap (λ (z : List ℕ). signed_at N start z) b.1 ∙ e ∙ ap (λ (q : ℕ). Err (halt q Integer (q + 1))) place
        ∙ ap (λ (q : ℕ). Err (halt at Integer q)) behind,
  )

  pub held-next : (new : Input) (b : ℕ) → NextGives now new (Ok (Some b))
      → Held (a ++ byte ∷ []) start first old new now.place b
  held-next new b n = record {
    going = GoesOn-trans old now new h.going n.0;
    begun = h.begun;
    behind = n.1;
    bytes = λ k.
        let s = h.bytes k in
        let e = n.2 s.0 in
        let split : first ∷ old.left ≡ (a ++ byte ∷ []) ++ (b ∷ new.left) =
        s.1 ∙ ap (λ (z : List ℕ). a ++ byte ∷ z) e.1 ∙ sym (append_assoc a (byte ∷ []) (b ∷ new.left)) in
        (e.0, split, omega (arith, s.2, h.behind, length-append a (byte ∷ [])));
  }

  pub held-end : IsUnfinished (S N) (a ++ byte ∷ []) → IsTrue old.known
      → IsTrue now.known × EndsAt now.place old now (λ x. signed_at N start (first ∷ x))
  held-end u k =
      let s = h.bytes k in
      let place : start + length (a ++ byte ∷ []) ≡ now.place =
      omega (arith, length-append a (byte ∷ []), s.2, h.behind) in
      let f = halt (start + length (a ++ byte ∷ [])) End (start + length (a ++ byte ∷ [])) in (
        s.0,
        λ c within e.
            let t = signed-stopped-at N start (a ++ byte ∷ []) (bytes_to c now) f u (inl (e, refl)) in
            ap (λ (z : List ℕ). signed_at N start z) (held-to a start first old now at byte h k c within) ∙ t
            ∙ ap (λ (q : ℕ). Err (halt q End q)) place,
      )
