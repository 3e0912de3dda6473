-- What goes to a writer whose failure is dropped, from what its parts do.
use Rattle.std.proofs.Common.{◌≡◌, ◌∙◌, ℕ, ◌+◌, ◌<◌, ◌≤◌, List, [], ◌∷◌, ◌++◌, length, take, get_or, flat_map}
use Rattle.std.proofs.Common.{Bool, true, false, Option, refl, sym, ap, subst}
use Rattle.std.proofs.Common.{arith, append-nil, length-append}
use Rattle.std.proofs.Math.Seq.{take-append-add}
use Rattle.std.proofs.lemmas.Grind.{flat_map-append}
use Rattle.std.proofs.lemmas.List.{take_more, take-append-le}
use Rattle.std.proofs.KnownBytes.{Appends-trans}
use Rattle.std.specs.Io.KnownBytes.{Appends}
use Rattle.wc_device.specs.declared.io_device.Device.{Device}
use Rattle.wc_device.specs.Standard.Device.{device_inner, has_failed}
use Rattle.wc_cli.specs.Standard.Failing.{GoesOut}

-- one of two
decided : (b : Bool) (P : Type 0) → (b ≡ true → P) → (b ≡ false → P) → P
decided true P f g = f refl
decided false P f g = g refl

not-both : (b : Bool) (P : Type 0) → b ≡ true → b ≡ false → P
not-both b P p q = absurd (cc)

module _ {E : Type 0} (held : E → Option (List ℕ)) where
  -- one text behind another
  module _ (a b : List ℕ) (e e1 e2 : Device E) (p : GoesOut held a e e1) (q : GoesOut held b e1 e2) where
    stays : has_failed e1 ≡ true → has_failed e2 ≡ true
    stays h = subst (λ (d : Device E). has_failed d ≡ true) (sym (q.unasked h)) h

    went : has_failed e2 ≡ false → has_failed e1 ≡ false
    went h = decided (has_failed e1) (has_failed e1 ≡ false) (λ f. not-both (has_failed e2) _ (stays f) h) (λ g. g)

    cut : has_failed e1 ≡ true
        → (n : ℕ) × (n ≤ length (a ++ b)) × Appends (held (device_inner e)) (held (device_inner e2)) (take n (a ++ b))
    cut h =
        let n = p.front.0 in
        let few : n ≤ length a = p.front.1 in
        let same : take n (a ++ b) ≡ take n a = take-append-le n a b few in
        let held_at = subst (λ (d : Device E). Appends (held (device_inner e)) (held (device_inner d)) (take n a))
        (sym (q.unasked h)) p.front.2 in (
          n,
          omega (arith, few, length-append a b),
          subst (Appends (held (device_inner e)) (held (device_inner e2))) (sym same) held_at,
        )

    more : has_failed e1 ≡ false
        → (n : ℕ) × (n ≤ length (a ++ b)) × Appends (held (device_inner e)) (held (device_inner e2)) (take n (a ++ b))
    more h =
        let n = q.front.0 in
        let few : n ≤ length b = q.front.1 in
        let both = Appends-trans (held (device_inner e)) (held (device_inner e1)) (held (device_inner e2)) a (take n b)
        (p.whole h) q.front.2 in (
          length a + n,
          omega (arith, few, length-append a b),
          subst (Appends (held (device_inner e)) (held (device_inner e2))) (sym (take-append-add a b n)) both,
        )

    pub goes-on : GoesOut held (a ++ b) e e2
    goes-on = record {
      unasked = λ h. q.unasked (subst (λ (d : Device E). has_failed d ≡ true) (sym (p.unasked h)) h) ∙ p.unasked h;
      again = q.again ∙ p.again;
      unflushed = q.unflushed ∙ p.unflushed;
      kept = q.kept ∙ p.kept;
      whole = λ h. Appends-trans (held (device_inner e)) (held (device_inner e1)) (held (device_inner e2)) a b
          (p.whole (went h)) (q.whole h);
      front = decided (has_failed e1) _ cut more;
    }

  -- one piece more
  pub goes-more : {X : Type 0} (f : X → List ℕ) (xs : List X) (i : ℕ) (d : X) (e e1 e2 : Device E) → i < length xs
      → GoesOut held (flat_map f (take i xs)) e e1 → GoesOut held (f (get_or xs i d)) e1 e2
      → GoesOut held (flat_map f (take (i + 1) xs)) e e2
  goes-more {X} f xs i d e e1 e2 l p q =
      let x = get_or xs i d in
      let text : flat_map f (take (i + 1) xs) ≡ flat_map f (take i xs) ++ f x =
      ap (flat_map f) (take_more xs i d l) ∙ flat_map-append f (take i xs) (x ∷ [])
      ∙ ap (λ (t : List ℕ). flat_map f (take i xs) ++ t) (append-nil (f x)) in
      subst (λ (t : List ℕ). GoesOut held t e e2) (sym text) (goes-on (flat_map f (take i xs)) (f x) e e1 e2 p q)
