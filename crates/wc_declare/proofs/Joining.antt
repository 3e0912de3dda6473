-- Faults that were told on their own.
use Rattle.std.proofs.Common.{◌≡◌, nat_le, Bool, true, false, cond, List, [], ◌∷◌, Option, Some, None, refl, sym, ap}
use Rattle.std.proofs.Common.{◌∙◌, arith}
use Rattle.std.proofs.lemmas.Grind.{common_steps}
use Rattle.wc_spaces.specs.declared.noted.Fault.{Fault}
use Rattle.wc_spaces.specs.Standard.Least.{earlier, least_from, least}

module _ {W : Type 0} where
  -- one that is known, and then the least of others
  abbrev pub joined : Option (Fault W) → Option (Fault W) → Option (Fault W)
  joined known None = known
  joined known (Some f) = earlier known f

  of-three : (g x y : Fault W) (a b : Bool) → nat_le g.token x.token ≡ a → nat_le x.token y.token ≡ b
      → earlier (cond a (Some g) (Some x)) y ≡ joined (Some g) (cond b (Some x) (Some y))
  of-three g x y true true e f =
      let h : nat_le g.token y.token ≡ true = grind (arith, common_steps) in rw (h, e) refl
  of-three g x y true false e f = refl
  of-three g x y false true e f = rw (e, f) refl
  of-three g x y false false e f =
      let h : nat_le g.token y.token ≡ false = grind (arith, common_steps) in rw (h, f) refl

  of-two : (x y : Fault W) (b : Bool) → joined None (cond b (Some x) (Some y)) ≡ cond b (Some x) (Some y)
  of-two x y true = refl
  of-two x y false = refl

  in-turn : (known : Option (Fault W)) (x : Fault W) (m : Option (Fault W))
      → joined (earlier known x) m ≡ joined known (joined (Some x) m)
  in-turn known x None = refl
  in-turn None x (Some y) = sym (of-two x y (nat_le x.token y.token))
  in-turn (Some g) x (Some y) = of-three g x y (nat_le g.token x.token) (nat_le x.token y.token) refl refl

  pub least-joined : (known : Option (Fault W)) (fs : List (Fault W)) → least_from known fs ≡ joined known (least fs)
  least-joined known [] = refl
  least-joined known (x ∷ fs) =
      least-joined (earlier known x) fs ∙ in-turn known x (least fs)
      ∙ ap (λ (m : Option (Fault W)). joined known m) (sym (least-joined (Some x) fs))

  pub told-apart : (known more now : Option (Fault W)) (fs : List (Fault W)) → more ≡ least fs → now ≡ joined known more
      → now ≡ least_from known fs
  told-apart known more now fs e h =
      h ∙ ap (λ (m : Option (Fault W)). joined known m) e ∙ sym (least-joined known fs)
