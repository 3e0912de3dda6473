-- The least of faults.
use Rattle.std.proofs.Common.{◌≡◌, ◌≤◌, nat_le, Bool, true, false, cond, List, [], ◌∷◌, ◌++◌, Option, Some, None}
use Rattle.std.proofs.Common.{IfSome, refl, sym, ap, ◌∙◌, arith}
use Rattle.std.proofs.lemmas.Grind.{common_steps}
use Rattle.std.specs.List.{AllByRecursion}
use Rattle.wc_spaces.specs.declared.noted.Fault.{Fault}
use Rattle.wc_spaces.specs.Standard.Least.{earlier, least_from, least}

module _ {W : Type 0} where
  abbrev AtMost : Fault W → Fault W → Type 0
  AtMost f g = f.token ≤ g.token

  one_of : (b : Bool) (g y : Fault W) → (h : Fault W) × (cond b (Some g) (Some y) ≡ Some h)
  one_of true g y = (g, refl)
  one_of false g y = (y, refl)

  some-stays : (g : Fault W) (fs : List (Fault W)) → least_from (Some g) fs ≡ None → ⊥
  some-stays g [] e = absurd cc
  some-stays g (y ∷ fs) e =
      let o = one_of (nat_le g.token y.token) g y in
      some-stays o.0 fs (ap (λ (z : Option (Fault W)). least_from z fs) (sym o.1) ∙ e)

  pub least-none : (fs : List (Fault W)) → least fs ≡ None → fs ≡ []
  least-none [] e = refl
  least-none (x ∷ fs) e = absurd (some-stays x fs e)

  chosen : (g x f : Fault W) (b : Bool) → nat_le g.token x.token ≡ b → IfSome (cond b (Some g) (Some x)) (AtMost f)
      → (f.token ≤ g.token) × (f.token ≤ x.token)
  chosen g x f true e h = (h, grind (arith, common_steps))
  chosen g x f false e h = (grind (arith, common_steps), h)

  bound : (o : Option (Fault W)) (fs : List (Fault W)) (f : Fault W) → least_from o fs ≡ Some f → IfSome o (AtMost f)
      × AllByRecursion (AtMost f) fs
  bound None [] f e = (tt, tt)
  bound (Some g) [] f e = (let same : g ≡ f = cc in omega (arith, ap (λ (x : Fault W). x.token) same), tt)
  bound None (x ∷ fs) f e = let h = bound (Some x) fs f e in (tt, (h.0, h.1))
  bound (Some g) (x ∷ fs) f e =
      let h = bound (earlier (Some g) x) fs f e in
      let k = chosen g x f (nat_le g.token x.token) refl h.0 in (k.0, (k.1, h.1))

  pub least-all : (fs : List (Fault W)) (f : Fault W) → least fs ≡ Some f → AllByRecursion (AtMost f) fs
  least-all fs f e = (bound None fs f e).1

  pub least-append : (known : Option (Fault W)) (fs gs : List (Fault W))
      → least_from known (fs ++ gs) ≡ least_from (least_from known fs) gs
  least-append known [] gs = refl
  least-append known (f ∷ fs) gs = least-append (earlier known f) fs gs
