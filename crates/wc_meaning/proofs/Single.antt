-- Fields have one answer.
use Rattle.std.proofs.Common.{◌≡◌, ℕ, ◌⊎◌, inl, inr, List, Option, Some, None, refl, sym, ap, ◌∙◌}
use Rattle.std.proofs.lemmas.Option.{none-some, same_Some}
use Rattle.wc_ast.specs.declared.module.Module.{Module}
use Rattle.wc_spaces.specs.declared.noted.Fault.{Fault}
use Rattle.wc_resolve_code.specs.declared.why.NameWhy.{NameWhy}
use Rattle.wc_surface.specs.Standard.Written.Fields.{Field}
use Rattle.wc_meaning.specs.Standard.Denoted.{context_of, denoted_in, first_fault, FirstFault, Means}

-- a module, or the first fault
abbrev pub Answered : List Field → Type 0
Answered fs = ((m : Module) × Means fs m) ⊎ ((token : ℕ) × (why : NameWhy) × FirstFault fs token why)

pub one-module : (fs : List Field) (m n : Module) → Means fs m → Means fs n → m ≡ n
one-module fs m n h k = h.same ∙ sym k.same

pub one-fault : (fs : List Field) (s t : ℕ) (why other : NameWhy) → FirstFault fs s why → FirstFault fs t other
    → (s ≡ t) × (why ≡ other)
one-fault fs s t why other h k =
    let same = same_Some (record { token = s; why = why }) (record { token = t; why = other }) (sym h ∙ k) in
    (ap (λ (f : Fault NameWhy). f.token) same, ap (λ (f : Fault NameWhy). f.why) same)

pub never-both : (fs : List Field) (m : Module) (token : ℕ) (why : NameWhy) → Means fs m → FirstFault fs token why → ⊥
never-both fs m token why h k = none-some (record { token = token; why = why }) (sym h.right ∙ k)

by-fault : (fs : List Field) (o : Option (Fault NameWhy)) → first_fault fs ≡ o → Answered fs
by-fault fs None e = inl (denoted_in (context_of fs) fs, record { right = e; same = refl })
by-fault fs (Some f) e = inr (f.token, f.why, e)

pub always-one : (fs : List Field) → Answered fs
always-one fs = by-fault fs (first_fault fs) refl
