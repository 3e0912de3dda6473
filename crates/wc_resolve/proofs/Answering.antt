-- One answer.
use Rattle.std.proofs.Common.{◌≡◌, ℕ, ◌⊎◌, inl, inr, List, Option, Some, None, refl, sym, ap, ◌∙◌}
use Rattle.std.proofs.Common.{Result, Ok, Err}
use Rattle.std.specs.Result.{MatchResult, IfOk, IfErr, IsErrAnd}
use Rattle.wc_ast.specs.declared.module.Module.{Module}
use Rattle.wc_spaces.specs.declared.noted.Fault.{Fault}
use Rattle.wc_surface.specs.declared.field.Field.{Field}
use Rattle.wc_resolve_code.specs.declared.why.NameWhy.{NameWhy}
use Rattle.wc_declare.specs.declared.fault.NameFault.{NameFault}
use Rattle.wc_declare.specs.declared.fault.NameFault.TheVariants.{Bad, Memory}
use Rattle.wc_spaces.specs.Standard.Least.{least_from, least}
use Rattle.wc_declare.specs.Standard.Stages.{or_else}
use Rattle.wc_declare.specs.Standard.Stages as declared
use Rattle.wc_resolve.specs.Standard.Denoted.{denoted, reference_faults, first_fault, FirstFault, Names}
use Rattle.wc_resolve.specs.Kept.Refused.{IsTold, IsFirst}

none-some : (o : Option (Fault NameWhy)) (f : Fault NameWhy) → o ≡ None → o ≡ Some f → ⊥
none-some o f h g = cc

same-bad : (s t : ℕ) (why other : NameWhy) → s ≡ t → other ≡ why → Bad s other ≡ Bad t why
same-bad s t why other h g = cc

pub not-both : (all : List Field) (m : Module) (t : ℕ) (why : NameWhy) → Names all m → FirstFault all t why → ⊥
not-both all m t why w h = none-some (first_fault all) (record { token = t; why = why }) w.right h

token_or : ℕ → Option (Fault NameWhy) → ℕ
token_or d None = d
token_or d (Some f) = f.token

reason_or : NameWhy → Option (Fault NameWhy) → NameWhy
reason_or d None = d
reason_or d (Some f) = f.why

pub one-token : (o : Option (Fault NameWhy)) (s t : ℕ) (why other : NameWhy)
    → o ≡ Some (record { token = s; why = why }) → o ≡ Some (record { token = t; why = other }) → s ≡ t
unfolding token_or
one-token o s t why other h g = ap (λ (x : Option (Fault NameWhy)). token_or s x) (sym h ∙ g)

pub one-reason : (o : Option (Fault NameWhy)) (s t : ℕ) (why other : NameWhy)
    → o ≡ Some (record { token = s; why = why }) → o ≡ Some (record { token = t; why = other }) → why ≡ other
unfolding reason_or
one-reason o s t why other h g = ap (λ (x : Option (Fault NameWhy)). reason_or why x) (sym h ∙ g)

by-fault : (all : List Field) (o : Option (Fault NameWhy)) → first_fault all ≡ o
    → ((m : Module) × Names all m) ⊎ ((t : ℕ) × ((why : NameWhy) × FirstFault all t why))
by-fault all None e = inl (denoted all, record { right = e; same = refl })
by-fault all (Some f) e = inr (f.token, (f.why, e))

pub always : (all : List Field) → ((m : Module) × Names all m) ⊎ ((t : ℕ) × ((why : NameWhy) × FirstFault all t why))
always all = by-fault all (first_fault all) refl

pub only-module : (all : List Field) (r : Result Module NameFault) → IfOk r (Names all) → IfErr r (IsFirst all)
    → (m : Module) → Names all m → MatchResult r (λ v. v ≡ m) (λ f. f ≡ Memory)
only-module all (Ok v) h g m w = h.same ∙ sym w.same
only-module all (Err (Bad t why)) h g m w = absurd (not-both all m t why w g)
only-module all (Err Memory) h g m w = refl

pub only-fault : (all : List Field) (r : Result Module NameFault) → IfOk r (Names all) → IfErr r (IsFirst all)
    → (t : ℕ) (why : NameWhy) → FirstFault all t why → IsErrAnd r (λ f. (f ≡ Bad t why) ⊎ (f ≡ Memory))
only-fault all (Ok v) h g t why w = absurd (not-both all v t why h w)
only-fault all (Err (Bad s other)) h g t why w =
    inl (same-bad s t why other (one-token (first_fault all) s t other why g w)
    (one-reason (first_fault all) s t other why g w))
only-fault all (Err Memory) h g t why w = inr refl

-- what the third stage tells is told of all, where the first two find no fault
behind : (fs gs : List Field) (o : Option (Fault NameWhy)) → gs ≡ fs → declared.first_fault fs ≡ None
    → least_from None (reference_faults gs) ≡ o → first_fault fs ≡ o
behind fs gs o e p q =
    ap (λ (x : Option (Fault NameWhy)). or_else x (least (reference_faults fs))) p
    ∙ ap (λ (x : List Field). least (reference_faults x)) (sym e) ∙ q

pub named : (fs gs : List Field) (r : Result Module NameFault) → gs ≡ fs → declared.first_fault fs ≡ None
    → IfOk r (λ v. v ≡ denoted gs) → IfOk r (λ v. least_from None (reference_faults gs) ≡ None) → IfOk r (Names fs)
named fs gs (Ok v) e p h q =
    record { right = behind fs gs None e p q; same = h ∙ ap (λ (x : List Field). denoted x) e }
named fs gs (Err f) e p h q = tt

pub refused : (fs gs : List Field) (r : Result Module NameFault) → gs ≡ fs → declared.first_fault fs ≡ None
    → IfErr r (IsTold (least_from None (reference_faults gs))) → IfErr r (IsFirst fs)
refused fs gs (Ok v) e p h = tt
refused fs gs (Err (Bad token why)) e p h = behind fs gs (Some (record { token = token; why = why })) e p h
refused fs gs (Err Memory) e p h = tt
