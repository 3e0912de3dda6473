-- What a comparison of two inputs tells.
use Rattle.std.specs.Prelude.{◌≢◌, ◌⊎◌, ℕ, List, Bool, true, false, Option, IfSome, Result, Ok, Err, ⊤}
use Rattle.std.specs.Io.KnownBytes.{IsAtEnd}
use Rattle.wc_ast.specs.declared.module.Module.{Module}
use Rattle.wc_canon.specs.declared.fault.Refusal.{Refusal}
use Rattle.wc_canon.specs.declared.fault.RunFault.{RunFault}
use Rattle.wc_canon.specs.declared.fault.RunFault.TheVariants.{Refused, Read, Write, Memory}
use Rattle.wc_canon.specs.declared.comparing.Comparison.{Comparison}
use Rattle.wc_canon.specs.declared.comparing.Comparison.TheVariants.{Same, Different}
use Rattle.wc_canon.specs.declared.comparing.Side.{Side}
use Rattle.wc_canon.specs.declared.comparing.Side.TheVariants.{A, B}
use Rattle.wc_canon.specs.Standard.Input.{Means, IsAccepted, HasFault, IsRefused}
use Rattle.wc_canon.specs.Standard.Run.{RefusesNear}

-- both inputs are accepted and denote the same module
abbrev pub IsSame : List ℕ → List ℕ → Type 0
IsSame x y = (m : Module) × Means x m × Means y m

-- both inputs are accepted and denote different modules
abbrev pub IsDifferent : List ℕ → List ℕ → Type 0
IsDifferent x y = (m n : Module) × Means x m × Means y n × (m ≢ n)

-- what each word of a comparison says
abbrev pub Compares : List ℕ → List ℕ → Comparison → Type 0
Compares x y Same = IsSame x y
Compares x y Different = IsDifferent x y

-- x is refused so; or x is accepted, and y is refused so. Want of memory at y may be told of either: a clause sees no
-- memory, and to the same inputs it may be refused at x. (Of two readers GoesOver says which side it is.)
abbrev pub IsSideRefused : List ℕ → List ℕ → Side → Refusal → Type 0
IsSideRefused x y A f = IsRefused x f
IsSideRefused x y B f = IsAccepted x × IsRefused y f

-- ---- of two readers, whose bytes are x and y where they are known

-- why no comparison is told, and of which side: the refusal of B only where x is accepted
abbrev pub FaultsSide : Option (List ℕ) → Option (List ℕ) → Side → RunFault → Type 0
FaultsSide x y A (Refused f) = IfSome x (λ u. HasFault u f)
FaultsSide x y B (Refused f) = IfSome x IsAccepted × IfSome y (λ v. HasFault v f)
FaultsSide x y side (Read at) = ⊤
FaultsSide x y side (Write written) = ⊥
FaultsSide x y side Memory = ⊤

-- what a comparison told, or why it didn't
abbrev pub ComparesFrom : Option (List ℕ) → Option (List ℕ) → Result Comparison (Side × RunFault) → Type 0
ComparesFrom x y (Ok c) = IfSome x (λ u. IfSome y (λ v. Compares u v c))
ComparesFrom x y (Err e) = FaultsSide x y e.0 e.1

-- what holds of the fault of a side: P where it is of A, Q where it is of B
abbrev pub OfSide : Side → (RunFault → Type 0) → (RunFault → Type 0) → RunFault → Type 0
OfSide A P Q f = P f
OfSide B P Q f = Q f

-- the bytes of a reader were judged: it was read to its end, or as far as their fault shows. x are its bytes before and
-- new those after, where they are known; count is how many were read
abbrev pub WasJudged : Option (List ℕ) → Option (List ℕ) → ℕ → Type 0
WasJudged x new count = IsAtEnd new ⊎ ((f : Refusal) × IfSome x (λ u. HasFault u f × RefusesNear count (Refused f) u))

-- which sides were judged: both behind a comparison and a refusal, whatever side it names, and A behind what else is
-- told of B. P says that A was, Q that B was, and N that B wasn't asked for anything
abbrev pub GoesOver : Type 0 → Type 0 → Type 0 → Result Comparison (Side × RunFault) → Type 0
GoesOver P Q N (Ok c) = P × Q
GoesOver P Q N (Err (side, Refused f)) = P × Q
GoesOver P Q N (Err (A, Read at)) = N
GoesOver P Q N (Err (A, Write written)) = N
GoesOver P Q N (Err (A, Memory)) = N
GoesOver P Q N (Err (B, Read at)) = P
GoesOver P Q N (Err (B, Write written)) = P
GoesOver P Q N (Err (B, Memory)) = P

-- a failed read was told of the side
abbrev pub is_read_fault_of : Side → Result Comparison (Side × RunFault) → Bool
is_read_fault_of A (Err (A, Read at)) = true
is_read_fault_of B (Err (B, Read at)) = true
is_read_fault_of side result = false
