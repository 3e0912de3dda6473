-- What an exit status says of the inputs.
use Rattle.std.proofs.Common.{◌≡◌, ℕ, List, Bool, Option, Some, None, Result, Ok, Err, inl, inr}
use Rattle.wc_device.specs.declared.io_device.Device.{Device}
use Rattle.wc_canon.specs.declared.fault.Refusal.{Refusal}
use Rattle.wc_canon.specs.Standard.Input.{IsAccepted}
use Rattle.wc_canon.specs.Standard.Printing.{HasText}
use Rattle.wc_canon.specs.declared.running.Job.{Job}
use Rattle.wc_canon.specs.declared.running.Job.TheVariants as jobs
use Rattle.wc_canon.proofs.Comparisons.{answer-accepted}
use Rattle.wc_cli.specs.declared.command_line.Ask.TheVariants.{Check, Canonical, Hash}
use Rattle.wc_cli.specs.declared.command_line.Line.{Line}
use Rattle.wc_cli.specs.declared.command_line.Line.TheVariants.{Make, Tell, Compare}
use Rattle.wc_cli.specs.declared.failure.Failure.{Failure}
use Rattle.wc_cli.specs.declared.failure.Failure.TheVariants.{Refused, CannotRead, CannotWrite, NotText}
use Rattle.wc_cli.specs.declared.failure.Failure.TheVariants.{NoSubcommand, Terminal, OutOfMemory}
use Rattle.wc_cli.specs.Standard.Acting.{IsMade, IsAnswer, IsRefusedAt, Ends, IsTold}
use Rattle.wc_cli.specs.Standard.Status.{TellsLine}

-- 2 says nothing of the inputs
two-tells : (line : Line) (x y : Option (List ℕ)) (status : ℕ) → status ≡ 2 → TellsLine line status x y
two-tells (Make job input output) None y status e = tt
two-tells (Make job input output) (Some u) y status e = (λ h. absurd (cc), λ h. absurd (cc))
two-tells (Tell ask input named) None y status e = tt
two-tells (Tell Check input named) (Some u) y status e = (λ h. absurd (cc), λ h. absurd (cc))
two-tells (Tell Canonical input named) (Some u) y status e = (λ h. absurd (cc), λ h. absurd (cc))
two-tells (Tell Hash input named) (Some u) y status e = (λ h. absurd (cc), λ h. absurd (cc))
two-tells (Compare p q) None y status e = tt
two-tells (Compare p q) (Some u) None status e = tt
two-tells (Compare p q) (Some u) (Some v) status e = (λ h. absurd (cc), λ h. absurd (cc))

-- what is written of an input is of an accepted one
text-accepted : (x text : List ℕ) → HasText x text → IsAccepted x
unfolding HasText
text-accepted x text p = (p.0, p.1)

made-accepted : (j : Job) (x text : List ℕ) → IsMade j (Some x) text → IsAccepted x
made-accepted jobs.Binary x text p = answer-accepted x text p
made-accepted jobs.Text x text p = text-accepted x text p.0

-- a whole answer
answer-tells : (line : Line) (x y : Option (List ℕ)) (text : List ℕ) (s status : ℕ) → IsAnswer line x y text s
    → status ≡ s → TellsLine line status x y
answer-tells (Make job input output) None y text s status p e = tt
answer-tells (Make j input output) (Some u) y text s status p e =
    let zero : s ≡ 0 = p.1 in (λ h. made-accepted j u text p.0, λ h. absurd (cc))
answer-tells (Tell ask input named) None y text s status p e = tt
answer-tells (Tell Check input named) (Some u) y text s status p e =
    let zero : s ≡ 0 = p.2 in (λ h. p.0, λ h. absurd (cc))
answer-tells (Tell Canonical input named) (Some u) y text s status (inl p) e =
    let zero : s ≡ 0 = p.2 in (λ h. p.0, λ h. absurd (cc))
answer-tells (Tell Canonical input named) (Some u) y text s status (inr p) e =
    let one : s ≡ 1 = p.2 in (λ h. absurd (cc), λ h. inl p.0)
answer-tells (Tell Hash input named) (Some u) y text s status p e =
    let zero : s ≡ 0 = p.1 in (λ h. answer-accepted u p.0.0 p.0.1, λ h. absurd (cc))
answer-tells (Compare a b) None y text s status p e = tt
answer-tells (Compare a b) (Some u) None text s status p e = tt
answer-tells (Compare a b) (Some u) (Some v) text s status (inl p) e =
    let zero : s ≡ 0 = p.2 in (λ h. p.0, λ h. absurd (cc))
answer-tells (Compare a b) (Some u) (Some v) text s status (inr p) e =
    let one : s ≡ 1 = p.2 in (λ h. absurd (cc), λ h. inl p.0)

-- a refusal
refusal-tells : (line : Line) (x y : Option (List ℕ)) (path : List ℕ) (f : Refusal) (status : ℕ)
    → IsRefusedAt line x y path f → status ≡ 1 → TellsLine line status x y
refusal-tells (Make job input output) None y path f status p e = tt
refusal-tells (Make job input output) (Some u) y path f status p e = (λ h. absurd (cc), λ h. (f, p.1))
refusal-tells (Tell ask input named) None y path f status p e = tt
refusal-tells (Tell Check input named) (Some u) y path f status p e = (λ h. absurd (cc), λ h. (f, p.1))
refusal-tells (Tell Canonical input named) (Some u) y path f status p e = (λ h. absurd (cc), λ h. inr (f, p.1))
refusal-tells (Tell Hash input named) (Some u) y path f status p e = (λ h. absurd (cc), λ h. (f, p.1))
refusal-tells (Compare a b) None y path f status p e = tt
refusal-tells (Compare a b) (Some u) None path f status p e = tt
refusal-tells (Compare a b) (Some u) (Some v) path f status (inl p) e =
    (λ h. absurd (cc), λ h. inr (f, inl p.1))
refusal-tells (Compare a b) (Some u) (Some v) path f status (inr p) e =
    (λ h. absurd (cc), λ h. inr (f, inr p.2))

module _ {W E : Type 0} (held : W → Option (List ℕ)) (told : E → Option (List ℕ)) (line : Line)
    (x y : Option (List ℕ)) (a b : Bool) (w w' : Device W) where
  pub ended-tells : (r : Result ℕ Failure) (status : ℕ) (e e' : Device E) → Ends held line x y a b w w' r
      → IsTold told r status e e' → TellsLine line status x y
  ended-tells (Ok s) status e e' p q = answer-tells line x y p.2.0 s status p.2.1 q.0
  ended-tells (Err (Refused path f)) status e e' p q = refusal-tells line x y path.now f status p.2 q.0
  ended-tells (Err (CannotRead path)) status e e' p q = two-tells line x y status q.0
  ended-tells (Err (CannotWrite path)) status e e' p q = two-tells line x y status q.0
  ended-tells (Err NotText) status e e' p q = absurd p
  ended-tells (Err NoSubcommand) status e e' p q = absurd p
  ended-tells (Err Terminal) status e e' p q = absurd p
  ended-tells (Err OutOfMemory) status e e' p q = two-tells line x y status q.0
