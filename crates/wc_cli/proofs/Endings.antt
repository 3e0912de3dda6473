-- From what was read, compared and said to what a line comes to.
use Rattle.std.proofs.Common.{◌≡◌, ℕ, List, Bool, Option, Some, None, Result, Ok, Err, IsErrAnd, refl, sym, subst}
use Rattle.wc_device.specs.declared.io_device.Device.{Device}
use Rattle.wc_canon.specs.Standard.Run.{IsOutputOf}
use Rattle.wc_canon.specs.declared.running.Job.{Job}
use Rattle.wc_canon.specs.declared.running.Job.TheVariants as jobs
use Rattle.wc_canon.proofs.Again.{told-alike}
use Rattle.wc_cli.specs.declared.command_line.Line.{Line}
use Rattle.wc_cli.specs.declared.failure.Failure.{Failure}
use Rattle.wc_cli.specs.declared.failure.Failure.TheVariants.{Refused, CannotRead, CannotWrite, NotText}
use Rattle.wc_cli.specs.declared.failure.Failure.TheVariants.{NoSubcommand, Terminal, OutOfMemory}
use Rattle.wc_cli.specs.Standard.Acting.{AreRead, IsMade, IsAnswer, Ends, goes_to}
use Rattle.wc_cli.specs.Answering.Reading.{Says}

-- what a job writes of an input is made of it
pub made : (j : Job) (x : Option (List ℕ)) (text : List ℕ) → IsOutputOf j x text → IsMade j x text
made jobs.Binary x text p = p
made jobs.Text x text p = (p, λ short. told-alike x text text p refl short)

module _ {W : Type 0} (held : W → Option (List ℕ)) (line : Line) (x y : Option (List ℕ)) (a b : Bool)
    (w w' : Device W) where
  -- an answer that didn't go out whole
  pub unsaid : (text : List ℕ) (status : ℕ) (e : Failure) (r : Result ℕ Failure) → AreRead line a b
      → IsAnswer line x y text status → goes_to line ≡ None → Says {V = Unit {0}} held text w w' (Err e)
      → IsErrAnd r (λ f. f ≡ e) → Ends held line x y a b w w' r
  unsaid text status e (Ok v) p q g s h = absurd h
  unsaid text status (CannotWrite None) (Err f) p q g s h =
      let P : Failure → Type 0 = λ k. Ends held line x y a b w w' (Err k) in
      subst P (sym h) (p, s.0, sym g, (text, status, s.1.0, q, s.1.1, s.1.2, s.1.3))
  unsaid text status (CannotWrite (Some path)) (Err f) p q g s h = absurd s
  unsaid text status (Refused path k) (Err f) p q g s h = absurd s
  unsaid text status (CannotRead path) (Err f) p q g s h = absurd s
  unsaid text status NotText (Err f) p q g s h = absurd s
  unsaid text status NoSubcommand (Err f) p q g s h = absurd s
  unsaid text status Terminal (Err f) p q g s h = absurd s
  unsaid text status OutOfMemory (Err f) p q g s h = absurd s

  -- what ends for another name of the line
  pub ends-of : (l : Line) (r : Result ℕ Failure) → line ≡ l → Ends held l x y a b w w' r
      → Ends held line x y a b w w' r
  ends-of l r e p = let P : Line → Type 0 = λ k. Ends held k x y a b w w' r in subst P (sym e) p
