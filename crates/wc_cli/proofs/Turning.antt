-- From one line that took its turn to the next.
use Rattle.std.proofs.Common.{◌≡◌, ℕ, zero, suc, ◌+◌, ◌<◌, max, List, [], ◌∷◌, length, take, get_or, false}
use Rattle.std.proofs.Common.{Option, sym, subst, arith}
use Rattle.std.proofs.lemmas.List.{take_more}
use Rattle.wc_device.specs.declared.io_device.Device.{Device}
use Rattle.wc_device.specs.Standard.Device.{has_failed}
use Rattle.wc_cli.specs.declared.command_line.Line.{Line}
use Rattle.wc_cli.specs.Standard.Turns.{GoesOn, TakesTurn, ActsEach, next}

goes-on : {W : Type 0} (i : ℕ) (lines : List Line) (w : Device W) → (0 < i → has_failed w ≡ false)
    → GoesOn (take i lines) w
goes-on zero lines w h = tt
goes-on (suc n) [] w h = tt
goes-on (suc n) (line ∷ lines) w h = h (omega arith)

-- one line more
pub turn-more : {O R W E : Type 0} (gives : O → List ℕ → Option (Device R) → O → Type 0)
    (takes : O → Option (Device R) → O → Type 0) (remaining : R → Option (List ℕ)) (held : W → Option (List ℕ))
    (told : E → Option (List ℕ)) (o : O) (w : Device W) (e : Device E) (lines : List Line) (i : ℕ) (d : Line)
    (s t r : ℕ) (o1 o2 : O) (w1 w2 : Device W) (e1 e2 : Device E) → i < length lines → r ≡ max s t
    → ActsEach gives takes remaining held told o w e (take i lines) s o1 w1 e1 → (0 < i → has_failed w1 ≡ false)
    → TakesTurn gives takes remaining held told (get_or lines i d) t o1 o2 w1 w2 e1 e2
    → ActsEach gives takes remaining held told o w e (take (i + 1) lines) r o2 w2 e2
turn-more gives takes remaining held told o w e lines i d s t r o1 o2 w1 w2 e1 e2 l higher before well turn =
    let P : List Line → Type 0 = λ ls. ActsEach gives takes remaining held told o w e ls (max s t) o2 w2 e2 in
    let Q : ℕ → Type 0 = λ n. ActsEach gives takes remaining held told o w e (take (i + 1) lines) n o2 w2 e2 in
    let more = next (take i lines) (get_or lines i d) s t o1 o2 w1 w2 e1 e2 before (goes-on i lines w1 well) turn in
    subst Q (sym higher) (subst P (sym (take_more lines i d l)) more)
