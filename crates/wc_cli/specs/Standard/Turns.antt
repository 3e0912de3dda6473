-- What carrying out lines one after the other comes to. gives says what an opener answers to a path, and takes what
-- comes of an input that it is given back: o is the opener before, and o' behind it.
use Rattle.std.specs.Prelude.{◌≡◌, ℕ, max, List, [], ◌∷◌, ◌++◌, false, Option, None, ⊤}
use Rattle.wc_device.specs.declared.io_device.Device.{Device}
use Rattle.wc_device.specs.Standard.Device.{has_failed}
use Rattle.wc_cli.specs.declared.command_line.Line.{Line}
use Rattle.wc_cli.specs.declared.command_line.Line.TheVariants.{Make, Tell, Compare}
use Rattle.wc_cli.specs.Standard.Inputs.{IsNewInput, StaysThere}
use Rattle.wc_cli.specs.Standard.Carrying.{Acts}

-- the inputs of a line are opened at their paths, each once and A first
abbrev pub OpensInputs : {O R : Type 0} → (O → List ℕ → Option (Device R) → O → Type 0) → Line → O → Option (Device R)
    → Option (Device R) → O → Type 0
OpensInputs gives (Make job input output) o a b o' = gives o input.now a o' × (b ≡ None)
OpensInputs gives (Tell ask input named) o a b o' = gives o input.now a o' × (b ≡ None)
OpensInputs {O} gives (Compare p q) o a b o' = (o1 : O) × gives o p.now a o1 × gives o1 q.now b o'

-- both are given back, A first
abbrev pub ClosesInputs : {O R : Type 0} → (O → Option (Device R) → O → Type 0) → O → Option (Device R)
    → Option (Device R) → O → Type 0
ClosesInputs {O} takes o a b o' = (o1 : O) × takes o a o1 × takes o1 b o'

-- a line may follow these: there are none, or the writer didn't fail
abbrev pub GoesOn : {W : Type 0} → List Line → Device W → Type 0
GoesOn [] w = ⊤
GoesOn (line ∷ lines) w = has_failed w ≡ false

module _ {O R W E : Type 0} (gives : O → List ℕ → Option (Device R) → O → Type 0)
    (takes : O → Option (Device R) → O → Type 0) (remaining : R → Option (List ℕ)) (held : W → Option (List ℕ))
    (told : E → Option (List ℕ)) where
  -- the inputs of a line are opened, it is carried out with the status on just these, of which nothing is asked once a
  -- read failed or was told the end, and as it leaves them they are given back
  abbrev pub TakesTurn : Line → ℕ → O → O → Device W → Device W → Device E → Device E → Type 0
  TakesTurn line status o o' w w' e e' =
      (a a' b b' : Option (Device R)) × (o1 : O) × OpensInputs gives line o a b o1 × IsNewInput a × IsNewInput b
      × Acts remaining remaining held told line status a a' b b' w w' e e' × StaysThere a a' × StaysThere b b'
      × ClosesInputs takes o1 a' b' o'

-- lines took their turns in order, each but the first while the writer of answers hadn't failed, and the status is the
-- highest of theirs
pub data ActsEach {O R W E : Type 0} (gives : O → List ℕ → Option (Device R) → O → Type 0)
    (takes : O → Option (Device R) → O → Type 0) (remaining : R → Option (List ℕ)) (held : W → Option (List ℕ))
    (told : E → Option (List ℕ)) (o : O) (w : Device W) (e : Device E) : List Line → ℕ → O → Device W → Device E
    → Type 0 where
  none : ActsEach gives takes remaining held told o w e [] 0 o w e
  next : (lines : List Line) (line : Line) (s t : ℕ) (o1 o2 : O) (w1 w2 : Device W) (e1 e2 : Device E)
      → ActsEach gives takes remaining held told o w e lines s o1 w1 e1 → GoesOn lines w1
      → TakesTurn gives takes remaining held told line t o1 o2 w1 w2 e1 e2
      → ActsEach gives takes remaining held told o w e (lines ++ (line ∷ [])) (max s t) o2 w2 e2
