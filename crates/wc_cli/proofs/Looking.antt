-- How far the inputs of a line were read, from what is known of its parts.
use Rattle.std.proofs.Common.{◌≡◌, ℕ, List, Option, Result, sym, subst}
use Rattle.wc_device.specs.declared.io_device.Device.{Device}
use Rattle.wc_cli.specs.declared.command_line.Line.{Line}
use Rattle.wc_cli.specs.declared.failure.Failure.{Failure}
use Rattle.wc_cli.specs.Standard.Looking.{LooksAt}

module _ {R S : Type 0} (of_a : R → Option (List ℕ)) (of_b : S → Option (List ℕ)) (a a' : Option (Device R))
    (b b' : Option (Device S)) where
  -- for another name of the line
  pub looks-of : (line l : Line) (r : Result ℕ Failure) → line ≡ l → LooksAt of_a of_b l a a' b b' r
      → LooksAt of_a of_b line a a' b b' r
  looks-of line l r e p = subst (λ k. LooksAt of_a of_b k a a' b b' r) (sym e) p
