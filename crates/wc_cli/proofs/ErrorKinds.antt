-- The kinds of error of the program's command line.
use Rattle.std.proofs.Common.{◌≡◌, List, true, refl, subst, sym}
use Rattle.clap.specs.Words.{App, Text, Kinds, fault_of, is_simple_and_free}
use Rattle.wc_cli.specs.Standard.Program.{program}

-- no argument of the program has a rule on another
simple : is_simple_and_free program ≡ true
simple = refl

-- P is what a parse says of the kinds
pub program-kinds : (P : Kinds → Type 0) (a : App) (words : List Text) → a ≡ program
    → (is_simple_and_free a ≡ true → P (fault_of a words)) → P (fault_of program words)
program-kinds P a words e p =
    subst (λ b. P (fault_of b words)) e (p (subst (λ b. is_simple_and_free b ≡ true) (sym e) simple))
