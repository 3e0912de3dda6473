-- Whether an input is its own canonical bytes: a binary that is as long as they are.
use Rattle.std.proofs.Common.{◌≡◌, ◌≢◌, ℕ, List, Bool, true, false, nat_eq, length, Some, inl, inr, sym, ap, subst, ◌∙◌}
use Rattle.std.proofs.Common.{eq-eqb, arith}
use Rattle.std.proofs.lemmas.Bool.{eqb-true}
use Rattle.wc_ast.specs.declared.module.Module.{Module}
use Rattle.wc_binary.specs.Standard.Module.{IsOrLonger, Canon}
use Rattle.wc_binary.specs.Standard.Encoding.{HasLength}
use Rattle.wc_binary.proofs.spelling.whole.Modules.{shortest-and-only}
use Rattle.wc_canon.specs.Standard.Input.{is_binary, Denotes, KeepsRules}
use Rattle.wc_canon.specs.Standard.Fixed.{IsNotCanonical, TellsCanonical}
use Rattle.wc_canon.proofs.Laws.{denotes-binary, canon-is-binary, has-answer}

both-formats : {A : Type 0} (s : Bool) → s ≡ true → s ≡ false → A
both-formats s e h = absurd (cc)

as-long : (x b : List ℕ) → length x ≡ length b → IsOrLonger x b → x ≡ b
as-long x b e (inl same) = same
as-long x b e (inr longer) = absurd (omega arith)

-- the module that the input denotes has so many canonical bytes
module _ (x : List ℕ) (m : Module) (n : ℕ) (denoted : Denotes x m) (kept : KeepsRules m) (long : HasLength m (Some n))
  where
    others : long.0 ≢ x → IsNotCanonical x
    others h = (long.0, has-answer x long.0 m denoted kept long.1, h)

    pub text-tells : is_binary x ≡ false → TellsCanonical x false
    text-tells e = others (λ same. both-formats (is_binary x) (subst (λ (y : List ℕ).
        is_binary y ≡ true) same (canon-is-binary long.0 m long.1)) e)

    pub binary-tells : is_binary x ≡ true → (r : Bool) → nat_eq (length x) n ≡ r → TellsCanonical x r
    binary-tells e true same =
        let longer = shortest-and-only long.0 m long.1 x (denotes-binary x m e denoted) in
        let is = as-long x long.0 (eqb-true (length x) n same ∙ long.2) longer in
        has-answer x x m denoted kept (subst (λ (y : List ℕ). Canon y m) (sym is) long.1)
    binary-tells e false other =
        others (λ same. both-formats (nat_eq (length x) n) (eq-eqb (length x) n (ap length (sym same)
        ∙ sym long.2)) other)
