-- Whole modules as they are put.
use Rattle.std.proofs.Common.{◌≡◌, ℕ, List, [], ◌∷◌, ◌++◌, refl, sym, ap, ◌∙◌, append_assoc, codes, IsUtf8}
use Rattle.wc_ast.specs.declared.module.Module.{Module}
use Rattle.wc_tokens.specs.Standard.Lexemes.{is_idchar}
use Rattle.wc_print.specs.Standard.Printed.{closing, below, printed, text}
use Rattle.wc_print.specs.Standard.Printable.{AreSpelled, IsPrintable}
use Rattle.wc_print.specs.Standard.Going.{Says, Puts}
use Rattle.wc_print.specs.Standard.Layout.{field_items, layout}
use Rattle.wc_print.proofs.Writing.Putting.{printed-append, spelled-append, text-printed}
use Rattle.wc_print.proofs.Writing.Going.{says-same, says-then}
use Rattle.wc_print.proofs.Reading.Lexing.{IsUtf8-text}
use Rattle.wc_print.proofs.Reading.Apart.{AreApart-layout}

module _ {F S : Type 0} {Has : F → S → List ℕ → Type 0} where
  -- the first line, the fields, and the last line with its end
  pub whole : (m : Module) {none first mid new : S} → Says Has (codes "(module") none first
      → Puts Has (field_items m) first mid
      → Says Has (10 ∷ 41 ∷ 10 ∷ []) mid new → Says Has (text (layout m)) none new
  whole m e h f =
      says-same
      (ap (λ (x : List ℕ). codes "(module" ++ x) (sym (append_assoc (printed (field_items m)) (10 ∷ 41 ∷ []) (10 ∷ [])))
      ∙ ap (λ (x : List ℕ). codes "(module" ++ (x ++ 10
      ∷ [])) (sym (printed-append (field_items m) (below 0 closing ∷ [])))
      ∙ sym (text-printed (layout m)))
      (says-then e (says-then h.bytes f))

-- items of a module whose fields are spelled
pub layout-printable : (m : Module) → AreSpelled (field_items m) → IsPrintable (layout m)
unfolding is_idchar
layout-printable m h = record {
  spelled = (tt, (refl, spelled-append (field_items m) (below 0 closing ∷ []) h (tt, tt)));
  apart = AreApart-layout m;
}

-- text is ASCII
pub text-ascii : (m : Module) (bytes : List ℕ) → bytes ≡ text (layout m) → IsPrintable (layout m) → IsUtf8 bytes
text-ascii m bytes is h = rw is (IsUtf8-text (layout m) h.spelled)
