-- How the numbers of bytes follow that are counted.
use Rattle.std.proofs.Common.{◌≡◌, ℕ, suc, ◌+◌, ◌*◌, List, [], ◌∷◌, ◌++◌, length, Some, None, refl, arith}
use Rattle.std.proofs.lemmas.List.{length-append}
use Rattle.wc_ast.specs.declared.module.Module.{Module}
use Rattle.wc_binary.specs.declared.parts.Parts.{Parts}
use Rattle.wc_binary.specs.declared.section.SectionKind.{SectionKind}
use Rattle.wc_binary.specs.Standard.Sections.{held_by}
use Rattle.wc_binary.specs.Standard.Module.{parts_of}
use Rattle.wc_binary.specs.Standard.Encoding.{HasLength}
use Rattle.wc_binary.specs.Writing.Sections.{held_bytes, FitsHeld, bytes_from, FitsFrom, sections_bytes, FitsSections}
use Rattle.wc_binary.specs.Writing.Writes.{MeasuresWithin, section_limit, sections_limit}
use Rattle.wc_binary.proofs.spelling.whole.ModuleBytes.{preamble_bytes, module_bytes}
use Rattle.wc_binary.proofs.spelling.whole.Modules.{canon-written, bin-longer}

-- ---- sections one after the other

module _ (p : Parts) (k : SectionKind) where
  pub held-counted : (n : ℕ) (ks : List SectionKind) (a b : ℕ)
      → MeasuresWithin section_limit (FitsHeld k (held_by k p)) (length (held_bytes k (held_by k p))) (Some a)
      → MeasuresWithin (n * section_limit) (FitsFrom p ks) (length (bytes_from p ks)) (Some b)
      → MeasuresWithin (suc n * section_limit) (FitsFrom p (k ∷ ks)) (length (bytes_from p (k ∷ ks))) (Some (a + b))
  held-counted n ks a b h rest = (
    (h.0, rest.0),
    omega (arith, h.1, rest.1, length-append (held_bytes k (held_by k p)) (bytes_from p ks)),
    omega (arith, h.2, rest.2),
  )

pub none-counted : (p : Parts) → MeasuresWithin (0 * section_limit) (FitsFrom p []) (length (bytes_from p [])) (Some 0)
none-counted p = (tt, refl, omega arith)

-- ---- a module

length-preamble : (b : List ℕ) → length (preamble_bytes ++ b) ≡ 8 + length b
length-preamble b = omega arith

pub module-measured : (m : Module) (n : ℕ)
    → MeasuresWithin sections_limit (FitsSections (parts_of m)) (length (sections_bytes (parts_of m))) (Some n)
    → HasLength m (Some (8 + n))
module-measured m n h =
    (module_bytes m, canon-written m h.0, omega (arith, h.1, length-preamble (sections_bytes (parts_of m))))

pub module-unmeasured : (m : Module) → (FitsSections (parts_of m) → ⊥) → HasLength m None
module-unmeasured m h = λ b k. h (bin-longer b m k).0
