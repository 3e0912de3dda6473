-- What holds of the fields of a printed text, one behind the other.
use Rattle.std.proofs.Common.{ℕ, List, [], ◌∷◌, Option, Some, None}
use Rattle.std.specs.List.{AllByRecursion}
use Rattle.wc_surface.specs.declared.field.Field.{Field}
use Rattle.wc_readback.specs.Grammar.Signs.{Sign}
use Rattle.wc_readback.specs.Grammar.FieldSigns.{start_signs}
use Rattle.wc_readback.specs.Fields.Surface.{along, behind, start_field, start_along}

-- what holds of what follows holds also with the fields of a list in front
pub onward : {A : Type 0} (f : ℕ → A → Field) (w : A → List Sign) (Q : A → Type 0) (R : List Field → Type 0)
    → ((n : ℕ) (x : A) (fs : List Field) → Q x → R fs → R (f n x ∷ fs))
    → (xs : List A) → AllByRecursion Q xs → (rest : ℕ → List Field) → ((n : ℕ) → R (rest n))
    → (n : ℕ) → R (along f w n xs rest)
onward f w Q R step [] q rest r n = r n
onward f w Q R step (x ∷ xs) q rest r n =
    step n x (along f w (behind (w x) n) xs rest) q.0 (onward f w Q R step xs q.1 rest r (behind (w x) n))

-- the same where nothing is asked of the items
pub over : {A : Type 0} (f : ℕ → A → Field) (w : A → List Sign) (R : List Field → Type 0)
    → ((n : ℕ) (x : A) (fs : List Field) → R fs → R (f n x ∷ fs))
    → (xs : List A) (rest : ℕ → List Field) → ((n : ℕ) → R (rest n)) → (n : ℕ) → R (along f w n xs rest)
over f w R step [] rest r n = r n
over f w R step (x ∷ xs) rest r n =
    step n x (along f w (behind (w x) n) xs rest) (over f w R step xs rest r (behind (w x) n))

-- and with the start function, where there is one
pub onward-start : (R : List Field → Type 0) → ((n i : ℕ) (fs : List Field) → R fs → R (start_field n i ∷ fs))
    → (s : Option ℕ) (rest : ℕ → List Field) → ((n : ℕ) → R (rest n)) → (n : ℕ) → R (start_along n s rest)
onward-start R step None rest r n = r n
onward-start R step (Some i) rest r n =
    step n i (rest (behind (start_signs (Some i)) n)) (r (behind (start_signs (Some i)) n))
