-- When a local makes the last group longer.
use Rattle.std.specs.Prelude.{◌≡◌, ℕ, ◌+◌, ◌<◌, ◌^◌, List, [], ◌∷◌, None}
use Rattle.wc_ops.specs.declared.val_type.ValType.{ValType}
use Rattle.wc_surface.specs.declared.local.LocalGroup.{LocalGroup}

-- one of this type, at this token and without an identifier, stands directly behind the group
pub record Lengthens (ty : ValType) (token : ℕ) (g : LocalGroup) : Type 0 where
  pub bare : g.id ≡ None
  pub same : g.ty ≡ ty
  pub next : g.token + g.count ≡ token
  pub room : g.count + 1 < 2 ^ 32

-- it holds of the last one
abbrev pub LastIs : (LocalGroup → Type 0) → List LocalGroup → Type 0
LastIs P [] = ⊥
LastIs P (g ∷ []) = P g
LastIs P (g ∷ h ∷ gs) = LastIs P (h ∷ gs)
