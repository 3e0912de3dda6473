-- What is known of the groups that a function keeps.
use Rattle.std.specs.Prelude.{ℕ, ◌≡◌, ◌≤◌, List, [], ◌∷◌, length}
use Rattle.wc_ops.specs.declared.val_type.ValType.{ValType}
use Rattle.wc_ast.specs.declared.locals.Group.{Group}
use Rattle.wc_ast.specs.Standard.LocalGroups.{locals_limit, written_out, IsGrouped}

-- the last group has this type
abbrev pub EndsWith : ValType → List Group → Type 0
EndsWith t [] = ⊥
EndsWith t (g ∷ []) = g.value_type ≡ t
EndsWith t (g ∷ h ∷ gs) = EndsWith t (h ∷ gs)

-- what holds of the groups that a function keeps
pub record IsLocals (groups : List Group) (total : ℕ) : Type 0 where
  pub grouped : IsGrouped groups
  pub counted : total ≡ length (written_out groups)
  pub within : total ≤ locals_limit
