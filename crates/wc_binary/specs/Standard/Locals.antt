-- The locals that a function declares, by groups (Core 1.0, 5.5.13).
use Rattle.std.specs.Prelude.{ℕ, zero, suc, ◌+◌, nat_lt, List, [], ◌∷◌, Option, Some, None, if◌then◌else◌}
use Rattle.wc_ops.specs.declared.val_type.ValType.{ValType}
use Rattle.wc_ast.specs.declared.locals.Group.{Group}
use Rattle.wc_ast.specs.Standard.LocalGroups.{locals_limit, written_out, IsGrouped}
use Rattle.wc_binary.specs.declared.fault.BinWhy.{BinWhy}
use Rattle.wc_binary.specs.declared.fault.BinWhy.TheVariants as reasons
use Rattle.wc_binary.specs.Standard.Phrase.{Phrase, gives, judged, neat, ◌>>=◌}
use Rattle.wc_binary.specs.Standard.Values.{u32}
use Rattle.wc_binary.specs.Standard.Types.{value_type}

-- with so many more there are more locals than may be, told at the first byte of their count
abbrev pub locals_fault : ℕ → ℕ → Option (ℕ × BinWhy)
locals_fault total n = if nat_lt locals_limit (total + n) then Some (0, reasons.Locals) else None

-- a group behind so many locals: a count, which is judged before the type is read, and the type of each
unfoldable pub group : ℕ → Phrase Group
group total = do
  n ← judged u32 (locals_fault total)
  t ← value_type
  gives (record { count = n; value_type = t })

-- so many groups, behind so many locals
abbrev pub groups : ℕ → ℕ → Phrase (List Group)
groups zero total = gives []
groups (suc n) total = do
  g ← group total
  gs ← groups n (total + g.count)
  gives (g ∷ gs)

-- a count of groups, and the groups: any grouping serves, canonically the one in which no group is empty and neighbours
-- differ in type
unfoldable pub locals : Phrase (List ValType)
locals = do
  gs ← neat (u32 >>= λ n. groups n 0) IsGrouped
  gives (written_out gs)
