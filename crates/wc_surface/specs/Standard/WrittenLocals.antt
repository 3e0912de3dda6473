-- Groups of locals, and the locals that they stand for.
use Rattle.std.specs.Prelude.{ℕ, zero, suc, ◌+◌, ◌≤◌, ◌^◌, List, [], ◌∷◌, ◌++◌, Option}
use Rattle.std.specs.List.{All}
use Rattle.wc_ops.specs.declared.val_type.ValType.{ValType}
use Rattle.wc_surface.specs.Standard.Identifiers.{Identifier}
use Rattle.wc_surface.specs.declared.local.Local.{Local}
use Rattle.wc_surface.specs.declared.local.LocalGroup.{LocalGroup}

-- the local of this identifier, if any, and this type, which is the token of this number (Core 1.0, 6.6.5)
abbrev pub local : Option Identifier → ValType → ℕ → Local
local id ty token = record { id = id; ty = ty; token = token }

-- so many locals, whose types are tokens one behind the other
abbrev pub locals_from : Option Identifier → ValType → ℕ → ℕ → List Local
locals_from id ty token zero = []
locals_from id ty token (suc count) = local id ty token ∷ locals_from id ty (suc token) count

-- the locals that a group stands for: as many as it counts, from its token on
abbrev pub locals_of : LocalGroup → List Local
locals_of g = locals_from g.id g.ty g.token g.count

-- the locals, one by one
abbrev pub written_out : List LocalGroup → List Local
written_out [] = []
written_out (g ∷ gs) = locals_of g ++ written_out gs

-- the tokens of their types have numbers below 2^32
abbrev pub AreNumbered : List LocalGroup → Type 0
AreNumbered gs = All (λ g. g.token + g.count ≤ 2 ^ 32) gs
