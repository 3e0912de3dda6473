-- The first local beyond the limit.
use Rattle.std.proofs.Common.{◌≡◌, ℕ, zero, suc, ◌+◌, ◌-◌, ◌<◌, ◌≤◌, List, ◌++◌, length, drop, get_or}
use Rattle.std.proofs.Common.{Option, Some, slice_get, sym, ap, ◌∙◌, arith}
use Rattle.std.specs.Option.{option_map}
use Rattle.wc_ops.specs.declared.val_type.ValType.{ValType}
use Rattle.wc_surface.specs.Standard.Identifiers.{Identifier}
use Rattle.wc_surface.specs.Standard.WrittenLocals.{locals_from, locals_of, written_out}
use Rattle.wc_surface.specs.declared.local.Local.{Local}
use Rattle.wc_surface.specs.declared.local.LocalGroup.{LocalGroup}
use Rattle.wc_declare.proofs.Faults.{next}

-- the token of the type of a local
abbrev pub token_at : List Local → ℕ → Option ℕ
token_at ls k = option_map (λ l. l.token) (slice_get ls k)

in-group : (id : Option Identifier) (ty : ValType) (token count k sum : ℕ) (ls : List Local) → k < count
    → sum ≡ token + k
    → token_at (locals_from id ty token count ++ ls) k ≡ Some sum
in-group id ty token zero k sum ls lt e = absurd (omega (arith, lt))
in-group id ty token (suc count) zero sum ls lt e = ap (λ (n : ℕ). Some n) (omega (arith, e))
in-group id ty token (suc count) (suc k) sum ls lt e =
    in-group id ty (suc token) count k sum ls (omega (arith, lt)) (omega (arith, e))

past-group : (id : Option Identifier) (ty : ValType) (token count k : ℕ) (ls : List Local) → count ≤ k
    → token_at (locals_from id ty token count ++ ls) k ≡ token_at ls (k - count)
past-group id ty token zero k ls le = let e : k ≡ k - zero = omega arith in ap (λ (n : ℕ). token_at ls n) e
past-group id ty token (suc count) zero ls le = absurd (omega (arith, le))
past-group id ty token (suc count) (suc k) ls le =
    let e : k - count ≡ suc k - suc count = omega arith in
    past-group id ty (suc token) count k ls (omega (arith, le)) ∙ ap (λ (n : ℕ). token_at ls n) e

split : (gs : List LocalGroup) (i : ℕ) (g : LocalGroup) → i < length gs → g ≡ get_or gs i g
    → written_out (drop i gs) ≡ locals_of g ++ written_out (drop (i + 1) gs)
split gs i g lt e = ap (λ (x : List LocalGroup). written_out x) (next gs i g lt)
    ∙ ap (λ (x : LocalGroup). locals_of x ++ written_out (drop (i + 1) gs)) (sym e)

module _ (gs : List LocalGroup) (i : ℕ) (g : LocalGroup) (k : ℕ) (all : Option ℕ) where
  -- it stands in this group
  pub found-beyond : (sum : ℕ) → i < length gs → g ≡ get_or gs i g → k < g.count → sum ≡ g.token + k
      → token_at (written_out (drop i gs)) k ≡ all → Some sum ≡ all
  found-beyond sum lt e le s h =
      sym (in-group g.id g.ty g.token g.count k sum (written_out (drop (i + 1) gs)) le s)
      ∙ ap (λ (x : List Local). token_at x k) (sym (split gs i g lt e)) ∙ h

  -- it stands behind this group
  pub beyond-next : i < length gs → g ≡ get_or gs i g → g.count ≤ k
      → token_at (written_out (drop i gs)) k ≡ all → token_at (written_out (drop (i + 1) gs)) (k - g.count) ≡ all
  beyond-next lt e le h =
      sym (past-group g.id g.ty g.token g.count k (written_out (drop (i + 1) gs)) le)
      ∙ ap (λ (x : List Local). token_at x k) (sym (split gs i g lt e)) ∙ h
