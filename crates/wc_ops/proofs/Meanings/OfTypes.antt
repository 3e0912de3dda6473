-- A byte leads to a value type exactly where it is that type's byte.
use Rattle.std.proofs.Common.{◌≡◌, ◌↔◌, ℕ, Bool, true, false, nat_eq, Option, Some, refl, sym, ap, ◌∙◌}
use Rattle.std.proofs.lemmas.Bool.{eqb-true}
use Rattle.wc_ops.specs.declared.val_type.ValType.{ValType}
use Rattle.wc_ops.specs.declared.val_type.ValType.TheVariants.{I32, I64}
use Rattle.wc_ops.specs.Standard.ValueTypes.{value_type_byte, value_type_of_byte}

abbrev some : ValType → Option ValType
some t = Some t

-- each value type's byte leads to it
back : (t : ValType) → value_type_of_byte (value_type_byte t) ≡ Some t
back I32 = refl
back I64 = refl

-- what a byte leads to has that byte
only : (x : ℕ) (t : ValType) → value_type_of_byte x ≡ Some t → value_type_byte t ≡ x
only x t h = go (nat_eq x 0x7F) (nat_eq x 0x7E) refl refl
  where
    go : (a b : Bool) → nat_eq x 0x7F ≡ a → nat_eq x 0x7E ≡ b → value_type_byte t ≡ x
    go true b p q =
        let e : some I32 ≡ Some t = rw p at h in
        let f : I32 ≡ t = cc in
        ap value_type_byte (sym f) ∙ sym (eqb-true x 0x7F p)
    go false true p q =
        let e : some I64 ≡ Some t = rw (p, q) at h in
        let f : I64 ≡ t = cc in
        ap value_type_byte (sym f) ∙ sym (eqb-true x 0x7E q)
    go false false p q = let e = rw (p, q) at h in absurd cc

pub type-byte : (x : ℕ) (t : ValType) → (value_type_of_byte x ≡ Some t) ↔ (value_type_byte t ≡ x)
type-byte x t = (only x t, (λ e. ap value_type_of_byte (sym e) ∙ back t))
