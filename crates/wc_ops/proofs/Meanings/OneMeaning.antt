-- A byte and a word have one meaning each.
use Rattle.std.proofs.Common.{◌≡◌, ℕ, List, sym, refl}
use Rattle.wc_ops.specs.declared.op.OpByte.{OpByte}
use Rattle.wc_ops.specs.declared.op.OpByte.TheVariants as bytes
use Rattle.wc_ops.specs.declared.op.OpName.{OpName}
use Rattle.wc_ops.specs.declared.op.OpName.TheVariants as names
use Rattle.wc_ops.specs.Standard.ByteMeaning.{IsOpByte}
use Rattle.wc_ops.specs.Standard.NameMeaning.{IsOpName}

pub one-byte : (b : ℕ) (x y : OpByte) → IsOpByte b x → IsOpByte b y → x ≡ y
one-byte b (bytes.Known op) y m n = sym ((n.known op).1 ((m.known op).0 refl))
one-byte b bytes.Float y m n = sym (n.float.1 (m.float.0 refl))
one-byte b bytes.Unknown (bytes.Known op) m n = (m.known op).1 ((n.known op).0 refl)
one-byte b bytes.Unknown bytes.Float m n = m.float.1 (n.float.0 refl)
one-byte b bytes.Unknown bytes.Unknown m n = refl

pub one-name : (w : List ℕ) (x y : OpName) → IsOpName w x → IsOpName w y → x ≡ y
one-name w (names.Known op) y m n = sym ((n.known op).1 ((m.known op).0 refl))
one-name w names.Float y m n = sym (n.float.1 (m.float.0 refl))
one-name w names.Unknown (names.Known op) m n = (m.known op).1 ((n.known op).0 refl)
one-name w names.Unknown names.Float m n = m.float.1 (n.float.0 refl)
one-name w names.Unknown names.Unknown m n = refl
