-- Calls and instructions of locals whose index has one byte: what is noted of one.
use Rattle.std.proofs.Common.{◌≡◌, ℕ, ◌+◌, ◌<◌, ◌≤◌, max, List, [], ◌∷◌, length, get_or, drop, inl, inr, refl, arith}
use Rattle.std.proofs.lemmas.Bool.{cases_lt}
use Rattle.wc_leb128.proofs.Writing.UnsignedShortest.{unsigned_bytes-low}
use Rattle.wc_ops.specs.declared.op.Op.TheVariants as ops
use Rattle.wc_ops.specs.declared.op.IndexOp.{IndexOp}
use Rattle.wc_ops.specs.declared.op.IndexOp.TheVariants.{Call, LocalGet, LocalSet, LocalTee}
use Rattle.wc_ops.specs.Standard.Opcodes.{row}
use Rattle.wc_body.specs.declared.instr.Instr.TheVariants.{Index}
use Rattle.wc_body.specs.declared.needs.Needs.{Needs}
use Rattle.wc_body.specs.Standard.Needed.{enough, with_index}
use Rattle.wc_body.specs.Drafting.AtFront.{NotesInstr}

module _ (k b : ℕ) (y : List ℕ) (s t : Needs) (lt : b < 128) where
  one-byte : (op : IndexOp) → t ≡ with_index s k op b → NotesInstr k ((row (ops.Index op)).byte ∷ b ∷ y) y s t
  one-byte op noted = (Index op b, rw (unsigned_bytes-low b lt) refl, omega (arith, lt), noted)

  call-noted : t ≡ record s { funcs = max s.funcs (b + 1) } → NotesInstr k (0x10 ∷ b ∷ y) y s t
  call-noted is =
      let same : max s.funcs (b + 1) ≡ enough s.funcs b = omega (arith, lt) in
      one-byte Call (rw (is, same) refl)

  local-noted : (a : ℕ) → 0x20 ≤ a → a ≤ 0x22 → t ≡ record s { locals = max s.locals (b + 1) }
      → NotesInstr k (a ∷ b ∷ y) y s t
  local-noted a least most is =
      let same : max s.locals (b + 1) ≡ enough s.locals b = omega (arith, lt) in
      let noted : t ≡ record s { locals = enough s.locals b } = rw (is, same) refl in
      elim (cases_lt a 0x21) [
        | inl below ↦ let e : a ≡ 0x20 = omega (arith, below, least) in rw e (one-byte LocalGet noted)
        | inr le ↦ elim (cases_lt a 0x22) [
          | inl below ↦ let e : a ≡ 0x21 = omega (arith, below, le) in rw e (one-byte LocalSet noted)
          | inr last ↦ let e : a ≡ 0x22 = omega (arith, last, most) in rw e (one-byte LocalTee noted)
        ]
      ]

pub call-handed : (x : List ℕ) (k : ℕ) (s t : Needs) → 2 ≤ length x → get_or x 0 0 ≡ 0x10 → get_or x 1 0 < 128
    → t ≡ record s { funcs = max s.funcs (get_or x 1 0 + 1) } → NotesInstr k x (drop 2 x) s t
call-handed [] k s t le op low is = absurd (omega arith)
call-handed (a ∷ []) k s t le op low is = absurd (omega arith)
call-handed (a ∷ b ∷ y) k s t le op low is = rw op (call-noted k b y s t low is)

pub local-handed : (x : List ℕ) (k : ℕ) (s t : Needs) → 2 ≤ length x → 0x20 ≤ get_or x 0 0 → get_or x 0 0 ≤ 0x22
    → get_or x 1 0 < 128 → t ≡ record s { locals = max s.locals (get_or x 1 0 + 1) }
    → NotesInstr k x (drop 2 x) s t
local-handed [] k s t le least most low is = absurd (omega arith)
local-handed (a ∷ []) k s t le least most low is = absurd (omega arith)
local-handed (a ∷ b ∷ y) k s t le least most low is = local-noted k b y s t low a least most is
