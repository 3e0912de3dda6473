-- The canonical bytes of block types.
use Rattle.std.specs.Prelude.{ℤ, pos, negsuc}
use Rattle.std.proofs.Common.{◌≡◌, ℕ, ◌<◌, ◌≤◌, ◌⊎◌, Bool, true, false, nat_eq, List, [], ◌∷◌, None, Result, Ok}
use Rattle.std.proofs.Common.{Err, inl, inr, refl, sym, ◌∙◌, arith}
use Rattle.std.proofs.lemmas.List.{append-nil}
use Rattle.std.proofs.lemmas.Bool.{eqb-true, lt-ltb, le-ltb}
use Rattle.std.proofs.lemmas.Int.{ints}
use Rattle.wc_leb128.specs.Standard.Shortest.{HoldsSigned}
use Rattle.wc_leb128.specs.Writing.Bytes.{signed_bytes}
use Rattle.wc_leb128.proofs.Writing.SignedShortest.{signed_bytes-begin}
use Rattle.wc_ops.specs.declared.val_type.ValType.{ValType}
use Rattle.wc_ops.specs.declared.val_type.ValType.TheVariants.{I32, I64}
use Rattle.wc_body.specs.declared.instr.BlockType.{BlockType}
use Rattle.wc_body.specs.declared.instr.BlockType.TheVariants.{Empty, Value, Index}
use Rattle.wc_binary.specs.declared.fault.BinWhy.{BinWhy}
use Rattle.wc_binary.specs.Standard.Style.{Style, canonical}
use Rattle.wc_binary.specs.Standard.Phrase.{Phrase, byte_or_signed, SpellsBy}
use Rattle.wc_binary.specs.Standard.Instructions.{is_short, BlockHead, short, whole, valued, head_of, index_fault}
use Rattle.wc_binary.specs.Standard.Instructions.{type_of, block_type}
use Rattle.wc_binary.specs.Standard.Types.{value_type_of}
use Rattle.wc_body.specs.Standard.ValueBytes.{value_type_bytes, Fits32}
use Rattle.wc_body.specs.Standard.InstructionBytes.{block_type_bytes, FitsBlockType}
use Rattle.wc_binary.proofs.spelling.Judging.{Judges, HasBytes}
use Rattle.wc_binary.proofs.spelling.Phrases.{of}
use Rattle.wc_binary.proofs.spelling.Types.{value_type-only}
use Rattle.wc_binary.proofs.spelling.Codes.{signed-writes}

abbrev block_head : Phrase BlockHead
block_head = byte_or_signed is_short head_of 33 (λ z. whole z)

-- ---- an index begins with no byte that tells another block type

not-short : (b : ℕ) → (b < 64) ⊎ (128 ≤ b) → is_short b ≡ false
not-short b (inl lt) = rw (lt-ltb b 64 lt) refl
not-short b (inr le) = let up : 64 ≤ b = omega (arith, le) in rw (le-ltb b 64 up, le-ltb b 128 le) refl

index-held : (i : ℕ) → Fits32 i → HoldsSigned 33 (pos i)
index-held i f = (omega (arith, ints), omega (arith, ints))

index-fits : (i : ℕ) → HoldsSigned 33 (pos i) → Fits32 i
index-fits i h = omega (arith, ints, h.1)

index-written : (i : ℕ) → Fits32 i → SpellsBy canonical block_head (signed_bytes (pos i)) (whole (pos i))
index-written i f =
    let b = signed_bytes-begin i in
    let spelled = (signed-writes 33).written (pos i) (index-held i f) in
    let is = b.2 in
    (b.0, b.1, b.2, inr (not-short b.0 b.3, pos i, rw is at spelled, refl))

head-written : (b : List ℕ) (u : BlockHead) → SpellsBy canonical block_head b u → index_fault u ≡ None
    → SpellsBy canonical block_type b (type_of u)
unfolding block_type
head-written b u spelled faultless = (b, [], u, sym (append-nil b), (spelled, faultless), (refl, refl))

written : (t : BlockType) → FitsBlockType t → SpellsBy canonical block_type (block_type_bytes t) t
written Empty f = head-written (0x40 ∷ []) (short Empty) (0x40, [], refl, inl (refl, refl, refl)) refl
written (Value I32) f = head-written (0x7F ∷ []) (short (Value I32)) (0x7F, [], refl, inl (refl, refl, refl)) refl
written (Value I64) f = head-written (0x7E ∷ []) (short (Value I64)) (0x7E, [], refl, inl (refl, refl, refl)) refl
written (Index i) f = head-written (signed_bytes (pos i)) (whole (pos i)) (index-written i f) refl

-- ---- whatever spells a block type

abbrev ok_head : BlockHead → Result BlockHead BinWhy
ok_head u = Ok u

-- the byte of a block type without an index
abbrev IsShort : ℕ → BlockHead → Type 0
IsShort x u = (x ∷ [] ≡ block_type_bytes (type_of u)) × FitsBlockType (type_of u)

value-byte : (t : ValType) → value_type_bytes t ≡ block_type_bytes (Value t)
value-byte I32 = refl
value-byte I64 = refl

-- the byte of a value type
value-only : (x : ℕ) (u : BlockHead) (r : Result ValType BinWhy) → value_type_of x ≡ r → valued r ≡ Ok u → IsShort x u
value-only x u (Ok t) e h =
    let is : short (Value t) ≡ u = cc in
    let byte = value_type-only x t e in
    rw (← is) (byte ∙ value-byte t, tt)
value-only x u (Err r) e h = absurd cc

short-only : (x : ℕ) (u : BlockHead) → head_of x ≡ Ok u → IsShort x u
short-only x u h = go (nat_eq x 0x40) refl
  where
    go : (a : Bool) → nat_eq x 0x40 ≡ a → IsShort x u
    go true p =
        let f : ok_head (short Empty) ≡ Ok u = rw p at h in
        let is : short Empty ≡ u = cc in
        rw (← is, eqb-true x 0x40 p) (refl, tt)
    go false p = value-only x u (value_type_of x) refl (rw p at h)

module _ (s : Style) (V : List ℕ → List ℕ → Type 0) (j : Judges s V) where
  abbrev IsTold : List ℕ → BlockHead → Type 0
  IsTold b u = FitsBlockType (type_of u) × V b (block_type_bytes (type_of u))

  short-told : (x : ℕ) (u : BlockHead) → head_of x ≡ Ok u → IsTold (x ∷ []) u
  short-told x u h = let k = short-only x u h in (k.1, j.equal (x ∷ []) (block_type_bytes (type_of u)) k.0)

  whole-told : (b : List ℕ) (z : ℤ) → s.Signed 33 b z → index_fault (whole z) ≡ None → IsTold b (whole z)
  whole-told b (pos i) h e = let k = j.signed 33 b (pos i) h in (index-fits i k.0, k.1)
  whole-told b (negsuc i) h e = absurd cc

  head-told : (b : List ℕ) (u : BlockHead) → SpellsBy s block_head b u → index_fault u ≡ None → IsTold b u
  head-told b u h e =
      let bytes = h.2 in
      elim h.3 [
        | inl k ↦ let last = k.1 in rw (bytes, last) (short-told h.0 u k.2)
        | inr k ↦ let is = k.3 in rw (bytes, is) (whole-told (h.0 ∷ h.1) k.1 k.2 (rw is at e))
      ]

  told : (b : List ℕ) (t : BlockType) → SpellsBy s block_type b t → FitsBlockType t × V b (block_type_bytes t)
  unfolding block_type
  told b t h =
      let is : t ≡ type_of h.2 = h.5.1 in
      let bytes : b ≡ h.0 = rw (h.3, h.5.0, append-nil) refl in
      rw (bytes, is) (head-told h.0 h.2 h.4.0 h.4.1)

pub block_type-writes : HasBytes (of block_type) FitsBlockType block_type_bytes
block_type-writes = record {
  written = written;
  told = told;
}
