-- The canonical bytes of instructions, each with those nested in it. No size stands in them: their length is a sum.
use Rattle.std.proofs.Common.{◌≡◌, ◌≢◌, ℕ, ◌<◌, List, [], ◌∷◌, ◌++◌, length, Ok, ◌⊎◌, inl, inr, refl, sym, ap, ◌∙◌}
use Rattle.std.proofs.Common.{arith}
use Rattle.std.proofs.lemmas.List.{length-append}
use Rattle.wc_ops.specs.declared.op.Op.{Op}
use Rattle.wc_ops.specs.declared.op.Op.TheVariants as ops
use Rattle.wc_body.specs.declared.instr.Instr.{Instr}
use Rattle.wc_body.specs.declared.instr.Instr.TheVariants.{Simple, Index, Mem, BrTable, CallIndirect, I32Const}
use Rattle.wc_body.specs.declared.instr.Instr.TheVariants.{I64Const}
use Rattle.wc_body.specs.declared.instr.BlockType.{BlockType}
use Rattle.wc_body.specs.Standard.Nested.{Region, block, loop, Code, empty, op, region, choice}
use Rattle.wc_body.specs.Standard.Grammar.{Grammar, Spells}
use Rattle.wc_ops.specs.Standard.Opcodes.{row}
use Rattle.wc_body.specs.Standard.Throughout.{Throughout}
use Rattle.wc_body.specs.Standard.Pieces.{else_piece}
use Rattle.wc_body.proofs.Codes.Emitting.{SpellsPieces, emitted-spells}
use Rattle.wc_binary.specs.Standard.Style.{Style, canonical}
use Rattle.wc_binary.specs.Standard.Phrase.{SpellsBy}
use Rattle.wc_binary.specs.Standard.Expression.{plain_op, region_op, if_op, else_op, end_op, letters}
use Rattle.wc_binary.specs.Standard.Instructions.{opcode, follows, block_type, expr}
use Rattle.wc_body.specs.Standard.InstructionBytes.{op_of, rest_bytes, instr_bytes, block_type_bytes, region_bytes}
use Rattle.wc_body.specs.Standard.InstructionBytes.{code_pieces, code_bytes, expr_bytes, FitsInstr, FitsBlockType}
use Rattle.wc_body.specs.Standard.InstructionBytes.{FitsExpr}
use Rattle.wc_binary.proofs.spelling.Judging.{Judges, HasBytes}
use Rattle.wc_binary.proofs.spelling.Phrases.{of}
use Rattle.wc_binary.proofs.spelling.code.Opcodes.{row-begins, opcode-byte}
use Rattle.wc_binary.proofs.spelling.code.Instructions.{follows-writes}
use Rattle.wc_binary.proofs.spelling.code.BlockTypes.{block_type-writes}

-- which bytes spell each part in this style
abbrev in_style : Style → Grammar ℕ Instr BlockType
in_style s = letters s.Neat opcode (λ u c i. SpellsBy s (follows u) c i) (λ c t. SpellsBy s block_type c t)

-- ---- the pieces are canonical

pub plain-begins : (i : Instr) → opcode (row (op_of i)).byte ≡ Ok (plain_op (op_of i))
plain-begins (Simple o) = row-begins (ops.Simple o)
plain-begins (Index o n) = row-begins (ops.Index o)
plain-begins (Mem o arg) = row-begins (ops.Mem o)
plain-begins (BrTable default labels) = row-begins ops.BrTable
plain-begins (CallIndirect ty) = row-begins ops.CallIndirect
plain-begins (I32Const n) = row-begins ops.I32Const
plain-begins (I64Const n) = row-begins ops.I64Const

abbrev HasRegion : Region → Type 0
HasRegion r = (x : ℕ) × (region_bytes r ≡ x ∷ []) × (opcode x ≡ Ok (region_op r))

region-begins : (r : Region) → HasRegion r
region-begins block = (0x02, refl, row-begins ops.Block)
region-begins loop = (0x03, refl, row-begins ops.Loop)

pieces-spelled : SpellsPieces code_pieces (in_style canonical) FitsInstr FitsBlockType
pieces-spelled = record {
  plain = λ s i f.
      let k = (follows-writes (op_of i)).written i (f, refl) in
      ((row (op_of i)).byte, op_of i, rest_bytes i, refl, plain-begins i, k);
  begin = λ s r t f.
      let k = region-begins r in
      let split = ap (λ (x : List ℕ). x ++ block_type_bytes t) k.1 in
      (k.0, block_type_bytes t, split, k.2, block_type-writes.written t f);
  begin_if = λ s t f. (0x04, block_type_bytes t, refl, row-begins ops.If, block_type-writes.written t f);
  otherwise = λ s t f. (0x05, refl, refl);
  close = λ s t f. (0x0B, refl, refl);
  neat = λ Q q. q;
}

-- ---- whatever spells instructions

module _ (s : Style) (V : List ℕ → List ℕ → Type 0) (j : Judges s V) where
  abbrev g : Grammar ℕ Instr BlockType
  g = in_style s

  behind : (a c y : List ℕ) → V c y → V (a ++ c) (a ++ y)
  behind a c y v = j.join a c a y (j.same a) v

  plain-told : (b : List ℕ) (i : Instr) → g.Plain b i → FitsInstr i × V b (instr_bytes i)
  plain-told b i h =
      let t = (follows-writes h.1).told s V j h.2 i h.5 in
      let same : (row h.1).byte ≡ (row (op_of i)).byte = ap (λ (u : Op). (row u).byte) (sym t.0.1) in
      let byte : h.0 ≡ (row (op_of i)).byte = opcode-byte h.0 (plain_op h.1) h.4 ∙ same in
      let split = h.3 in
      (t.0.0, rw (split, byte) (behind ((row (op_of i)).byte ∷ []) h.2 (rest_bytes i) t.1))

  region-byte : (x : ℕ) (r : Region) → opcode x ≡ Ok (region_op r) → x ∷ [] ≡ region_bytes r
  region-byte x block h = ap (λ (y : ℕ). y ∷ []) (opcode-byte x (region_op block) h)
  region-byte x loop h = ap (λ (y : ℕ). y ∷ []) (opcode-byte x (region_op loop) h)

  begin-told : (b : List ℕ) (r : Region) (t : BlockType) → g.Begin b r t
      → FitsBlockType t × V b (region_bytes r ++ block_type_bytes t)
  begin-told b r t h =
      let k = block_type-writes.told s V j h.1 t h.4 in
      let byte = region-byte h.0 r h.3 in
      let split : b ≡ region_bytes r ++ h.1 = h.2 ∙ ap (λ (x : List ℕ). x ++ h.1) byte in
      (k.0, rw split (behind (region_bytes r) h.1 (block_type_bytes t) k.1))

  begin_if-told : (b : List ℕ) (t : BlockType) → g.BeginIf b t
      → FitsBlockType t × V b ((0x04 ∷ []) ++ block_type_bytes t)
  begin_if-told b t h =
      let k = block_type-writes.told s V j h.1 t h.4 in
      let byte = opcode-byte h.0 if_op h.3 in
      let split = h.2 in
      (k.0, rw (split, byte) (behind (0x04 ∷ []) h.1 (block_type_bytes t) k.1))

  else-is : (b : List ℕ) (t : BlockType) → g.Else b t → b ≡ 0x05 ∷ []
  else-is b t h = h.1 ∙ ap (λ (y : ℕ). y ∷ []) (opcode-byte h.0 else_op h.2)

  end-is : (b : List ℕ) (t : BlockType) → g.End b t → b ≡ 0x0B ∷ []
  end-is b t h = h.1 ∙ ap (λ (y : ℕ). y ∷ []) (opcode-byte h.0 end_op h.2)

  abbrev Fits : Code Instr BlockType → Type 0
  Fits code = Throughout FitsInstr FitsBlockType code

  abbrev ElsePart : BlockType → List ℕ → Code Instr BlockType → Type 0
  ElsePart t e second =
      ((e ≡ []) × (second ≡ empty))
      ⊎ ((a : List ℕ) × (c : List ℕ) × (e ≡ a ++ c) × g.Else a t × (Fits second × V c (code_bytes second))
      × s.Neat (second ≢ empty))

  -- the byte, and the instructions behind it
  split-told : (t : BlockType) (e a c y : List ℕ) → e ≡ a ++ c → g.Else a t → V c y → V e ((0x05 ∷ []) ++ y)
  split-told t e a c y split mark v = rw (split, else-is a t mark) (behind (0x05 ∷ []) c y v)

  never-shorter : (t : BlockType) (e a c : List ℕ) → e ≡ a ++ c → g.Else a t → 0 < length e
  never-shorter t e a c split mark =
      omega (arith, ap length split, ap length (else-is a t mark), length-append a c)

  -- the else part, behind its byte or left out
  else-told : (t : BlockType) (e : List ℕ) (second : Code Instr BlockType) → ElsePart t e second
      → Fits second × V e (else_piece code_pieces tt second (code_bytes second))
  else-told t e empty (inl h) = (tt, j.equal e [] h.0)
  else-told t e (op p next) (inl h) = absurd cc
  else-told t e (region r u inside next) (inl h) = absurd cc
  else-told t e (choice u one two next) (inl h) = absurd cc
  else-told t e empty (inr h) =
      (tt, j.liberty (empty ≢ empty) e [] h.5 (λ ne. ne refl) (never-shorter t e h.0 h.1 h.2 h.3))
  else-told t e (op p next) (inr h) =
      (h.4.0, split-told t e h.0 h.1 (code_bytes (op p next)) h.2 h.3 h.4.1)
  else-told t e (region r u inside next) (inr h) =
      (h.4.0, split-told t e h.0 h.1 (code_bytes (region r u inside next)) h.2 h.3 h.4.1)
  else-told t e (choice u one two next) (inr h) =
      (h.4.0, split-told t e h.0 h.1 (code_bytes (choice u one two next)) h.2 h.3 h.4.1)

  code-told : (b : List ℕ) (code : Code Instr BlockType) → Spells g b code → Fits code × V b (code_bytes code)
  code-told b empty h = (tt, j.equal b [] h)
  code-told b (op p next) h =
      let one = plain-told h.0 p h.3 in
      let rest = code-told h.1 next h.4 in
      let split = h.2 in
      ((one.0, rest.0), rw split (j.join h.0 h.1 (instr_bytes p) (code_bytes next) one.1 rest.1))
  code-told b (region r t inside next) h =
      let head = begin-told h.0 r t h.5 in
      let one = code-told h.1 inside h.6 in
      let rest = code-told h.3 next h.8 in
      let split = h.4 in
      let close : V h.2 (0x0B ∷ []) = j.equal h.2 (0x0B ∷ []) (end-is h.2 t h.7) in
      let tail = j.join h.2 h.3 (0x0B ∷ []) (code_bytes next) close rest.1 in
      let body = j.join h.1 (h.2 ++ h.3) (code_bytes inside) ((0x0B ∷ []) ++ code_bytes next) one.1 tail in (
        (head.0, one.0, rest.0),
        rw split (j.join h.0 (h.1 ++ (h.2 ++ h.3)) (region_bytes r ++ block_type_bytes t)
            (code_bytes inside ++ ((0x0B ∷ []) ++ code_bytes next)) head.1 body),
      )
  code-told b (choice t first second next) h =
      let head = begin_if-told h.0 t h.6 in
      let one = code-told h.1 first h.7 in
      let part = elim h.8 as (λ _. ElsePart t h.2 second) [
        | inl e ↦ inl e
        | inr e ↦ inr (e.0, e.1, e.2, e.3, code-told e.1 second e.4, e.5)
      ] in
      let two = else-told t h.2 second part in
      let rest = code-told h.4 next h.10 in
      let split = h.5 in
      let middle = else_piece code_pieces tt second (code_bytes second) in
      let close : V h.3 (0x0B ∷ []) = j.equal h.3 (0x0B ∷ []) (end-is h.3 t h.9) in
      let tail = j.join h.3 h.4 (0x0B ∷ []) (code_bytes next) close rest.1 in
      let behind_first = j.join h.2 (h.3 ++ h.4) middle ((0x0B ∷ []) ++ code_bytes next) two.1 tail in
      let body =
      j.join h.1 (h.2 ++ (h.3 ++ h.4)) (code_bytes first) (middle ++ ((0x0B ∷ []) ++ code_bytes next)) one.1
      behind_first in (
        (head.0, one.0, two.0, rest.0),
        rw split (j.join h.0 (h.1 ++ (h.2 ++ (h.3 ++ h.4))) ((0x04 ∷ []) ++ block_type_bytes t)
            (code_bytes first ++ (middle ++ ((0x0B ∷ []) ++ code_bytes next))) head.1 body),
      )

pub expr-writes : HasBytes (of expr) FitsExpr expr_bytes
unfolding expr
expr-writes = record {
  written = λ code f.
      let g = in_style canonical in
      let spelled = emitted-spells code_pieces g FitsInstr FitsBlockType pieces-spelled tt code f.0 in
      (code_bytes code, 0x0B, refl, refl, spelled, f.1);
  told = λ s V j b code h.
      let t = code-told s V j h.0 code h.4 in
      let split : b ≡ h.0 ++ (0x0B ∷ []) = h.2 ∙ ap (λ (x : ℕ). h.0 ++ (x ∷ [])) (opcode-byte h.1 end_op h.3) in
      ((t.0, h.5), rw split (j.join h.0 (0x0B ∷ []) (code_bytes code) (0x0B ∷ []) t.1 (j.same (0x0B ∷ []))));
}
