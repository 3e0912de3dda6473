-- Instructions as text (Core 1.0, 6.5).
use Rattle.std.specs.Prelude.{ℕ, zero, suc, ◌==◌, if◌then◌else◌, List, [], ◌∷◌, ◌++◌, codes, map, take, slice_index}
use Rattle.std.specs.List.{flat_map}
use Rattle.wc_ops.specs.declared.val_type.ValType.{ValType}
use Rattle.wc_ops.specs.declared.val_type.ValType.TheVariants.{I32, I64}
use Rattle.wc_body.specs.declared.instr.BlockType.{BlockType}
use Rattle.wc_body.specs.declared.instr.BlockType.TheVariants as block_types
use Rattle.wc_body.specs.declared.instr.Instr.{Instr}
use Rattle.wc_body.specs.declared.instr.Instr.TheVariants as instrs
use Rattle.wc_body.specs.declared.entry.Kind.{Kind}
use Rattle.wc_body.specs.declared.entry.Kind.TheVariants as kinds
use Rattle.wc_ops.specs.declared.op.Op.TheVariants as ops
use Rattle.wc_ops.specs.Standard.Opcodes.{row, memory}
use Rattle.wc_body.specs.Standard.Nested.{Region, block, loop, Code, Mark, plain, begin, begin_if, otherwise, close}
use Rattle.wc_body.specs.Standard.Nested.{flatten}
use Rattle.wc_print.specs.Standard.Printed.{Printed, opening, closing, word, number, integer, part, Item, next, after}
use Rattle.wc_print.specs.Standard.Printed.{below}

-- so many bytes of a row as its last byte says
abbrev pub told : List ℕ → List ℕ
told row = take (slice_index row 23) row

-- ` i32` (6.4.1)
abbrev pub type_item : ValType → Item
type_item I32 = after (word (codes "i32"))
type_item I64 = after (word (codes "i64"))

-- ` (type n)`: a type by its index (6.6.3)
abbrev pub type_use_items : ℕ → List Item
type_use_items n = after opening ∷ next (word (codes "type")) ∷ after (number n) ∷ next closing ∷ []

-- ` (result i32)`, or a type by its index; nothing where a block has no result (6.5.2; Core 2.0, 6.5.2)
abbrev pub block_items : BlockType → List Item
block_items block_types.Empty = []
block_items (block_types.Value t) = after opening ∷ next (word (codes "result")) ∷ type_item t ∷ next closing ∷ []
block_items (block_types.Index n) = type_use_items n

-- ` offset=4`, unless it is zero (6.5.5)
abbrev pub offset_items : ℕ → List Item
offset_items n = if n == 0 then [] else after (part (codes "offset=") n) ∷ []

-- an alignment in bytes: the exponent is at most 3 where no rule is broken
abbrev pub bytes_of : ℕ → ℕ
bytes_of zero = 1
bytes_of (suc zero) = 2
bytes_of (suc (suc zero)) = 4
bytes_of (suc (suc (suc n))) = 8

-- ` align=1`, unless it is the natural one (6.5.5)
abbrev pub align_items : ℕ → ℕ → List Item
align_items natural a = if a == natural then [] else after (part (codes "align=") (bytes_of a)) ∷ []

-- numbers, each behind a space
abbrev pub number_items : List ℕ → List Item
number_items ns = map (λ n. after (number n)) ns

-- the name of an instruction (6.5)
abbrev pub instr_word : Instr → List ℕ
instr_word (instrs.Simple op) = (row (ops.Simple op)).name
instr_word (instrs.Index op n) = (row (ops.Index op)).name
instr_word (instrs.Mem op arg) = (row (ops.Mem op)).name
instr_word (instrs.BrTable default labels) = (row ops.BrTable).name
instr_word (instrs.CallIndirect n) = (row ops.CallIndirect).name
instr_word (instrs.I32Const z) = (row ops.I32Const).name
instr_word (instrs.I64Const z) = (row ops.I64Const).name

-- what follows the name: the labels of a table in order and then the default (6.5.2), a signed number (6.5.6)
abbrev pub instr_rest : Instr → List Item
instr_rest (instrs.Simple op) = []
instr_rest (instrs.Index op n) = after (number n) ∷ []
instr_rest (instrs.Mem op arg) = offset_items arg.offset ++ align_items (memory op).alignment arg.align
instr_rest (instrs.BrTable default labels) = number_items labels ++ after (number default) ∷ []
instr_rest (instrs.CallIndirect n) = type_use_items n
instr_rest (instrs.I32Const z) = after (integer z) ∷ []
instr_rest (instrs.I64Const z) = after (integer z) ∷ []

-- `block` or `loop` (6.5.2)
abbrev pub region_word : Region → List ℕ
region_word block = (row ops.Block).name
region_word loop = (row ops.Loop).name

-- the word of what begins
abbrev pub head_word : Kind → List ℕ
head_word kinds.Block = (row ops.Block).name
head_word kinds.Loop = (row ops.Loop).name
head_word kinds.If = (row ops.If).name

-- a mark, whose first token stands where it is put
abbrev pub mark_items : (Printed → Item) → Mark Instr BlockType → List Item
mark_items put (plain i) = put (word (instr_word i)) ∷ instr_rest i
mark_items put (begin r t) = put (word (region_word r)) ∷ block_items t
mark_items put (begin_if t) = put (word (row ops.If).name) ∷ block_items t
mark_items put otherwise = put (word (codes "else")) ∷ []
mark_items put close = put (word (codes "end")) ∷ []

-- Instructions, each mark on a line behind four spaces. An `else` stands only before an else part that isn't empty.
abbrev pub body_items : Code Instr BlockType → List Item
body_items code = flat_map (mark_items (λ p. below 4 p)) (flatten code)

-- the same on one line: of a constant expression, the one instruction
abbrev pub expr_items : Code Instr BlockType → List Item
expr_items code = flat_map (mark_items (λ p. after p)) (flatten code)
