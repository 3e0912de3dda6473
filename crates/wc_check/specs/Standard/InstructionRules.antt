-- The rules on instructions (Core 1.0, 3.3), without their types.
use Rattle.std.specs.Prelude.{ℕ, Bool, false, not, ◌||◌, ◌==◌, nat_lt, nat_le, List, [], ◌++◌, length, slice_get}
use Rattle.std.specs.List.{list_any}
use Rattle.std.specs.Option.{option_map_or}
use Rattle.wc_ast.specs.declared.limits.GlobalType.{GlobalType}
use Rattle.wc_body.specs.declared.instr.BlockType as block_type
use Rattle.wc_body.specs.declared.instr.BlockType.TheVariants as block_types
use Rattle.wc_body.specs.declared.instr.Instr as instr
use Rattle.wc_body.specs.declared.instr.Instr.TheVariants.{Simple, Index, Mem, BrTable, CallIndirect, I32Const}
use Rattle.wc_body.specs.declared.instr.Instr.TheVariants.{I64Const}
use Rattle.wc_ops.specs.declared.op.SimpleOp.{SimpleOp}
use Rattle.wc_ops.specs.declared.op.SimpleOp.TheVariants.{MemorySize, MemoryGrow}
use Rattle.wc_ops.specs.declared.op.IndexOp.{IndexOp}
use Rattle.wc_ops.specs.declared.op.IndexOp.TheVariants.{Br, BrIf, Call, LocalGet, LocalSet, LocalTee, GlobalGet}
use Rattle.wc_ops.specs.declared.op.IndexOp.TheVariants.{GlobalSet}
use Rattle.wc_ops.specs.Standard.Opcodes.{memory}
use Rattle.wc_body.specs.Standard.Nested.{Code, Mark, plain, begin, begin_if, otherwise, close}
use Rattle.wc_body.specs.Standard.Placed.{placed, deeper}
use Rattle.wc_check.specs.declared.context.Context.{Context}
use Rattle.wc_check.specs.declared.fault.Item.{Item}
use Rattle.wc_check.specs.declared.fault.Item.TheVariants as items
use Rattle.wc_check.specs.declared.fault.CheckWhy.{CheckWhy}
use Rattle.wc_check.specs.declared.fault.CheckWhy.TheVariants as whys
use Rattle.wc_check.specs.Standard.Rules.{rule, at, each}

-- it has no immediate (3.3.4.5, 3.3.4.6)
abbrev pub simple_rules : Context → SimpleOp → List CheckWhy
simple_rules c MemorySize = rule whys.Index (c.mems == 0)
simple_rules c MemoryGrow = rule whys.Index (c.mems == 0)
simple_rules c _ = []

-- the global of this index is constant
abbrev pub is_constant_at : List GlobalType → ℕ → Bool
is_constant_at globals index = option_map_or (λ g. not g.mutable) (slice_get globals index) false

-- its immediate is this index: a label among so many enclosing blocks, a function, a local among so many, or a global
-- (3.3.3, 3.3.5.6, 3.3.5.7, 3.3.5.10)
abbrev pub index_rules : Context → ℕ → ℕ → IndexOp → ℕ → List CheckWhy
index_rules c locals enclosing Br n = rule whys.Label (nat_lt enclosing n)
index_rules c locals enclosing BrIf n = rule whys.Label (nat_lt enclosing n)
index_rules c locals enclosing Call n = rule whys.Index (nat_le c.funcs n)
index_rules c locals enclosing LocalGet n = rule whys.Index (nat_le locals n)
index_rules c locals enclosing LocalSet n = rule whys.Index (nat_le locals n)
index_rules c locals enclosing LocalTee n = rule whys.Index (nat_le locals n)
index_rules c locals enclosing GlobalGet n = rule whys.Index (nat_le (length c.globals) n)
index_rules c locals enclosing GlobalSet n =
    rule whys.Index (nat_le (length c.globals) n) ++ rule whys.Immutable (is_constant_at c.globals n)

-- none is nested in it, and so many blocks enclose it, in a function of so many locals (3.3.4, 3.3.5)
abbrev pub instr_rules : Context → ℕ → ℕ → instr.Instr → List CheckWhy
instr_rules c locals enclosing (Simple op) = simple_rules c op
instr_rules c locals enclosing (Index op n) = index_rules c locals enclosing op n
instr_rules c locals enclosing (Mem op arg) =
    rule whys.Index (c.mems == 0) ++ rule whys.Align (nat_lt (memory op).alignment arg.align)
instr_rules c locals enclosing (BrTable default labels) =
    rule whys.Label (list_any (λ n. nat_lt enclosing n) labels || nat_lt enclosing default)
instr_rules c locals enclosing (CallIndirect t) = rule whys.TypeIndex (nat_le c.types t) ++ rule whys.Index
    (c.tables == 0)
instr_rules c locals enclosing (I32Const n) = []
instr_rules c locals enclosing (I64Const n) = []

-- it has this block type (Core 2.0, 3.2.2)
abbrev pub block_rules : Context → block_type.BlockType → List CheckWhy
block_rules c block_types.Empty = []
block_rules c (block_types.Value t) = []
block_rules c (block_types.Index t) = rule whys.TypeIndex (nat_le c.types t)

-- a mark: an instruction without others in it, or where others begin or end
abbrev pub mark_rules : Context → ℕ → ℕ → Mark instr.Instr block_type.BlockType → List CheckWhy
mark_rules c locals enclosing (plain i) = instr_rules c locals enclosing i
mark_rules c locals enclosing (begin r t) = block_rules c t
mark_rules c locals enclosing (begin_if t) = block_rules c t
mark_rules c locals enclosing otherwise = []
mark_rules c locals enclosing close = []

-- what an instruction breaks, by its number, in the function of this index, which has so many locals; it stands with
-- the number of blocks that enclose it
abbrev pub broken_instr : Context → ℕ → ℕ → ℕ → ℕ × Mark instr.Instr block_type.BlockType → List (Item × CheckWhy)
broken_instr c locals func number x = at (items.Instr func number) (mark_rules c locals x.0 x.1)

-- what the instructions of the function break, in reading order
abbrev pub broken_in_body : Context → ℕ → ℕ → Code instr.Instr block_type.BlockType → List (Item × CheckWhy)
broken_in_body c locals func code = each (broken_instr c locals func) 0 (placed deeper 0 code)
