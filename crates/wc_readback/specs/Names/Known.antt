-- Modules of which the names of the printed text are known (Core 1.0, 3.4 and 6.6): each type index is one of a type,
-- and no alignment is above the natural one.
use Rattle.std.specs.Prelude.{ℕ, ◌<◌, ◌≤◌, ◌^◌, length}
use Rattle.std.specs.List.{AllByRecursion}
use Rattle.wc_ops.specs.Standard.Opcodes.{memory}
use Rattle.wc_body.specs.declared.instr.BlockType.{BlockType}
use Rattle.wc_body.specs.declared.instr.BlockType.TheVariants as block_types
use Rattle.wc_body.specs.declared.instr.Instr.{Instr}
use Rattle.wc_body.specs.declared.instr.Instr.TheVariants as instrs
use Rattle.wc_body.specs.Standard.Nested.{Code}
use Rattle.wc_body.specs.Standard.Throughout.{Throughout}
use Rattle.wc_ast.specs.declared.import.Desc.{Desc}
use Rattle.wc_ast.specs.declared.import.Desc.TheVariants as descs
use Rattle.wc_ast.specs.declared.import.Import.{Import}
use Rattle.wc_ast.specs.declared.func.Func.{Func}
use Rattle.wc_ast.specs.declared.func.Global.{Global}
use Rattle.wc_ast.specs.declared.segment.Elem.{Elem}
use Rattle.wc_ast.specs.declared.segment.Data.{Data}
use Rattle.wc_ast.specs.declared.module.Module.{Module}
use Rattle.wc_ast.specs.Standard.LocalGroups.{locals_limit}
use Rattle.wc_readback.specs.Grammar.InstructionSigns.{code_signs}

-- among so many types (3.3.5.5, 3.3.4)
abbrev pub KnownInstr : ℕ → Instr → Type 0
KnownInstr types (instrs.Simple o) = Unit {0}
KnownInstr types (instrs.Index o n) = Unit {0}
KnownInstr types (instrs.Mem o arg) = arg.align ≤ (memory o).alignment
KnownInstr types (instrs.BrTable default labels) = Unit {0}
KnownInstr types (instrs.CallIndirect n) = n < types
KnownInstr types (instrs.I32Const z) = Unit {0}
KnownInstr types (instrs.I64Const z) = Unit {0}

-- the same of the type of a block
abbrev pub KnownBlock : ℕ → BlockType → Type 0
KnownBlock types block_types.Empty = Unit {0}
KnownBlock types (block_types.Value t) = Unit {0}
KnownBlock types (block_types.Index n) = n < types

-- each instruction and each head, of which fewer than 2^32 tokens are printed
abbrev pub KnownCode : ℕ → Code Instr BlockType → Type 0
KnownCode types code = Throughout (KnownInstr types) (KnownBlock types) code × (length (code_signs code) < 2 ^ 32)

-- an imported function has one of so many types; of other imports nothing is asked
abbrev pub KnownDesc : ℕ → Desc → Type 0
KnownDesc types (descs.Func n) = n < types
KnownDesc types (descs.Table l) = Unit {0}
KnownDesc types (descs.Memory l) = Unit {0}
KnownDesc types (descs.Global g) = Unit {0}

-- the same of an import with its names
abbrev pub KnownImport : ℕ → Import → Type 0
KnownImport types i = KnownDesc types i.desc

-- no more locals are declared than may be
abbrev pub KnownFunc : ℕ → Func → Type 0
KnownFunc types f = (f.ty < types) × (length f.locals ≤ locals_limit) × KnownCode types f.body

-- a global whose first value is such code
abbrev pub KnownGlobal : ℕ → Global → Type 0
KnownGlobal types g = KnownCode types g.init

-- an element segment whose offset is
abbrev pub KnownElem : ℕ → Elem → Type 0
KnownElem types e = KnownCode types e.offset

-- a data segment whose offset is
abbrev pub KnownData : ℕ → Data → Type 0
KnownData types d = KnownCode types d.offset

-- each part
pub record Known (m : Module) : Type 0 where
  pub imports : AllByRecursion (KnownImport (length m.types)) m.imports
  pub funcs : AllByRecursion (KnownFunc (length m.types)) m.funcs
  pub globals : AllByRecursion (KnownGlobal (length m.types)) m.globals
  pub elems : AllByRecursion (KnownElem (length m.types)) m.elems
  pub datas : AllByRecursion (KnownData (length m.types)) m.datas

-- no function declares more locals than may be, as in every module that a program holds (5.5.13)
abbrev pub HasFewLocals : Module → Type 0
HasFewLocals m = AllByRecursion (λ f. length f.locals ≤ locals_limit) m.funcs
