-- Imports and exports (Core 1.0, 5.5.5 and 5.5.10).
use Rattle.std.specs.Prelude.{ℕ, ◌==◌, Result, Ok, Err, if◌then◌else◌}
use Rattle.wc_ast.specs.declared.export.ExportKind.{ExportKind}
use Rattle.wc_ast.specs.declared.export.ExportKind.TheVariants as kinds
use Rattle.wc_ast.specs.declared.export.Export.{Export}
use Rattle.wc_ast.specs.declared.import.Desc.{Desc}
use Rattle.wc_ast.specs.declared.import.Desc.TheVariants as descs
use Rattle.wc_ast.specs.declared.import.Import.{Import}
use Rattle.wc_binary.specs.declared.fault.BinWhy.{BinWhy}
use Rattle.wc_binary.specs.declared.fault.BinWhy.TheVariants.{Tag}
use Rattle.wc_binary.specs.Standard.Phrase.{Phrase, gives, byte, ◌>>=◌}
use Rattle.wc_binary.specs.Standard.Values.{u32, name}
use Rattle.wc_binary.specs.Standard.Types.{limits, table_type, global_type}

-- which index space a byte names
abbrev pub kind_of : ℕ → Result ExportKind BinWhy
kind_of x =
    if x == 0 then Ok kinds.Func
    else (if x == 1 then Ok kinds.Table
    else (if x == 2 then Ok kinds.Memory
    else (if x == 3 then Ok kinds.Global
    else Err Tag)))

-- an index space, by its byte
unfoldable pub kind : Phrase ExportKind
kind = byte kind_of

-- what is imported into an index space
abbrev pub desc_of : ExportKind → Phrase Desc
desc_of kinds.Func = u32 >>= λ index. gives (descs.Func index)
desc_of kinds.Table = table_type >>= λ limits. gives (descs.Table limits)
desc_of kinds.Memory = limits >>= λ limits. gives (descs.Memory limits)
desc_of kinds.Global = global_type >>= λ ty. gives (descs.Global ty)

-- what is expected of an import: the index space, and then what belongs to it
unfoldable pub desc : Phrase Desc
desc = kind >>= λ k. desc_of k

-- an import: the module, the name in it, and what is expected there (5.5.5)
unfoldable pub import : Phrase Import
import = do
  m ← name
  n ← name
  d ← desc
  gives (record { «module» = m; name = n; desc = d })

-- an export: its name, the index space, and the index (5.5.10)
unfoldable pub export : Phrase Export
export = do
  n ← name
  k ← kind
  i ← u32
  gives (record { name = n; kind = k; index = i })
