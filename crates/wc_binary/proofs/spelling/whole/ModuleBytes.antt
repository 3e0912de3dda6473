-- The canonical bytes of a module, written out; and which modules have them.
use Rattle.std.proofs.Common.{ℕ, List, [], ◌∷◌, ◌++◌}
use Rattle.wc_ast.specs.declared.module.Module.{Module}
use Rattle.wc_binary.specs.Standard.Module.{parts_of}
use Rattle.wc_binary.specs.Writing.Sections.{sections_bytes, FitsSections}

-- the magic bytes and the version
abbrev pub preamble_bytes : List ℕ
preamble_bytes = 0x00 ∷ 0x61 ∷ 0x73 ∷ 0x6D ∷ 0x01 ∷ 0x00 ∷ 0x00 ∷ 0x00 ∷ []

-- the preamble and the sections
abbrev pub module_bytes : Module → List ℕ
module_bytes m = preamble_bytes ++ sections_bytes (parts_of m)

-- the module has canonical bytes
abbrev pub FitsModule : Module → Type 0
FitsModule m = FitsSections (parts_of m)
