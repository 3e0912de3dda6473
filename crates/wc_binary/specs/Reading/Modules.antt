-- What the readers of sections and of a whole module answer over a source.
use Rattle.std.specs.Prelude.{◌≡◌, ◌+◌, ◌⊎◌, ℕ, IsTrue, List, length, take, Result, Ok, Err}
use Rattle.wc_ast.specs.declared.module.Module.{Module}
use Rattle.wc_binary.specs.declared.fault.BinFault.{BinFault}
use Rattle.wc_binary.specs.declared.fault.BinFault.TheVariants.{Bad, Read, Memory}
use Rattle.wc_binary.specs.declared.fault.BinWhy.TheVariants.{End}
use Rattle.wc_binary.specs.declared.section.Section.{Section}
use Rattle.wc_binary.specs.declared.parts.Parts.{Parts}
use Rattle.wc_binary.specs.Standard.Style.{free}
use Rattle.wc_binary.specs.Standard.Phrase.{halt}
use Rattle.wc_binary.specs.Standard.Sections.{nothing}
use Rattle.wc_binary.specs.Standard.Module.{Bin, StopB, AreSections, StopsSections, put_all}
use Rattle.wc_binary.specs.Standard.Decoding.{IsCutShort}
use Rattle.wc_binary.specs.Reading.Source.{Input, up_to, Stopped, ReadFailed, IsEnded}

-- sections to this place, which is the end of the bytes, or where the next byte of one is missing
abbrev pub CutsSections : ℕ → List ℕ → ℕ → Type 0
CutsSections o x at =
    ((vs : List Section) × AreSections free 0 vs x × (at ≡ o + length x)) ⊎ StopsSections 0 o x (halt at End at)

-- sections to the end, and what they tell; or where one stops
abbrev pub SectionsGive : Input → Input → Result Parts BinFault → Type 0
SectionsGive old new (Ok p) =
    Stopped old new
    × (IsTrue old.known → (vs : List Section) × AreSections free 0 vs old.left × (put_all nothing vs ≡ p)
    × (new.place ≡ old.place + length old.left))
    × IsEnded new
SectionsGive old new (Err (Bad at why)) =
    Stopped old new × (IsTrue old.known → StopsSections 0 old.place old.left (halt at why new.place))
SectionsGive old new (Err (Read at)) =
    ReadFailed old new at × (IsTrue old.known → CutsSections old.place (up_to at old) at)
SectionsGive old new (Err Memory) = Stopped old new

-- the module that the bytes spell, to the end; or where they stop
abbrev pub ModuleGives : Input → Input → Result Module BinFault → Type 0
ModuleGives old new (Ok m) =
    Stopped old new × (IsTrue old.known → Bin old.left m × (new.place ≡ length old.left)) × IsEnded new
ModuleGives old new (Err (Bad at why)) = Stopped old new × (IsTrue old.known → StopB old.left (halt at why new.place))
ModuleGives old new (Err (Read at)) =
    ReadFailed old new at × (IsTrue old.known → IsCutShort (take at old.left) at)
ModuleGives old new (Err Memory) = Stopped old new
