-- Which bytes are a module (Core 1.0, 5.5.15), which of them canonically, and where all others stop being one.
use Rattle.std.specs.Prelude.{◌≡◌, ◌≢◌, ℕ, zero, suc, ◌+◌, ◌<◌, List, [], ◌∷◌, ◌++◌, length, map, Ok, Err, ◌⊎◌}
use Rattle.wc_ast.specs.declared.module.Module.{Module}
use Rattle.wc_ast.specs.declared.func.Func.{Func}
use Rattle.wc_ast.specs.declared.codes.FuncCode.{FuncCode}
use Rattle.wc_binary.specs.declared.parts.Parts.{Parts}
use Rattle.wc_binary.specs.declared.section.Section.{Section}
use Rattle.wc_binary.specs.declared.section.SectionKind.{SectionKind}
use Rattle.wc_binary.specs.declared.fault.BinWhy.{BinWhy}
use Rattle.wc_binary.specs.declared.fault.BinWhy.TheVariants.{Magic, Version, Counts}
use Rattle.wc_binary.specs.Standard.Style.{Style, free, canonical}
use Rattle.wc_binary.specs.Standard.Phrase.{Phrase, ◌>>=◌, SpellsBy, Spells, Halt, halt, Stops}
use Rattle.wc_binary.specs.Standard.Values.{exactly}
use Rattle.wc_binary.specs.Standard.Sections.{custom, section_id, in_order, Held, behind_id, absent, held_by}
use Rattle.wc_binary.specs.Standard.Sections.{id_of, content, after, Stands, nothing, put}

-- the magic bytes and the version
unfoldable pub preamble : Phrase (Unit {0})
preamble = exactly (0x00 ∷ 0x61 ∷ 0x73 ∷ 0x6D ∷ []) Magic >>= λ _. exactly (0x01 ∷ 0x00 ∷ 0x00 ∷ 0x00 ∷ []) Version

-- ---- a module: the preamble, and the sections in their order, to the last byte

-- so many custom sections, one after the other; a canonical spelling has none
abbrev pub AreCustoms : Style → ℕ → List ℕ → Type 0
AreCustoms s zero b = b ≡ []
AreCustoms s (suc n) b = (a c : List ℕ) × (b ≡ 0 ∷ (a ++ c)) × SpellsBy s custom a tt × s.Neat ⊥ × AreCustoms s n c

-- custom sections, however many
abbrev pub Customs : Style → List ℕ → Type 0
Customs s b = (n : ℕ) × AreCustoms s n b

-- no bytes, where there is none of it; or an id and what stands behind it, which a canonical spelling has only for
-- something
abbrev pub IsSection : Style → (k : SectionKind) → Held k → List ℕ → Type 0
IsSection s k v b =
    ((b ≡ []) × (v ≡ absent k))
    ⊎ ((a : List ℕ) × (b ≡ section_id k ∷ a) × SpellsBy s (behind_id k) a v × s.Neat (v ≢ absent k))

-- custom sections, a section, and what comes behind it
abbrev pub Then : Style → (k : SectionKind) → Held k → (List ℕ → Type 0) → List ℕ → Type 0
Then s k v Rest b = (a c d : List ℕ) × (b ≡ a ++ (c ++ d)) × Customs s a × IsSection s k v c × Rest d

-- ---- what the sections tell of a module: of its functions two tell, place by place

-- the index of its type
abbrev pub type_of : Func → ℕ
type_of f = f.ty

-- its code
abbrev pub code_of : Func → FuncCode
code_of f = record { locals = f.locals; body = f.body }

-- what each section tells
abbrev pub parts_of : Module → Parts
parts_of m = record {
  types = m.types;
  imports = m.imports;
  func_types = map type_of m.funcs;
  tables = m.tables;
  mems = m.mems;
  globals = m.globals;
  exports = m.exports;
  start = m.start;
  elems = m.elems;
  codes = map code_of m.funcs;
  datas = m.datas;
}

-- these sections in their order, each with what the parts have of it, and custom sections anywhere between
abbrev pub HasFrom : Style → Parts → List SectionKind → List ℕ → Type 0
HasFrom s p [] b = Customs s b
HasFrom s p (k ∷ ks) b = Then s k (held_by k p) (HasFrom s p ks) b

-- the preamble, and all sections
abbrev pub BinBy : Style → List ℕ → Module → Type 0
BinBy s x m = (a b : List ℕ) × (x ≡ a ++ b) × SpellsBy s preamble a tt × HasFrom s (parts_of m) in_order b

-- the bytes spell the module
abbrev pub Bin : List ℕ → Module → Type 0
Bin x m = BinBy free x m

-- the bytes spell the module canonically
abbrev pub Canon : List ℕ → Module → Type 0
Canon x m = BinBy canonical x m

-- c is b, or strictly longer
abbrev pub IsOrLonger : List ℕ → List ℕ → Type 0
IsOrLonger c b = (c ≡ b) ⊎ (length b < length c)

-- every list of bytes that spells the module is b, or strictly longer
abbrev pub IsShortestOf : List ℕ → Module → Type 0
IsShortestOf b m = (c : List ℕ) → Bin c m → IsOrLonger c b

-- ---- the same by the ids, which rise from section to section

-- sections one after the other, to the last byte, behind one of the id `last`
abbrev pub AreSections : Style → ℕ → List Section → List ℕ → Type 0
AreSections s last [] b = b ≡ []
AreSections s last (v ∷ vs) b =
    (x : ℕ) × (id : SectionKind) × (a c : List ℕ) × (b ≡ x ∷ (a ++ c)) × (id_of last x ≡ Ok id) × SpellsBy s
    (content id) a v
    × s.Neat (Stands v) × AreSections s (after last v) vs c

-- what sections put into the parts, one after the other
abbrev pub put_all : Parts → List Section → Parts
put_all p [] = p
put_all p (v ∷ vs) = put_all (put p v) vs

-- the preamble, and sections whose ids rise
abbrev pub RisesBy : Style → List ℕ → Module → Type 0
RisesBy s x m =
    (a b : List ℕ) × (vs : List Section) × (x ≡ a ++ b) × SpellsBy s preamble a tt × AreSections s 0 vs b ×
    (put_all nothing vs ≡ parts_of m)

-- ---- the first fault

-- the id of the last of these sections that isn't custom
abbrev pub reached : ℕ → List Section → ℕ
reached last [] = last
reached last (v ∷ vs) = reached (after last v) vs

-- sections, and then what is none: its id may not stand there, or its content stops
abbrev pub StopsSections : ℕ → ℕ → List ℕ → Halt → Type 0
StopsSections last o b f =
    (vs : List Section) × (a c : List ℕ) × (x : ℕ) × (b ≡ a ++ (x ∷ c)) × AreSections free last vs a
    × (((r : BinWhy) × (id_of (reached last vs) x ≡ Err r) × (f ≡ halt (o + length a) r (o + length a + 1)))
    ⊎ ((id : SectionKind) × (id_of (reached last vs) x ≡ Ok id) × Stops (content id) (o + length a + 1) c f))

-- sections to the last byte, which tell other numbers of functions and of codes
abbrev pub StopsCounts : ℕ → List ℕ → Halt → Type 0
StopsCounts o b f =
    (vs : List Section) × AreSections free 0 vs b ×
    (length (put_all nothing vs).func_types ≢ length (put_all nothing vs).codes)
    × (f ≡ halt (o + length b) Counts (o + length b))

-- reading the bytes as a module stops so
abbrev pub StopB : List ℕ → Halt → Type 0
StopB x f =
    Stops preamble 0 x f
    ⊎
    ((a b : List ℕ) × (x ≡ a ++ b) × Spells preamble a tt
    × (StopsSections 0 (length a) b f ⊎ StopsCounts (length a) b f))

-- the first fault of the bytes: its place and its reason
abbrev pub FirstFault : List ℕ → ℕ → BinWhy → Type 0
FirstFault x at why = (taken : ℕ) × StopB x (halt at why taken)
