-- The canonical bytes of the sections of a module.
use Rattle.std.proofs.Common.{ℕ, ◌<◌, List, [], ◌∷◌, ◌++◌, refl, arith}
use Rattle.wc_leb128.specs.Writing.Bytes.{unsigned_bytes}
use Rattle.wc_body.specs.Standard.ValueBytes.{Fits32}
use Rattle.wc_binary.specs.declared.parts.Parts.{Parts}
use Rattle.wc_binary.specs.declared.section.SectionKind.{SectionKind}
use Rattle.wc_binary.specs.declared.section.SectionKind.TheVariants as kinds
use Rattle.wc_binary.specs.Standard.Style.{Style, canonical}
use Rattle.wc_binary.specs.Standard.Values.{u32}
use Rattle.wc_binary.specs.Standard.Types.{func_type, limits, table_type}
use Rattle.wc_binary.specs.Standard.Externals.{import, export}
use Rattle.wc_binary.specs.Standard.Contents.{global, elem_segment, code, data_segment}
use Rattle.wc_binary.specs.Standard.Sections.{section_id, in_order, Held, behind_id, held_by}
use Rattle.wc_binary.specs.Standard.Module.{IsSection, HasFrom}
use Rattle.wc_binary.specs.Writing.Values.{func_type_bytes, import_bytes, table_type_bytes, limits_bytes, export_bytes}
use Rattle.wc_binary.specs.Writing.Values.{FitsFuncType, FitsImport, FitsLimits, FitsExport}
use Rattle.wc_binary.specs.Writing.Contents.{global_bytes, elem_bytes, code_bytes, data_bytes, FitsGlobal, FitsElem}
use Rattle.wc_binary.specs.Writing.Contents.{FitsCode, FitsData}
use Rattle.wc_binary.specs.Writing.Sections.{held_bytes, FitsHeld, bytes_from, FitsFrom, sections_bytes, FitsSections}
use Rattle.wc_binary.proofs.spelling.Judging.{Judges, HasBytes}
use Rattle.wc_binary.proofs.spelling.Phrases.{u32-writes}
use Rattle.wc_binary.proofs.spelling.Types.{func_type-writes, limits-writes, table_type-writes}
use Rattle.wc_binary.proofs.spelling.whole.Externals.{import-writes, export-writes}
use Rattle.wc_binary.proofs.spelling.whole.Contents.{global-writes, elem-writes, code-writes, data-writes}
use Rattle.wc_binary.proofs.spelling.whole.Sections.{customs-told, section-writes, start-writes}
use Rattle.wc_binary.proofs.sections.Order.{Follow, all-follow}

abbrev section : (k : SectionKind) → Style → List ℕ → Held k → Type 0
section k s b v = IsSection s k v b

-- each section alone
held-writes : (k : SectionKind) → 0 < section_id k → HasBytes (section k) (FitsHeld k) (held_bytes k)
unfolding behind_id
held-writes kinds.Custom some = absurd (omega (arith, some))
held-writes kinds.Type some = section-writes 1 func_type FitsFuncType func_type_bytes func_type-writes
held-writes kinds.Import some = section-writes 2 import FitsImport import_bytes import-writes
held-writes kinds.Function some = section-writes 3 u32 Fits32 unsigned_bytes u32-writes
held-writes kinds.Table some = section-writes 4 table_type FitsLimits table_type_bytes table_type-writes
held-writes kinds.Memory some = section-writes 5 limits FitsLimits limits_bytes limits-writes
held-writes kinds.Global some = section-writes 6 global FitsGlobal global_bytes global-writes
held-writes kinds.Export some = section-writes 7 export FitsExport export_bytes export-writes
held-writes kinds.Start some = start-writes 8
held-writes kinds.Element some = section-writes 9 elem_segment FitsElem elem_bytes elem-writes
held-writes kinds.Code some = section-writes 10 code FitsCode code_bytes code-writes
held-writes kinds.Data some = section-writes 11 data_segment FitsData data_bytes data-writes

module _ (s : Style) (V : List ℕ → List ℕ → Type 0) (j : Judges s V) (p : Parts) where
  told : (ks : List SectionKind) (last : ℕ) → Follow last ks → (b : List ℕ) → HasFrom s p ks b
      → FitsFrom p ks × V b (bytes_from p ks)
  told [] last follow b h = (tt, customs-told s V j b h)
  told (k ∷ ks) last follow b h =
      let one = (held-writes k (omega (arith, follow.0))).told s V j h.1 (held_by k p) h.5 in
      let behind = told ks (section_id k) follow.1 h.2 h.6 in
      let split = h.3 in
      let here = held_bytes k (held_by k p) in
      let rest = bytes_from p ks in (
        (one.0, behind.0),
        rw split
            (j.join h.0 (h.1 ++ h.2) [] (here ++ rest) (customs-told s V j h.0 h.4)
            (j.join h.1 h.2 here rest one.1 behind.1)),
      )

  pub sections-told : (b : List ℕ) → HasFrom s p in_order b → FitsSections p × V b (sections_bytes p)
  sections-told b h = told in_order 0 all-follow b h

module _ (p : Parts) where
  written : (ks : List SectionKind) (last : ℕ) → Follow last ks → FitsFrom p ks
      → HasFrom canonical p ks (bytes_from p ks)
  written [] last follow fits = (0, refl)
  written (k ∷ ks) last follow fits = (
    [],
    held_bytes k (held_by k p),
    bytes_from p ks,
    refl,
    (0, refl),
    (held-writes k (omega (arith, follow.0))).written (held_by k p) fits.0,
    written ks (section_id k) follow.1 fits.1,
  )

  pub sections-written : FitsSections p → HasFrom canonical p in_order (sections_bytes p)
  sections-written fits = written in_order 0 all-follow fits
