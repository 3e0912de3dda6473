-- A module that has canonical bytes has numbers of the widths of their types, and its functions declare few locals.
use Rattle.std.proofs.Common.{ℕ, ◌≤◌, List, [], ◌∷◌, map, length, Option, Some, None}
use Rattle.std.specs.List.{AllByRecursion}
use Rattle.wc_leb128.specs.Writing.Bytes.{unsigned_bytes}
use Rattle.wc_body.specs.Standard.ValueBytes.{Fits32}
use Rattle.wc_ast.specs.declared.limits.Limits.{Limits}
use Rattle.wc_ast.specs.declared.import.Desc.{Desc}
use Rattle.wc_ast.specs.declared.import.Desc.TheVariants as descs
use Rattle.wc_ast.specs.declared.import.Import.{Import}
use Rattle.wc_ast.specs.declared.func.Func.{Func}
use Rattle.wc_ast.specs.declared.func.Global.{Global}
use Rattle.wc_ast.specs.declared.export.Export.{Export}
use Rattle.wc_ast.specs.declared.segment.Elem.{Elem}
use Rattle.wc_ast.specs.declared.segment.Data.{Data}
use Rattle.wc_ast.specs.declared.module.Module.{Module}
use Rattle.wc_ast.specs.Standard.LocalGroups.{locals_limit}
use Rattle.wc_binary.specs.Standard.Module.{type_of, code_of}
use Rattle.wc_binary.specs.Writing.Values as values
use Rattle.wc_binary.specs.Writing.Contents as contents
use Rattle.wc_binary.proofs.spelling.whole.ModuleBytes.{FitsModule}
use Rattle.wc_readback.specs.Grammar.Fitting.{FitsOptional, FitsLimits, FitsDesc, FitsImport, FitsFunc, FitsGlobal}
use Rattle.wc_readback.specs.Grammar.Fitting.{FitsExport, FitsElem, FitsData, Fits}
use Rattle.wc_readback.specs.Names.Known.{HasFewLocals}

-- each part of a section
held : {A : Type 0} (w : A → List ℕ) (F : A → Type 0) (vs : List A) → values.FitsSection w F vs → AllByRecursion F vs
held w F [] h = tt
held w F (v ∷ vs) h = h.1.1

each : {A : Type 0} (F G : A → Type 0) → ((v : A) → F v → G v) → (vs : List A) → AllByRecursion F vs
    → AllByRecursion G vs
each F G f [] h = tt
each F G f (v ∷ vs) h = (f v h.0, each F G f vs h.1)

fit : {A : Type 0} (w : A → List ℕ) (F G : A → Type 0) → ((v : A) → F v → G v) → (vs : List A)
    → values.FitsSection w F vs → AllByRecursion G vs
fit w F G f vs h = each F G f vs (held w F vs h)

-- ---- the parts

maximum : (n : Option ℕ) → values.FitsMaximum n → FitsOptional n
maximum None h = tt
maximum (Some n) h = h

limits : (l : Limits) → values.FitsLimits l → FitsLimits l
limits l h = (h.0, maximum l.max h.1)

desc : (d : Desc) → values.FitsDesc d → FitsDesc d
desc (descs.Func index) h = h
desc (descs.Table l) h = limits l h
desc (descs.Memory l) h = limits l h
desc (descs.Global g) h = tt

an_import : (i : Import) → values.FitsImport i → FitsImport i
an_import i h = (h.0.1, h.1.0.1, desc i.desc h.1.1)

an_export : (e : Export) → values.FitsExport e → FitsExport e
an_export e h = (h.0.1, h.1)

a_start : (n : Option ℕ) → values.FitsStart n → FitsOptional n
a_start None h = tt
a_start (Some index) h = h.1

an_elem : (e : Elem) → contents.FitsElem e → FitsElem e
an_elem e h = (h.0, h.1.0, h.1.1.1)

a_data : (d : Data) → contents.FitsData d → FitsData d
a_data d h = (h.0, h.1.0, h.1.1.1)

-- of the functions two sections tell
all_funcs : (fs : List Func) → AllByRecursion Fits32 (map type_of fs)
    → AllByRecursion contents.FitsCode (map code_of fs) → AllByRecursion FitsFunc fs
all_funcs [] h k = tt
all_funcs (f ∷ fs) h k = ((h.0, k.0.1.1), all_funcs fs h.1 k.1)

all_locals : (fs : List Func) → AllByRecursion contents.FitsCode (map code_of fs)
    → AllByRecursion (λ (f : Func). length f.locals ≤ locals_limit) fs
all_locals [] k = tt
all_locals (f ∷ fs) k = (k.0.1.0, all_locals fs k.1)

-- ---- the module

module _ (m : Module) (fits : FitsModule m) where
  codes : AllByRecursion contents.FitsCode (map code_of m.funcs)
  codes = held contents.code_bytes contents.FitsCode (map code_of m.funcs) fits.1.1.1.1.1.1.1.1.1.0

  pub fitted : Fits m
  fitted =
      let later = fits.1.1.1.1 in
      let segments = later.1.1.1.1 in
      record {
        imports = fit values.import_bytes values.FitsImport FitsImport an_import m.imports fits.1.0;
        funcs = all_funcs m.funcs (held unsigned_bytes Fits32 (map type_of m.funcs) fits.1.1.0) codes;
        tables = fit values.table_type_bytes values.FitsLimits FitsLimits limits m.tables fits.1.1.1.0;
        mems = fit values.limits_bytes values.FitsLimits FitsLimits limits m.mems later.0;
        globals = held contents.global_bytes FitsGlobal m.globals later.1.0;
        exports = fit values.export_bytes values.FitsExport FitsExport an_export m.exports later.1.1.0;
        start = a_start m.start later.1.1.1.0;
        elems = fit contents.elem_bytes contents.FitsElem FitsElem an_elem m.elems segments.0;
        datas = fit contents.data_bytes contents.FitsData FitsData a_data m.datas segments.1.1.0;
      }

  pub few-locals : HasFewLocals m
  few-locals = all_locals m.funcs codes
