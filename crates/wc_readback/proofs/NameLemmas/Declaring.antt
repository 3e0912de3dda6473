-- The declarations of a printed text: no identifiers, imports first, one start function at most.
use Rattle.std.proofs.Common.{◌≡◌, ℕ, suc, ◌≤◌, Bool, true, false, List, [], ◌∷◌, ◌++◌, length, refl, ap, ◌∙◌}
use Rattle.std.proofs.Common.{Option, Some, None, arith}
use Rattle.std.proofs.lemmas.Option.{slice_get_past}
use Rattle.std.specs.List.{AllByRecursion, flat_map}
use Rattle.wc_ops.specs.declared.val_type.ValType.{ValType}
use Rattle.wc_ast.specs.declared.limits.Limits.{Limits}
use Rattle.wc_ast.specs.declared.import.Desc.{Desc}
use Rattle.wc_ast.specs.declared.import.Desc.TheVariants as descs
use Rattle.wc_ast.specs.declared.import.Import.{Import}
use Rattle.wc_ast.specs.declared.func.Func.{Func}
use Rattle.wc_ast.specs.declared.func.Global.{Global}
use Rattle.wc_ast.specs.declared.export.Export.{Export}
use Rattle.wc_ast.specs.declared.segment.Elem.{Elem}
use Rattle.wc_ast.specs.declared.segment.Data.{Data}
use Rattle.wc_ast.specs.declared.module.Module.{Module}
use Rattle.wc_ast.specs.Standard.LocalGroups.{locals_limit}
use Rattle.wc_resolve_code.specs.declared.why.NameWhy.{NameWhy}
use Rattle.wc_spaces.specs.declared.noted.Fault.{Fault}
use Rattle.wc_surface.specs.Standard.Identifiers.{Identifier}
use Rattle.wc_surface.specs.declared.local.Local.{Local}
use Rattle.wc_surface.specs.declared.field.Field.{Field}
use Rattle.wc_surface.specs.declared.field.Field.TheVariants as field
use Rattle.wc_surface.specs.declared.field.ImportDesc.{ImportDesc}
use Rattle.wc_surface.specs.declared.field.ImportDesc.TheVariants as import
use Rattle.wc_declare.specs.declared.kind.SpaceKind.{SpaceKind}
use Rattle.wc_declare.specs.declared.kind.SpaceKind.TheVariants as kind
use Rattle.wc_declare.specs.Standard.Spaces.{brings, declares, space, repeated_after, space_faults}
use Rattle.wc_declare.specs.Standard.Order.{late_after, second_after}
use Rattle.wc_declare.specs.Standard.Inner.{local_ids, token_beyond, too_many, inner_faults}
use Rattle.wc_declare.specs.Standard.Stages.{declaration_faults}
use Rattle.wc_readback.specs.Grammar.FieldSigns.{type_signs, import_signs, func_signs, table_signs, memory_signs}
use Rattle.wc_readback.specs.Grammar.FieldSigns.{global_signs, export_signs, start_signs, elem_signs, data_signs}
use Rattle.wc_readback.specs.Fields.Surface.{type_field, import_field, func_field, table_field, memory_field}
use Rattle.wc_readback.specs.Fields.Surface.{global_field, export_field, start_field, elem_field, data_field}
use Rattle.wc_readback.specs.Fields.Surface.{locals_along, along, behind, start_along, text_fields}
use Rattle.wc_readback.specs.Names.Known.{Known, KnownFunc}
use Rattle.wc_readback.proofs.NameLemmas.Along.{over, onward, onward-start}

-- ---- no identifiers

-- no declaration has an identifier
abbrev pub NoneNamed : List (Option Identifier) → Type 0
NoneNamed [] = Unit {0}
NoneNamed (None ∷ ds) = NoneNamed ds
NoneNamed (Some id ∷ ds) = ⊥

pub none-repeated : (before : List (Option (List ℕ))) (ds : List (Option Identifier)) → NoneNamed ds
    → repeated_after before ds ≡ []
none-repeated before [] h = refl
none-repeated before (None ∷ ds) h = none-repeated (before ++ None ∷ []) ds h
none-repeated before (Some id ∷ ds) h = absurd h

none-both : (ds es : List (Option Identifier)) → NoneNamed ds → NoneNamed es → NoneNamed (ds ++ es)
none-both [] es h g = g
none-both (None ∷ ds) es h g = none-both ds es h g
none-both (Some id ∷ ds) es h g = absurd h

-- the field has no identifier of its own
abbrev HasNone : Field → Type 0
HasNone (field.FuncType f) = f.id ≡ None
HasNone (field.Import f) = f.id ≡ None
HasNone (field.Func f) = f.id ≡ None
HasNone (field.Table f) = f.id ≡ None
HasNone (field.Memory f) = f.id ≡ None
HasNone (field.Global f) = f.id ≡ None
HasNone (field.Export f) = Unit {0}
HasNone (field.Start f) = Unit {0}
HasNone (field.Elem f) = Unit {0}
HasNone (field.Data f) = Unit {0}

one-none : (id : Option Identifier) → id ≡ None → NoneNamed (id ∷ [])
one-none None h = tt
one-none (Some id) h = absurd cc

brings-none : (k : SpaceKind) (d : ImportDesc) (id : Option Identifier) → id ≡ None → NoneNamed (brings k d id)
brings-none kind.Type d id h = tt
brings-none kind.Func (import.Func u) id h = one-none id h
brings-none kind.Func (import.Table l) id h = tt
brings-none kind.Func (import.Memory l) id h = tt
brings-none kind.Func (import.Global g) id h = tt
brings-none kind.Table (import.Func u) id h = tt
brings-none kind.Table (import.Table l) id h = one-none id h
brings-none kind.Table (import.Memory l) id h = tt
brings-none kind.Table (import.Global g) id h = tt
brings-none kind.Memory (import.Func u) id h = tt
brings-none kind.Memory (import.Table l) id h = tt
brings-none kind.Memory (import.Memory l) id h = one-none id h
brings-none kind.Memory (import.Global g) id h = tt
brings-none kind.Global (import.Func u) id h = tt
brings-none kind.Global (import.Table l) id h = tt
brings-none kind.Global (import.Memory l) id h = tt
brings-none kind.Global (import.Global g) id h = one-none id h

declares-none : (k : SpaceKind) (f : Field) → HasNone f → NoneNamed (declares k f)
declares-none kind.Type (field.FuncType f) h = one-none f.id h
declares-none kind.Type (field.Import f) h = brings-none kind.Type f.desc f.id h
declares-none kind.Func (field.Import f) h = brings-none kind.Func f.desc f.id h
declares-none kind.Table (field.Import f) h = brings-none kind.Table f.desc f.id h
declares-none kind.Memory (field.Import f) h = brings-none kind.Memory f.desc f.id h
declares-none kind.Global (field.Import f) h = brings-none kind.Global f.desc f.id h
declares-none kind.Func (field.Func f) h = one-none f.id h
declares-none kind.Table (field.Table f) h = one-none f.id h
declares-none kind.Memory (field.Memory f) h = one-none f.id h
declares-none kind.Global (field.Global f) h = one-none f.id h
declares-none _ _ h = tt

pub space-none : (k : SpaceKind) (fs : List Field) → AllByRecursion HasNone fs → NoneNamed (space k fs)
space-none k [] h = tt
space-none k (f ∷ fs) h = none-both (declares k f) (space k fs) (declares-none k f h.0) (space-none k fs h.1)

abbrev NoIds : List Field → Type 0
NoIds fs = AllByRecursion HasNone fs

pub no-ids : (m : Module) → AllByRecursion HasNone (text_fields m)
no-ids m =
    over type_field type_signs NoIds (λ n x fs r. (refl, r)) m.types _ (
    over import_field import_signs NoIds (λ n x fs r. (refl, r)) m.imports _ (
    over func_field func_signs NoIds (λ n x fs r. (refl, r)) m.funcs _ (
    over table_field table_signs NoIds (λ n x fs r. (refl, r)) m.tables _ (
    over memory_field memory_signs NoIds (λ n x fs r. (refl, r)) m.mems _ (
    over global_field global_signs NoIds (λ n x fs r. (refl, r)) m.globals _ (
    over export_field export_signs NoIds (λ n x fs r. (tt, r)) m.exports _ (
    onward-start NoIds (λ n i fs r. (tt, r)) m.start _ (
    over elem_field elem_signs NoIds (λ n x fs r. (tt, r)) m.elems _ (
    over data_field data_signs NoIds (λ n x fs r. (tt, r)) m.datas _ (λ n. tt)))))))))) 2

no-space-faults : (fs : List Field) → AllByRecursion HasNone fs → space_faults fs ≡ []
no-space-faults fs h =
    let e1 = none-repeated [] (space kind.Type fs) (space-none kind.Type fs h) in
    let e2 = none-repeated [] (space kind.Func fs) (space-none kind.Func fs h) in
    let e3 = none-repeated [] (space kind.Table fs) (space-none kind.Table fs h) in
    let e4 = none-repeated [] (space kind.Memory fs) (space-none kind.Memory fs h) in
    let e5 = none-repeated [] (space kind.Global fs) (space-none kind.Global fs h) in
    rw (e1, e2, e3, e4, e5) refl

-- ---- imports first

abbrev NotLate : List Field → Type 0
NotLate fs = late_after false fs ≡ []

-- wherever it stands
abbrev NeverLate : List Field → Type 0
NeverLate fs = (seen : Bool) → late_after seen fs ≡ []

none-late : (m : Module) → late_after false (text_fields m) ≡ []
none-late m =
    over type_field type_signs NotLate (λ n x fs r. r) m.types _ (
    over import_field import_signs NotLate (λ n x fs r. r) m.imports _ (λ k.
    over func_field func_signs NeverLate func-late m.funcs _ (
    over table_field table_signs NeverLate table-late m.tables _ (
    over memory_field memory_signs NeverLate memory-late m.mems _ (
    over global_field global_signs NeverLate global-late m.globals _ (
    over export_field export_signs NeverLate export-late m.exports _ (
    onward-start NeverLate start-late m.start _ (
    over elem_field elem_signs NeverLate elem-late m.elems _ (
    over data_field data_signs NeverLate data-late m.datas _ (λ n seen. refl)))))))) k false)) 2
  where
    func-late : (n : ℕ) (x : Func) (fs : List Field) → NeverLate fs → NeverLate (func_field n x ∷ fs)
    func-late n x fs r true = r true
    func-late n x fs r false = r true

    table-late : (n : ℕ) (x : Limits) (fs : List Field) → NeverLate fs → NeverLate (table_field n x ∷ fs)
    table-late n x fs r true = r true
    table-late n x fs r false = r true

    memory-late : (n : ℕ) (x : Limits) (fs : List Field) → NeverLate fs → NeverLate (memory_field n x ∷ fs)
    memory-late n x fs r true = r true
    memory-late n x fs r false = r true

    global-late : (n : ℕ) (x : Global) (fs : List Field) → NeverLate fs → NeverLate (global_field n x ∷ fs)
    global-late n x fs r true = r true
    global-late n x fs r false = r true

    export-late : (n : ℕ) (x : Export) (fs : List Field) → NeverLate fs → NeverLate (export_field n x ∷ fs)
    export-late n x fs r true = r true
    export-late n x fs r false = r false

    start-late : (n i : ℕ) (fs : List Field) → NeverLate fs → NeverLate (start_field n i ∷ fs)
    start-late n i fs r true = r true
    start-late n i fs r false = r false

    elem-late : (n : ℕ) (x : Elem) (fs : List Field) → NeverLate fs → NeverLate (elem_field n x ∷ fs)
    elem-late n x fs r true = r true
    elem-late n x fs r false = r false

    data-late : (n : ℕ) (x : Data) (fs : List Field) → NeverLate fs → NeverLate (data_field n x ∷ fs)
    data-late n x fs r true = r true
    data-late n x fs r false = r false

-- ---- one start function at most

abbrev NotSecond : List Field → Type 0
NotSecond fs = second_after false fs ≡ []

abbrev NeverSecond : List Field → Type 0
NeverSecond fs = (seen : Bool) → second_after seen fs ≡ []

one-start : (m : Module) → second_after false (text_fields m) ≡ []
one-start m =
    over type_field type_signs NotSecond (λ n x fs r. r) m.types _ (
    over import_field import_signs NotSecond (λ n x fs r. r) m.imports _ (
    over func_field func_signs NotSecond (λ n x fs r. r) m.funcs _ (
    over table_field table_signs NotSecond (λ n x fs r. r) m.tables _ (
    over memory_field memory_signs NotSecond (λ n x fs r. r) m.mems _ (
    over global_field global_signs NotSecond (λ n x fs r. r) m.globals _ (
    over export_field export_signs NotSecond (λ n x fs r. r) m.exports _ (λ k. start m.start k))))))) 2
  where
    elem-second : (n : ℕ) (x : Elem) (fs : List Field) → NeverSecond fs → NeverSecond (elem_field n x ∷ fs)
    elem-second n x fs r true = r true
    elem-second n x fs r false = r false

    data-second : (n : ℕ) (x : Data) (fs : List Field) → NeverSecond fs → NeverSecond (data_field n x ∷ fs)
    data-second n x fs r true = r true
    data-second n x fs r false = r false

    segments : (n : ℕ) → NeverSecond (along elem_field elem_signs n m.elems (λ n.
        along data_field data_signs n m.datas (λ n. [])))
    segments n = over elem_field elem_signs NeverSecond elem-second m.elems _ (
        over data_field data_signs NeverSecond data-second m.datas _ (λ n seen. refl)) n

    start : (s : Option ℕ) (k : ℕ) → NotSecond (start_along k s (λ n. along elem_field elem_signs n m.elems (λ n.
        along data_field data_signs n m.datas (λ n. []))))
    start None k = segments k false
    start (Some i) k = segments (behind (start_signs (Some i)) k) true

-- ---- inside fields

none-local : (n : ℕ) (ts : List ValType) → NoneNamed (local_ids (locals_along n ts))
none-local n [] = tt
none-local n (t ∷ ts) = none-local (suc n) ts

pub count-along : (n : ℕ) (ts : List ValType) → length (locals_along n ts) ≡ length ts
count-along n [] = refl
count-along n (t ∷ ts) = ap suc (count-along (suc n) ts)

none-beyond : (ls : List Local) → length ls ≤ locals_limit → too_many (token_beyond ls) ≡ []
none-beyond ls h = rw slice_get_past refl

abbrev Clean : List Field → Type 0
Clean fs = flat_map inner_faults fs ≡ []

none-inside : (m : Module) → Known m → flat_map inner_faults (text_fields m) ≡ []
none-inside m h =
    over type_field type_signs Clean (λ n x fs r. r) m.types _ (
    over import_field import_signs Clean import-clean m.imports _ (
    onward func_field func_signs (KnownFunc (length m.types)) Clean func-clean m.funcs h.funcs _ (
    over table_field table_signs Clean (λ n x fs r. r) m.tables _ (
    over memory_field memory_signs Clean (λ n x fs r. r) m.mems _ (
    over global_field global_signs Clean (λ n x fs r. r) m.globals _ (
    over export_field export_signs Clean (λ n x fs r. r) m.exports _ (
    onward-start Clean (λ n i fs r. r) m.start _ (
    over elem_field elem_signs Clean (λ n x fs r. r) m.elems _ (
    over data_field data_signs Clean (λ n x fs r. r) m.datas _ (λ n. refl)))))))))) 2
  where
    import-by : (n : ℕ) (x : Import) (d : Desc) → inner_faults (import_field n (record x { desc = d })) ≡ []
    import-by n x (descs.Func i) = refl
    import-by n x (descs.Table l) = refl
    import-by n x (descs.Memory l) = refl
    import-by n x (descs.Global g) = refl

    import-clean : (n : ℕ) (x : Import) (fs : List Field) → Clean fs → Clean (import_field n x ∷ fs)
    import-clean n x fs r = ap (λ (e : List (Fault NameWhy)). e ++ flat_map inner_faults fs) (import-by n x x.desc) ∙ r

    func-clean : (n : ℕ) (x : Func) (fs : List Field) → KnownFunc (length m.types) x → Clean fs
        → Clean (func_field n x ∷ fs)
    func-clean n x fs k r =
        let at = suc (suc (suc (suc (suc (suc (suc (suc n))))))) in
        let ls = locals_along at x.locals in
        let le : length ls ≤ locals_limit = omega (arith, k.1, count-along at x.locals) in
        let e = none-repeated [] (local_ids ls) (none-local at x.locals) in
        let g = none-beyond ls le in
        rw (e, g) r

pub no-declaration-faults : (m : Module) → Known m → declaration_faults (text_fields m) ≡ []
no-declaration-faults m h =
    let e1 = no-space-faults (text_fields m) (no-ids m) in
    let e2 = none-late m in
    let e3 = one-start m in
    let e4 = none-inside m h in
    joined _ _ _ _ e1 e2 e3 e4
  where
    joined : (a b c d : List (Fault NameWhy)) → a ≡ [] → b ≡ [] → c ≡ [] → d ≡ [] → a ++ (b ++ (c ++ d)) ≡ []
    joined a b c d e1 e2 e3 e4 = rw (e1, e2, e3, e4) refl
