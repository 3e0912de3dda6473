-- Where a module breaks no rule, its names are known.
use Rattle.std.proofs.Common.{◌≡◌, ℕ, ◌+◌, ◌<◌, ◌≤◌, nat_le, Bool, true, false, not, List, [], ◌∷◌, ◌++◌}
use Rattle.std.proofs.Common.{length, take, refl}
use Rattle.std.specs.List.{AllByRecursion}
use Rattle.std.proofs.lemmas.Bool.{leb-false, ltb-false}
use Rattle.wc_ops.specs.declared.val_type.ValType.{ValType}
use Rattle.wc_ops.specs.declared.val_type.ValType.TheVariants.{I32}
use Rattle.wc_ops.specs.Standard.Opcodes.{memory}
use Rattle.wc_body.specs.declared.instr.BlockType.{BlockType}
use Rattle.wc_body.specs.declared.instr.BlockType.TheVariants as block_types
use Rattle.wc_body.specs.declared.instr.Instr.{Instr}
use Rattle.wc_body.specs.declared.instr.Instr.TheVariants as instrs
use Rattle.wc_body.specs.Standard.Nested.{Code, empty, op, region, choice, Mark, begin_if}
use Rattle.wc_body.specs.Standard.Placed.{placed, deeper}
use Rattle.wc_body.specs.Standard.Throughout.{Throughout}
use Rattle.wc_ast.specs.declared.limits.GlobalType.{GlobalType}
use Rattle.wc_ast.specs.declared.import.Desc.{Desc}
use Rattle.wc_ast.specs.declared.import.Desc.TheVariants as descs
use Rattle.wc_ast.specs.declared.import.Import.{Import}
use Rattle.wc_ast.specs.declared.func.Func.{Func}
use Rattle.wc_ast.specs.declared.func.Global.{Global}
use Rattle.wc_ast.specs.declared.segment.Elem.{Elem}
use Rattle.wc_ast.specs.declared.segment.Data.{Data}
use Rattle.wc_ast.specs.declared.module.Module.{Module}
use Rattle.wc_ast.specs.Standard.LocalGroups.{locals_limit}
use Rattle.wc_check.specs.declared.fault.Item.{Item}
use Rattle.wc_check.specs.declared.fault.Item.TheVariants as items
use Rattle.wc_check.specs.declared.fault.CheckWhy.{CheckWhy}
use Rattle.wc_check.specs.declared.fault.CheckWhy.TheVariants as whys
use Rattle.wc_check.specs.Standard.Rules.{rule, at, each}
use Rattle.wc_check.specs.Standard.Spaces.{imported_funcs, imported_tables, imported_mems, imported_globals}
use Rattle.wc_check.specs.Standard.Spaces.{module_context, local_count}
use Rattle.wc_check.specs.Standard.SizeRules.{import_rules, broken_table, broken_mem}
use Rattle.wc_check.specs.Standard.InstructionRules.{instr_rules, mark_rules, broken_instr, broken_in_body}
use Rattle.wc_check.specs.Standard.ConstantRules.{constant_type, is_type, is_constant}
use Rattle.wc_check.specs.Standard.Broken.{broken_import, broken_func, broken_global, broken_export, broken_elem}
use Rattle.wc_check.specs.Standard.Broken.{broken_data, start_rules, broken_in_spaces, broken_at_start, broken}
use Rattle.wc_readback.specs.Names.Known.{KnownInstr, KnownBlock, KnownDesc, KnownImport, KnownFunc, KnownGlobal}
use Rattle.wc_readback.specs.Names.Known.{KnownElem, KnownData, HasFewLocals, Known}
use Rattle.wc_readback.proofs.NameLemmas.Counting.{Few, FewIn}

-- ---- lists without members

front-none : {A : Type 0} (xs ys : List A) → xs ++ ys ≡ [] → xs ≡ []
front-none [] ys e = refl
front-none (x ∷ xs) ys e = absurd cc

back-none : {A : Type 0} (xs ys : List A) → xs ++ ys ≡ [] → ys ≡ []
back-none [] ys e = e
back-none (x ∷ xs) ys e = absurd cc

at-none : (item : Item) (rules : List CheckWhy) → at item rules ≡ [] → rules ≡ []
at-none item [] e = refl
at-none item (why ∷ rules) e = absurd cc

rule-none : (why : CheckWhy) (b : Bool) → rule why b ≡ [] → b ≡ false
rule-none why false e = refl
rule-none why true e = absurd cc

not-false : (b : Bool) → not b ≡ false → b ≡ true
not-false true e = refl
not-false false e = absurd cc

each-none : {X : Type 0} (f : ℕ → X → List (Item × CheckWhy)) (F : X → Type 0) → ((n : ℕ) (x : X) → f n x ≡ [] → F x)
    → (n : ℕ) (xs : List X) → each f n xs ≡ [] → AllByRecursion F xs
each-none f F g n [] e = tt
each-none f F g n (x ∷ xs) e = (
  g n x (front-none (f n x) (each f (n + 1) xs) e),
  each-none f F g (n + 1) xs (back-none (f n x) (each f (n + 1) xs) e),
)

all-front : {A : Type 0} (F : A → Type 0) (xs ys : List A) → AllByRecursion F (xs ++ ys) → AllByRecursion F xs
all-front F [] ys h = tt
all-front F (x ∷ xs) ys h = (h.0, all-front F xs ys h.1)

all-back : {A : Type 0} (F : A → Type 0) (xs ys : List A) → AllByRecursion F (xs ++ ys) → AllByRecursion F ys
all-back F [] ys h = h
all-back F (x ∷ xs) ys h = all-back F xs ys h.1

both-all : {A : Type 0} (F G H : A → Type 0) → ((x : A) → F x → G x → H x) → (xs : List A) → AllByRecursion F xs
    → AllByRecursion G xs → AllByRecursion H xs
both-all F G H f [] h g = tt
both-all F G H f (x ∷ xs) h g = (f x h.0 g.0, both-all F G H f xs h.1 g.1)

-- ---- instructions

instr-known : (m : Module) (locals enclosing : ℕ) (i : Instr) → instr_rules (module_context m) locals enclosing i ≡ []
    → KnownInstr (length m.types) i
instr-known m locals enclosing (instrs.Simple o) e = tt
instr-known m locals enclosing (instrs.Index o n) e = tt
instr-known m locals enclosing (instrs.Mem o arg) e =
    ltb-false (memory o).alignment arg.align (rule-none whys.Align _ (back-none _ _ e))
instr-known m locals enclosing (instrs.BrTable default labels) e = tt
instr-known m locals enclosing (instrs.CallIndirect n) e =
    leb-false (length m.types) n (rule-none whys.TypeIndex _ (front-none _ _ e))
instr-known m locals enclosing (instrs.I32Const z) e = tt
instr-known m locals enclosing (instrs.I64Const z) e = tt

begin-known : (m : Module) (locals enclosing : ℕ) (t : BlockType)
    → mark_rules (module_context m) locals enclosing (begin_if t) ≡ [] → KnownBlock (length m.types) t
begin-known m locals enclosing block_types.Empty e = tt
begin-known m locals enclosing (block_types.Value t) e = tt
begin-known m locals enclosing (block_types.Index n) e = leb-false (length m.types) n (rule-none whys.TypeIndex _ e)

module _ (m : Module) (locals : ℕ) where
  abbrev Keeps : ℕ × Mark Instr BlockType → Type 0
  Keeps x = mark_rules (module_context m) locals x.0 x.1 ≡ []

  through : (d : ℕ) (x : Code Instr BlockType) → AllByRecursion Keeps (placed deeper d x)
      → Throughout (KnownInstr (length m.types)) (KnownBlock (length m.types)) x
  through d empty h = tt
  through d (op i next) h = (instr-known m locals d i h.0, through d next h.1)
  through d (region r t inside next) h =
      let one = placed deeper (d + 1) inside in
      let two = placed deeper d next in (
        begin-known m locals d t h.0,
        through (d + 1) inside (all-front Keeps one two h.1),
        through d next (all-back Keeps one two h.1),
      )
  through d (choice t first second next) h =
      let one = placed deeper (d + 1) first in
      let two = placed deeper (d + 1) second in
      let three = placed deeper d next in
      let rest = all-back Keeps one (two ++ three) h.1 in (
        begin-known m locals d t h.0,
        through (d + 1) first (all-front Keeps one (two ++ three) h.1),
        through (d + 1) second (all-front Keeps two three rest),
        through d next (all-back Keeps two three rest),
      )

  body-known : (index : ℕ) (x : Code Instr BlockType) → broken_in_body (module_context m) locals index x ≡ []
      → Throughout (KnownInstr (length m.types)) (KnownBlock (length m.types)) x
  body-known index x e =
      through 0 x (each-none (broken_instr (module_context m) locals index) Keeps
      (λ n p g. at-none (items.Instr index n) (mark_rules (module_context m) locals p.0 p.1) g) 0 (placed deeper 0 x) e)

one-known : (k : ℕ) (readable : List GlobalType) (wanted : ValType) (i : Instr)
    → is_type wanted (constant_type readable i) ≡ true → KnownInstr k i
one-known k readable wanted (instrs.Simple o) e = tt
one-known k readable wanted (instrs.Index o n) e = tt
one-known k readable wanted (instrs.Mem o arg) e = absurd cc
one-known k readable wanted (instrs.BrTable default labels) e = tt
one-known k readable wanted (instrs.CallIndirect n) e = absurd cc
one-known k readable wanted (instrs.I32Const z) e = tt
one-known k readable wanted (instrs.I64Const z) e = tt

constant-known : (k : ℕ) (readable : List GlobalType) (wanted : ValType) (x : Code Instr BlockType)
    → is_constant readable wanted x ≡ true → Throughout (KnownInstr k) (KnownBlock k) x
constant-known k readable wanted empty e = absurd cc
constant-known k readable wanted (op i empty) e = (one-known k readable wanted i e, tt)
constant-known k readable wanted (op i (op j next)) e = absurd cc
constant-known k readable wanted (op i (region r t inside next)) e = absurd cc
constant-known k readable wanted (op i (choice t one two next)) e = absurd cc
constant-known k readable wanted (region r t inside next) e = absurd cc
constant-known k readable wanted (choice t one two next) e = absurd cc

-- ---- parts of a module

abbrev Through : ℕ → Code Instr BlockType → Type 0
Through k x = Throughout (KnownInstr k) (KnownBlock k) x

desc-known : (types tables mems : ℕ) (d : Desc) → import_rules types tables mems d ≡ [] → KnownDesc types d
desc-known types tables mems (descs.Func n) e = leb-false types n (rule-none whys.TypeIndex _ e)
desc-known types tables mems (descs.Table l) e = tt
desc-known types tables mems (descs.Memory l) e = tt
desc-known types tables mems (descs.Global g) e = tt

module _ (m : Module) where
  import-known : (n : ℕ) (i : Import) → broken_import m n i ≡ [] → KnownImport (length m.types) i
  import-known n i e =
      let tables = length (imported_tables (take n m.imports)) in
      let mems = length (imported_mems (take n m.imports)) in
      desc-known (length m.types) tables mems i.desc (at-none (items.Import n) _ e)

  func-known : (n : ℕ) (f : Func) → broken_func m n f ≡ [] → (f.ty < length m.types) × Through (length m.types) f.body
  func-known n f e = (
    leb-false (length m.types) f.ty (rule-none whys.TypeIndex _ (at-none (items.Func n) _ (front-none _ _ e))),
    body-known m (local_count m f) n f.body
        (back-none (at (items.Func n) (rule whys.TypeIndex (nat_le (length m.types) f.ty))) _ e),
  )

  global-known : (n : ℕ) (g : Global) → broken_global m n g ≡ [] → Through (length m.types) g.init
  global-known n g e =
      constant-known (length m.types) (imported_globals m.imports) g.ty.ty g.init
      (not-false _ (rule-none whys.Constant _ (at-none (items.Global n) _ e)))

  elem-known : (n : ℕ) (s : Elem) → broken_elem m n s ≡ [] → Through (length m.types) s.offset
  elem-known n s e =
      constant-known (length m.types) (module_context m).globals I32 s.offset
      (not-false _ (rule-none whys.Constant _ (front-none _ _ (at-none (items.Elem n) _ e))))

  data-known : (n : ℕ) (s : Data) → broken_data m n s ≡ [] → Through (length m.types) s.offset
  data-known n s e =
      constant-known (length m.types) (module_context m).globals I32 s.offset
      (not-false _ (rule-none whys.Constant _ (front-none _ _ (at-none (items.Data n) _ e))))

  pub names-known : broken m ≡ [] → HasFewLocals m → FewIn m → Known m
  names-known e locals few =
      let k = length m.types in
      let imports = each (broken_import m) 0 m.imports in
      let funcs = each (broken_func m) (length (imported_funcs m.imports)) m.funcs in
      let tables = each broken_table (length (imported_tables m.imports)) m.tables in
      let mems = each broken_mem (length (imported_mems m.imports)) m.mems in
      let globals = each (broken_global m) (length (imported_globals m.imports)) m.globals in
      let exports = each (broken_export m) 0 m.exports in
      let elems = each (broken_elem m) 0 m.elems in
      let datas = each (broken_data m) 0 m.datas in
      let spaces : broken_in_spaces m ≡ [] = front-none (broken_in_spaces m) (exports ++ broken_at_start m) e in
      let behind = back-none (broken_in_spaces m) (exports ++ broken_at_start m) e in
      let s1 = back-none imports (funcs ++ (tables ++ (mems ++ globals))) spaces in
      let s2 = back-none funcs (tables ++ (mems ++ globals)) s1 in
      let s3 = back-none tables (mems ++ globals) s2 in
      let s4 = back-none mems globals s3 in
      let starts = at items.Start (start_rules m m.start) in
      let segments = back-none starts (elems ++ datas) (back-none exports (broken_at_start m) behind) in
      record {
        imports = each-none (broken_import m) (KnownImport k) import-known 0 m.imports
            (front-none imports (funcs ++ (tables ++ (mems ++ globals))) spaces);
        funcs = both-all (λ f. (f.ty < k) × Through k f.body) (λ f. (length f.locals ≤ locals_limit) × Few f.body)
            (KnownFunc k) (λ f h g. (h.0, g.0, (h.1, g.1))) m.funcs
            (each-none (broken_func m) (λ f. (f.ty < k) × Through k f.body) func-known _ m.funcs
            (front-none funcs (tables ++ (mems ++ globals)) s1))
            (both-all (λ f. length f.locals ≤ locals_limit) (λ f. Few f.body)
            (λ f. (length f.locals ≤ locals_limit) × Few f.body) (λ f h g. (h, g)) m.funcs locals few.funcs);
        globals = both-all (λ g. Through k g.init) (λ g. Few g.init) (KnownGlobal k) (λ g h i. (h, i)) m.globals
            (each-none (broken_global m) (λ g. Through k g.init) global-known _ m.globals s4) few.globals;
        elems = both-all (λ s. Through k s.offset) (λ s. Few s.offset) (KnownElem k) (λ s h i. (h, i)) m.elems
            (each-none (broken_elem m) (λ s. Through k s.offset) elem-known 0 m.elems (front-none elems datas segments))
            few.elems;
        datas = both-all (λ s. Through k s.offset) (λ s. Few s.offset) (KnownData k) (λ s h i. (h, i)) m.datas
            (each-none (broken_data m) (λ s. Through k s.offset) data-known 0 m.datas (back-none elems datas segments))
            few.datas;
      }
