-- Functions, and what two sections tell of them.
use Rattle.std.proofs.Common.{◌≡◌, ℕ, List, [], ◌∷◌, length, map, refl, sym, ap, ◌∙◌, arith}
use Rattle.std.proofs.lemmas.List.{length-map}
use Rattle.wc_ast.specs.declared.func.Func.{Func}
use Rattle.wc_ast.specs.declared.module.Module.{Module}
use Rattle.wc_ast.specs.declared.codes.FuncCode.{FuncCode}
use Rattle.wc_binary.specs.declared.parts.Parts.{Parts}
use Rattle.wc_binary.specs.Standard.Module.{type_of, code_of, parts_of}

-- functions of the same types and codes are the same
funcs-same : (fs gs : List Func) → map type_of fs ≡ map type_of gs → map code_of fs ≡ map code_of gs → fs ≡ gs
funcs-same [] [] e h = refl
funcs-same [] (g ∷ gs) e h = absurd cc
funcs-same (f ∷ fs) [] e h = absurd cc
funcs-same (f ∷ fs) (g ∷ gs) e h =
    let ty : f.ty ≡ g.ty = cc in
    let code : code_of f ≡ code_of g = cc in
    let types : map type_of fs ≡ map type_of gs = cc in
    let codes : map code_of fs ≡ map code_of gs = cc in
    let rest = funcs-same fs gs types codes in
    let made : ℕ → FuncCode → Func = λ t c. record { ty = t; locals = c.locals; body = c.body } in
    let one : f ≡ g = ap (λ (t : ℕ). made t (code_of f)) ty ∙ ap (made g.ty) code in
    cc

-- a module is known by its parts
pub module-known : (m n : Module) → parts_of m ≡ parts_of n → m ≡ n
module-known m n e =
    let with : Parts → List Func → Module = λ p fs. record {
      types = p.types;
      imports = p.imports;
      funcs = fs;
      tables = p.tables;
      mems = p.mems;
      globals = p.globals;
      exports = p.exports;
      start = p.start;
      elems = p.elems;
      datas = p.datas;
    } in
    let funcs = funcs-same m.funcs n.funcs (ap (λ (p : Parts). p.func_types) e) (ap (λ (p : Parts). p.codes) e) in
    ap (λ (p : Parts). with p m.funcs) e ∙ ap (with (parts_of n)) funcs

-- functions of these types and codes
funcs-of : (types : List ℕ) (codes : List FuncCode) → length types ≡ length codes
    → (fs : List Func) × (map type_of fs ≡ types) × (map code_of fs ≡ codes)
funcs-of [] [] e = ([], refl, refl)
funcs-of [] (c ∷ codes) e = absurd (omega arith)
funcs-of (t ∷ types) [] e = absurd (omega arith)
funcs-of (t ∷ types) (c ∷ codes) e =
    let rest = funcs-of types codes (omega arith) in (
      record { ty = t; locals = c.locals; body = c.body } ∷ rest.0,
      ap (λ (ts : List ℕ). t ∷ ts) rest.1,
      ap (λ (cs : List FuncCode). c ∷ cs) rest.2,
    )

-- parts with as many functions as codes are those of a module
pub module-of : (p : Parts) → length p.func_types ≡ length p.codes → (m : Module) × (p ≡ parts_of m)
module-of p e =
    let fs = funcs-of p.func_types p.codes e in
    let m : Module = record {
      types = p.types;
      imports = p.imports;
      funcs = fs.0;
      tables = p.tables;
      mems = p.mems;
      globals = p.globals;
      exports = p.exports;
      start = p.start;
      elems = p.elems;
      datas = p.datas;
    } in
    let with : List ℕ → List FuncCode → Parts = λ ts cs. record p { func_types = ts; codes = cs } in
    (m, sym (ap (λ (ts : List ℕ). with ts (map code_of fs.0)) fs.1 ∙ ap (with p.func_types) fs.2))

-- a module has as many functions as codes
pub counts-agree : (m : Module) → length (parts_of m).func_types ≡ length (parts_of m).codes
counts-agree m = length-map m.funcs type_of ∙ sym (length-map m.funcs code_of)
