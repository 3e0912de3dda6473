-- A text has no more tokens than bytes, and the instructions of a body are some of its tokens.
use Rattle.std.proofs.Common.{◌≡◌, ℕ, ◌<◌, ◌≤◌, ◌^◌, true, List, [], ◌∷◌, ◌++◌, length, map, ap, arith}
use Rattle.std.proofs.Common.{ℤ, pos, negsuc, length-append}
use Rattle.std.specs.List.{AllByRecursion, flat_map}
use Rattle.std.specs.Fmt.{decimal, signed_decimal}
use Rattle.std.proofs.lemmas.Fmt.{decimal_nonempty}
use Rattle.std.proofs.lemmas.List.{length-map}
use lib.Signed.{mag}
use Rattle.wc_tokens.specs.Standard.Lexemes.{longest}
use Rattle.wc_body.specs.declared.instr.BlockType.{BlockType}
use Rattle.wc_body.specs.declared.instr.Instr.{Instr}
use Rattle.wc_body.specs.Standard.Nested.{Code}
use Rattle.wc_ast.specs.declared.func.Func.{Func}
use Rattle.wc_ast.specs.declared.func.Global.{Global}
use Rattle.wc_ast.specs.declared.segment.Elem.{Elem}
use Rattle.wc_ast.specs.declared.segment.Data.{Data}
use Rattle.wc_ast.specs.declared.module.Module.{Module}
use Rattle.wc_syntax.specs.declared.kind.Kind.TheVariants as kind
use Rattle.wc_syntax.specs.declared.role.Role.TheVariants as role
use Rattle.wc_print.specs.Standard.Printed.{Printed, opening, closing, word, number, integer, part, quoted, Item}
use Rattle.wc_print.specs.Standard.Printed.{gap_of, token_of, spelled, text}
use Rattle.wc_print.specs.Standard.Printable.{is_word, IsSpelled, AreSpelled, IsPrintable}
use Rattle.wc_print.specs.Standard.Layout.{layout}
use Rattle.wc_readback.specs.Grammar.Signs.{Sign, closes, ends, string}
use Rattle.wc_readback.specs.Grammar.InstructionSigns.{values_signs, type_use_signs, code_signs, naturals}
use Rattle.wc_readback.specs.Grammar.FieldSigns.{type_signs, import_signs, globaltype_signs, func_signs, function_signs}
use Rattle.wc_readback.specs.Grammar.FieldSigns.{table_signs, memory_signs, global_signs, export_signs, start_signs}
use Rattle.wc_readback.specs.Grammar.FieldSigns.{place_signs, elem_signs, data_signs, field_signs, signs}
use Rattle.wc_readback.proofs.GrammarLemmas.Same.{tokens_of, whole}

-- ---- no more tokens than bytes

word-some : (w : List ℕ) → is_word w ≡ true → 0 < length w
word-some [] h = absurd cc
word-some (c ∷ w) h = omega arith

integer-some : (z : ℤ) → mag z < 2 ^ 63 → 0 < length (signed_decimal z)
integer-some (pos n) h = decimal_nonempty n (omega (arith, h))
integer-some (negsuc n) h = omega arith

spelled-some : (p : Printed) → IsSpelled p → 0 < length (spelled p)
spelled-some opening h = omega arith
spelled-some closing h = omega arith
spelled-some (word w) h = word-some w h
spelled-some (number n) h = decimal_nonempty n h
spelled-some (integer z) h = integer-some z h
spelled-some (part w n) h =
    let l = length-append w (decimal n) in
    let s = word-some w h.0 in
    omega (arith, l, s)
spelled-some (quoted bytes) h = omega arith

items-few : (is : List Item) → AreSpelled is → length is ≤ length (text is)
items-few [] h = omega arith
items-few (i ∷ is) h =
    let s = spelled-some (token_of i) h.0 in
    let r = items-few is h.1 in
    let l = length-append (gap_of i) (spelled (token_of i) ++ text is) in
    let k = length-append (spelled (token_of i)) (text is) in
    omega (arith, s, r, l, k)

pub signs-few : (m : Module) → IsPrintable (layout m) → length (text (layout m)) ≤ longest → length (signs m) < 2 ^ 32
signs-few m h le =
    let few = items-few (layout m) h.spelled in
    let a : length (map token_of (layout m)) ≡ length (layout m) = length-map (layout m) token_of in
    let b : length (tokens_of (signs m)) ≡ length (signs m) = length-map (signs m) (λ (s : Sign). s.token) in
    let e : length (map token_of (layout m)) ≡ length (tokens_of (signs m)) = ap length (whole m).same in
    omega (arith, few, a, b, e, le)

-- ---- parts of a text have no more tokens

left-few : (xs ys : List Sign) (n : ℕ) → length (xs ++ ys) ≤ n → length xs ≤ n
left-few xs ys n h = omega (arith, length-append xs ys, h)

right-few : (xs ys : List Sign) (n : ℕ) → length (xs ++ ys) ≤ n → length ys ≤ n
right-few xs ys n h = omega (arith, length-append xs ys, h)

-- each member of a list
each-few : {A : Type 0} (w : A → List Sign) (F : A → Type 0) (n : ℕ) → ((x : A) → length (w x) ≤ n → F x)
    → (xs : List A)
    → length (flat_map w xs) ≤ n → AllByRecursion F xs
each-few w F n f [] h = tt
each-few w F n f (x ∷ xs) h =
    (f x (left-few (w x) (flat_map w xs) n h), each-few w F n f xs (right-few (w x) (flat_map w xs) n h))

abbrev pub Few : Code Instr BlockType → Type 0
Few code = length (code_signs code) < 2 ^ 32

module _ (n : ℕ) (lt : n < 2 ^ 32) where
  func-few : (f : Func) → length (func_signs f) ≤ n → Few f.body
  func-few f h =
      let a = length-append (function_signs f) (ends ∷ []) in
      let ls = values_signs kind.LocalWord role.LocalType f.locals in
      let b = length-append (type_use_signs f.ty) (ls ++ code_signs f.body) in
      let c = length-append ls (code_signs f.body) in
      omega (arith, a, b, c, h, lt)

  global-few : (g : Global) → length (global_signs g) ≤ n → Few g.init
  global-few g h =
      let ts = globaltype_signs g.ty.mutable g.ty.ty in
      let a = length-append (ts ++ code_signs g.init) (ends ∷ []) in
      let b = length-append ts (code_signs g.init) in
      omega (arith, a, b, h, lt)

  elem-few : (e : Elem) → length (elem_signs e) ≤ n → Few e.offset
  elem-few e h =
      let a = length-append (place_signs e.offset) (naturals role.Element e.funcs ++ (ends ∷ [])) in
      let b = length-append (code_signs e.offset) (closes ∷ []) in
      omega (arith, a, b, h, lt)

  data-few : (d : Data) → length (data_signs d) ≤ n → Few d.offset
  data-few d h =
      let a = length-append (place_signs d.offset) (string role.Bytes d.bytes ∷ ends ∷ []) in
      let b = length-append (code_signs d.offset) (closes ∷ []) in
      omega (arith, a, b, h, lt)

-- the instructions of each body
pub record FewIn (m : Module) : Type 0 where
  pub funcs : AllByRecursion (λ f. Few f.body) m.funcs
  pub globals : AllByRecursion (λ g. Few g.init) m.globals
  pub elems : AllByRecursion (λ e. Few e.offset) m.elems
  pub datas : AllByRecursion (λ d. Few d.offset) m.datas

pub bodies-few : (m : Module) → length (signs m) < 2 ^ 32 → FewIn m
bodies-few m lt =
    let n = length (signs m) in
    let s0 : length (field_signs m) ≤ n = omega (arith, length-append (field_signs m) (closes ∷ [])) in
    let s1 = right-few (flat_map type_signs m.types) _ n s0 in
    let s2 = right-few (flat_map import_signs m.imports) _ n s1 in
    let s3 = right-few (flat_map func_signs m.funcs) _ n s2 in
    let s4 = right-few (flat_map table_signs m.tables) _ n s3 in
    let s5 = right-few (flat_map memory_signs m.mems) _ n s4 in
    let s6 = right-few (flat_map global_signs m.globals) _ n s5 in
    let s7 = right-few (flat_map export_signs m.exports) _ n s6 in
    let s8 = right-few (start_signs m.start) _ n s7 in
    record {
      funcs = each-few func_signs (λ f. Few f.body) n (func-few n lt) m.funcs
          (left-few (flat_map func_signs m.funcs) _ n s2);
      globals = each-few global_signs (λ g. Few g.init) n (global-few n lt) m.globals
          (left-few (flat_map global_signs m.globals) _ n s5);
      elems = each-few elem_signs (λ e. Few e.offset) n (elem-few n lt) m.elems
          (left-few (flat_map elem_signs m.elems) (flat_map data_signs m.datas) n s8);
      datas = each-few data_signs (λ d. Few d.offset) n (data-few n lt) m.datas
          (right-few (flat_map elem_signs m.elems) (flat_map data_signs m.datas) n s8);
    }
