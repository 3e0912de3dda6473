-- Index spaces, and what stands at a place of a list that is made of two.
use Rattle.std.proofs.Common.{◌≡◌, ℕ, ◌<◌, ◌+◌, List, [], ◌∷◌, ◌++◌, length, refl, ap, ◌∙◌}
use Rattle.std.specs.List.{flat_map, slice_get}
use Rattle.std.specs.Prelude.{Some}
use Rattle.std.proofs.Common.{arith, ◌≤◌, ◌-◌, zero, suc, map, length-append}
use Rattle.std.proofs.lemmas.List.{length-map}
use Rattle.wc_ast.specs.declared.module.Module.{Module}
use Rattle.wc_ast.specs.declared.func.Func as func
use Rattle.wc_ast.specs.declared.import.Desc.{Desc}
use Rattle.wc_ast.specs.declared.import.Desc.TheVariants.{Func, Table, Memory, Global}
use Rattle.wc_check.specs.Standard.Spaces.{func_of, table_of, mem_of, imported_funcs, imported_tables, imported_mems}
use Rattle.wc_check.specs.Standard.Spaces.{func_space}
use Rattle.wc_ast.specs.declared.import.Import.{Import}

-- one import adds one at most
length-imported : {A : Type 0} (f : Desc → List A) → ((d : Desc) → length (f d) ≤ 1) → (xs : List Import)
    → length (flat_map (λ j. f j.desc) xs) ≤ length xs
length-imported f one [] = omega arith
length-imported f one (x ∷ xs) =
    let rest = length-imported f one xs in let this = one x.desc in
    omega (arith, length-append (f x.desc) (flat_map (λ j. f j.desc) xs), rest, this)

one_func : (d : Desc) → length (func_of d) ≤ 1
one_func (Func t) = omega arith
one_func (Table limits) = omega arith
one_func (Memory limits) = omega arith
one_func (Global t) = omega arith

one_table : (d : Desc) → length (table_of d) ≤ 1
one_table (Func t) = omega arith
one_table (Table limits) = omega arith
one_table (Memory limits) = omega arith
one_table (Global t) = omega arith

one_mem : (d : Desc) → length (mem_of d) ≤ 1
one_mem (Func t) = omega arith
one_mem (Table limits) = omega arith
one_mem (Memory limits) = omega arith
one_mem (Global t) = omega arith

pub few_funcs : (xs : List Import) → length (imported_funcs xs) ≤ length xs
few_funcs xs = length-imported func_of one_func xs

pub few_tables : (xs : List Import) → length (imported_tables xs) ≤ length xs
few_tables xs = length-imported table_of one_table xs

pub few_mems : (xs : List Import) → length (imported_mems xs) ≤ length xs
few_mems xs = length-imported mem_of one_mem xs

-- the index of the first function that the module defines
pub func_start : (m : Module) → length (func_space m) - length m.funcs ≡ length (imported_funcs m.imports)
func_start m = omega (
  arith,
  length-append (imported_funcs m.imports) (map (λ f. f.ty) m.funcs),
  length-map m.funcs (λ (f : func.Func). f.ty),
)

-- how many functions there are
pub func_count : (m : Module) → length (func_space m) ≡ length (imported_funcs m.imports) + length m.funcs
func_count m = omega (
  arith,
  length-append (imported_funcs m.imports) (map (λ f. f.ty) m.funcs),
  length-map m.funcs (λ (f : func.Func). f.ty),
)

pub slice_get-front : {X : Type 0} (xs ys : List X) (i : ℕ) → i < length xs → slice_get (xs ++ ys) i ≡ slice_get xs i
slice_get-front [] ys i lt = absurd (omega arith)
slice_get-front (x ∷ xs) ys zero lt = refl
slice_get-front (x ∷ xs) ys (suc i) lt = slice_get-front xs ys i (omega arith)

pub slice_get-between : {X : Type 0} (xs ys : List X) (x : X) (i : ℕ) → i ≡ length xs
    → slice_get (xs ++ x ∷ ys) i ≡ Some x
slice_get-between [] ys x zero e = refl
slice_get-between [] ys x (suc i) e = absurd (omega (arith, e))
slice_get-between (z ∷ zs) ys x zero e = absurd (omega (arith, e))
slice_get-between (z ∷ zs) ys x (suc i) e = slice_get-between zs ys x i (omega (arith, e))

pub slice_get-back : {X : Type 0} (xs ys : List X) (i : ℕ) → length xs ≤ i
    → slice_get (xs ++ ys) i ≡ slice_get ys (i - length xs)
slice_get-back [] ys i le = ap (λ k. slice_get ys k) (omega arith)
slice_get-back (x ∷ xs) ys zero le = absurd (omega arith)
slice_get-back (x ∷ xs) ys (suc i) le = slice_get-back xs ys i (omega arith) ∙ ap (λ k. slice_get ys k) (omega arith)
