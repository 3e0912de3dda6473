-- Rows of imports and of exports.
use Rattle.std.proofs.Common.{◌≡◌, ℕ, suc, List, [], ◌∷◌, ◌++◌, length, map, refl, ap, arith}
use Rattle.wc_ast.specs.declared.import.Desc.{Desc}
use Rattle.wc_ast.specs.declared.import.Import.{Import}
use Rattle.wc_ast.specs.declared.export.Export.{Export}
use Rattle.wc_ast.specs.declared.exports.Exported.{Exported}
use Rattle.wc_ast.specs.Standard.Externals.{import, desc_of, export}
use Rattle.wc_ast.specs.Kept.ExternalRow.{imports_of, AreImports, exports_of}

-- there is an import for each description
pub imports-count : (ns : List (List ℕ)) (ds : List Desc) → AreImports ns ds → length (imports_of ns ds) ≡ length ds
imports-count [] [] are = refl
imports-count [] (d ∷ ds) are = absurd (omega (arith, are))
imports-count (m ∷ []) [] are = refl
imports-count (m ∷ []) (d ∷ ds) are = absurd (omega (arith, are))
imports-count (m ∷ n ∷ ns) [] are = refl
imports-count (m ∷ n ∷ ns) (d ∷ ds) are = ap (λ k. suc k) (imports-count ns ds (omega (arith, are)))

-- what as many imports bring
pub descs-back : (ns : List (List ℕ)) (ds : List Desc) → AreImports ns ds → map desc_of (imports_of ns ds) ≡ ds
descs-back [] [] are = refl
descs-back [] (d ∷ ds) are = absurd (omega (arith, are))
descs-back (m ∷ []) [] are = refl
descs-back (m ∷ []) (d ∷ ds) are = absurd (omega (arith, are))
descs-back (m ∷ n ∷ ns) [] are = refl
descs-back (m ∷ n ∷ ns) (d ∷ ds) are =
    ap (λ (xs : List Desc). d ∷ xs) (descs-back ns ds (omega (arith, are)))

-- one more import
pub import-pushed : (ns : List (List ℕ)) (ds : List Desc) (m n : List ℕ) (d : Desc) → AreImports ns ds
    → imports_of (ns ++ m ∷ n ∷ []) (ds ++ d ∷ []) ≡ imports_of ns ds ++ import m n d ∷ []
import-pushed [] [] m n d are = refl
import-pushed [] (e ∷ ds) m n d are = absurd (omega (arith, are))
import-pushed (k ∷ []) [] m n d are = absurd (omega (arith, are))
import-pushed (k ∷ []) (e ∷ ds) m n d are = absurd (omega (arith, are))
import-pushed (k ∷ l ∷ ns) [] m n d are = absurd (omega (arith, are))
import-pushed (k ∷ l ∷ ns) (e ∷ ds) m n d are =
    ap (λ (xs : List Import). import k l e ∷ xs) (import-pushed ns ds m n d (omega (arith, are)))

-- there is an export for each name
pub exports-count : (ns : List (List ℕ)) (es : List Exported) → length ns ≡ length es
    → length (exports_of ns es) ≡ length es
exports-count [] [] same = refl
exports-count [] (e ∷ es) same = absurd (omega arith)
exports-count (n ∷ ns) [] same = refl
exports-count (n ∷ ns) (e ∷ es) same = ap (λ k. suc k) (exports-count ns es (omega arith))

-- one more export
pub export-pushed : (ns : List (List ℕ)) (es : List Exported) (n : List ℕ) (e : Exported) → length ns ≡ length es
    → exports_of (ns ++ n ∷ []) (es ++ e ∷ []) ≡ exports_of ns es ++ export n e.kind e.index ∷ []
export-pushed [] [] n e same = refl
export-pushed [] (f ∷ es) n e same = absurd (omega arith)
export-pushed (m ∷ ns) [] n e same = absurd (omega arith)
export-pushed (m ∷ ns) (f ∷ es) n e same =
    ap (λ (xs : List Export). export m f.kind f.index ∷ xs) (export-pushed ns es n e (omega arith))
