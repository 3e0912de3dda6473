-- Imports, and functions that are one.
use Rattle.std.proofs.Common.{List, [], ◌∷◌, Some, None, refl, codes, lit≤}
use Rattle.wc_tokens.specs.Standard.Lexemes.{is_idchar}
use Rattle.wc_ops.specs.declared.val_type.ValType.TheVariants.{I64}
use Rattle.wc_body.specs.Standard.Nested.{Code}
use Rattle.wc_syntax.specs.declared.role.Role.TheVariants as role
use Rattle.wc_syntax.specs.Standard.Deriving.{then, left, right, none, more, rule}
use Rattle.wc_surface.specs.Standard.Identifiers.{identifier}
use Rattle.wc_surface.specs.Standard.Written.Fields.{Desc, Function, import_field, func_field}
use Rattle.wc_parse_code.specs.Standard.Productions.Tokens.{IsIdentifier, IsId}
use Rattle.wc_parse_code.specs.Standard.Productions.TypeUses.{AreTypes, param, IsParam, AreParams, AreResults}
use Rattle.wc_parse_code.specs.Standard.Productions.TypeUses.{signature, IsSignature, type_use, IsTypeUse}
use Rattle.wc_parse_code.specs.Standard.Productions.Instructions.{Says}
use Rattle.wc_parse_field.specs.Standard.Productions.Parts.{AreExports, IsDeclared, IsImport, IsInlineImport, AreLocals}
use Rattle.wc_parse_field.specs.Standard.Productions.Fields.{IsDesc, IsFunction, IsField, AreFields}
use Rattle.wc_parse.proofs.Examples.Rows.Lexed.Tokens.{Placed, near, near_as, next, next_as}
use Rattle.wc_parse.proofs.Examples.Rows.Lexed.Reading.{Reads, reads}
use Rattle.wc_parse.proofs.Examples.Rows.Lexed.Words.{lp, rp, id_word, i64_word, func_word, import_word, export_word}
use Rattle.wc_parse.proofs.Examples.Rows.Lexed.Words.{param_word, kept}
use Rattle.wc_parse.proofs.Examples.Rows.Lexed.Strings.{a_word, a_is_name, b_word, b_is_name, f_word, f_is_name, m_word}
use Rattle.wc_parse.proofs.Examples.Rows.Lexed.Strings.{m_is_name, n_word, n_is_name}
use Rattle.wc_parse.proofs.Examples.Rows.Parts.Absent.{undeclared, plainly, no_type_use}
use Rattle.wc_parse.proofs.Examples.Rows.Lexed.Grammar.{skip, keep, absent, no_use, no_export, fields, an_import}
use Rattle.wc_parse.proofs.Examples.Rows.Lexed.Grammar.{a_func, params}

-- `(func $f (export "a") (export "b") (import "m" "n") (param i64))`
abbrev exported_import_tokens : List Placed
exported_import_tokens =
    near lp ∷ near_as role.Field func_word ∷ next_as role.FieldId (id_word (codes "$f")) ∷ next lp ∷ near export_word
    ∷ next_as role.ExportName a_word ∷ near rp ∷ next lp ∷ near export_word ∷ next_as role.ExportName b_word ∷ near rp
    ∷ next lp ∷ near_as role.ImportWord import_word ∷ next_as role.ModuleName m_word ∷ next_as role.ItemName n_word
    ∷ near rp ∷ next lp ∷ near param_word ∷ next_as role.ParamType i64_word ∷ near rp ∷ near_as role.FieldEnd rp ∷ []

exported_import : Reads (codes "(func $f (export \"a\") (export \"b\") (import \"m\" \"n\") (param i64))")
    (func_field 1 (record { id = Some (identifier 2 (codes "$f")); exports = codes "a" ∷ codes "b" ∷ [] })
    (Function.imported (record { token = 12; «module» = codes "m"; item = codes "n" })
    (type_use None (signature (param None I64 ∷ []) []))) ∷ [])
unfolding is_idchar
exported_import = reads exported_import_tokens refl (lit≤ tt)
    (fields (more (a_func (then skip (then keep (then (then (right keep)
    (more (rule (then skip (then skip (then keep skip)))) (more (rule (then skip (then skip (then keep skip)))) none)))
    (then (left (then (then skip (then keep (then (then keep keep) skip)))
    (rule (then absent (then (more (params (then skip (then skip (then (more keep none) skip)))) none) none)))))
    keep))))) none))
    (AreFields.more (kept rp 20) (IsField.func_word refl (IsDeclared.both (IsId.there (IsIdentifier.bytes refl))
    (AreExports.more a_is_name (AreExports.more b_is_name AreExports.none)))
    (IsFunction.imported (IsInlineImport.word (IsImport.names m_is_name n_is_name))
    (IsTypeUse.inline (IsSignature.both
    (AreParams.more (IsParam.several (AreTypes.more refl AreTypes.none)) AreParams.none) AreResults.none))))
    AreFields.none)

-- `(func) (import "m" "f" (func))`: that it stands behind one is judged later
abbrev import_behind_a_function_tokens : List Placed
import_behind_a_function_tokens =
    near lp ∷ near_as role.Field func_word ∷ near_as role.FieldEnd rp ∷ next lp ∷ near_as role.Field import_word
    ∷ next_as role.ModuleName m_word ∷ next_as role.ItemName f_word ∷ next lp ∷ near_as role.Description func_word
    ∷ near rp ∷ near_as role.FieldEnd rp ∷ []

import_behind_a_function : Reads (codes "(func) (import \"m\" \"f\" (func))")
    (func_field 1 undeclared (Function.code (type_use None (signature [] [])) [] Code.empty)
    ∷ import_field (record { token = 4; «module» = codes "m"; item = codes "f" }) None
    (Desc.func (type_use None (signature [] []))) ∷ [])
unfolding is_idchar
import_behind_a_function = reads import_behind_a_function_tokens refl (lit≤ tt)
    (fields (more (a_func (then skip (then keep (then no_export (then (right (then no_use (then none none))) keep)))))
    (more (an_import (then skip
    (then keep (then (then keep keep) (then skip (then (left (then keep (then absent no_use))) (then skip keep)))))))
    none)))
    (AreFields.more (kept rp 2) (IsField.func_word refl plainly (IsFunction.code no_type_use AreLocals.none Says.none))
    (AreFields.more (kept rp 10)
    (IsField.import_word refl (IsImport.names m_is_name f_is_name) (IsDesc.func refl IsId.absent no_type_use))
    AreFields.none))
