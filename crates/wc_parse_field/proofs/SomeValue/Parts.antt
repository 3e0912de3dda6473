-- What the kept tokens of parts of fields say.
use Rattle.std.proofs.Common.{ℕ, ◌≤◌, List, [], ◌∷◌, ◌++◌, Option, None, inl, inr, refl}
use Rattle.wc_body.specs.Standard.Nested.{nesting}
use Rattle.wc_ast.specs.declared.limits.Limits.{Limits}
use Rattle.wc_ast.specs.declared.limits.GlobalType.{GlobalType}
use Rattle.wc_syntax.specs.declared.kind.Kind.TheVariants as kind
use Rattle.wc_syntax.specs.declared.role.Role.TheVariants as role
use Rattle.wc_syntax.specs.Standard.Phrases.{Nonterminal, instr, foldedinstr, typeuse, param, result, export, local}
use Rattle.wc_syntax.specs.Standard.Phrases.{offset, modulefield, text, Phrase, Keep, Maybe}
use Rattle.wc_syntax.specs.Standard.Types.{index, local_body, limits, globaltype}
use Rattle.wc_syntax.specs.Standard.Fields.{export_body, exported, import_names, import, strings, elements, offset_body}
use Rattle.wc_surface.specs.Standard.Written.Indices.{Index}
use Rattle.wc_surface.specs.Standard.Written.Fields.{Import, Local, Function, Global, Declared, Field}
use Rattle.wc_surface.specs.Standard.Written.Fields.{func_field, global_field, elem_field, data_field}
use Rattle.wc_surface.specs.Standard.Written.Instructions.{Instrs}
use Rattle.wc_parse_code.specs.Standard.Tokens.{KeptToken}
use Rattle.wc_parse_code.specs.Standard.Productions.Tokens.{Said, ◌⊳◌, IsIdentifier, IsNatural}
use Rattle.wc_parse_code.proofs.SomeValue.Phrases.{Star, Nothing, OneToken, RuleSays, AreBy, behind, before, parts}
use Rattle.wc_parse_code.proofs.SomeValue.Phrases.{alone, word_then}
use Rattle.wc_parse_code.proofs.SomeValue.Rules.{fits, id-says, index-says}
use Rattle.wc_parse_code.proofs.SomeValue.Instructions.{list-says}
use Rattle.wc_parse_field.specs.Standard.Productions.Parts.{IsName, AreStrings, AreElements, AreExports, IsDeclared}
use Rattle.wc_parse_field.specs.Standard.Productions.Parts.{IsImport, IsInlineImport, AreUnnamed, IsLocal, AreLocals}
use Rattle.wc_parse_field.specs.Standard.Productions.Parts.{AreLimits, IsGlobalType, IsOffset, IsTarget}
use Rattle.wc_parse_field.specs.Standard.Productions.Fields.{IsField, AreFields}
use Rattle.wc_parse_field.proofs.SomeValue.Strings.{spoken-string, spoken-name}

-- one inline export
pub data IsExport : List Said → Type 0 where
  one : {w : KeptToken} {name : List ℕ} → IsName w name → IsExport (role.ExportName ⊳ w ∷ [])

-- how many of its instructions are nested in one another
abbrev pub function_nesting : Function → ℕ
function_nesting (Function.imported m u) = 0
function_nesting (Function.code u ls c) = nesting c

abbrev pub global_nesting : Global → ℕ
global_nesting (Global.imported m g) = 0
global_nesting (Global.init g c) = nesting c

abbrev pub field_nesting : Field → ℕ
field_nesting (func_field token d f) = function_nesting f
field_nesting (global_field d g) = global_nesting g
field_nesting (elem_field t c xs) = nesting c
field_nesting (data_field m c bytes) = nesting c
field_nesting _ = 0

-- in none of these are more
abbrev pub Shallow : ℕ → List Field → Type 0
Shallow depth [] = Unit {0}
Shallow depth (f ∷ fs) = (field_nesting f ≤ depth) × Shallow depth fs

-- one field, with its word and its end, in which no more are
pub data IsWhole (depth : ℕ) : List Said → Type 0 where
  field : (z : KeptToken) {w : KeptToken} {us : List Said} {f : Field} → IsField w us f → field_nesting f ≤ depth
      → IsWhole depth (role.Field ⊳ w ∷ (us ++ role.FieldEnd ⊳ z ∷ []))

-- what a rule's kept tokens say
abbrev pub FieldRule : Nonterminal → List Said → Type 0
FieldRule (instr depth) us = RuleSays (instr depth) us
FieldRule (foldedinstr depth) us = RuleSays (foldedinstr depth) us
FieldRule typeuse us = RuleSays typeuse us
FieldRule param us = RuleSays param us
FieldRule result us = RuleSays result us
FieldRule export us = IsExport us
FieldRule local us = (ls : List Local) × IsLocal us ls
FieldRule (offset depth) us = (c : Instrs) × IsOffset us c × (nesting c ≤ depth)
FieldRule (modulefield depth) us = IsWhole depth us
FieldRule (text depth) us = (fs : List Field) × AreFields us fs × Shallow depth fs

-- what a phrase's kept tokens are
abbrev pub Are : Phrase → List Said → Type 0
Are g us = AreBy FieldRule g us

pub export-says : {us : List Said} → Are export_body us → IsExport us
export-says s = alone IsExport (before (behind (behind s))) (λ w e t. IsExport.one (spoken-name e t).1)

exports-are : {us : List Said} → Star IsExport us → (names : List (List ℕ)) × AreExports us names
exports-are Star.stop = ([], AreExports.none)
exports-are (Star.go (IsExport.one n) more) = (_, AreExports.more n (exports-are more).1)

pub declared-says : {us : List Said} → Are exported us → (d : Declared) × IsDeclared us d
declared-says s = parts (λ us. (d : Declared) × IsDeclared us d) s
    (λ front rest a b. (_, IsDeclared.both (id-says role.FieldId a).1 (exports-are b).1))

pub import-says : (w : KeptToken) {us : List Said} → Are import_names us → (m : Import) × IsImport w us m
import-says w s = word_then (λ us. (m : Import) × IsImport w us m) s
    (λ m rest e t i. alone (λ us. (a : Import) × IsImport w (role.ModuleName ⊳ m ∷ us) a) i
    (λ n f u. (_, IsImport.names (spoken-name e t).1 (spoken-name f u).1)))

pub inline-says : {us : List Said} → Are import us → (m : Import) × IsInlineImport us m
inline-says s = word_then (λ us. (m : Import) × IsInlineImport us m) (behind s)
    (λ w rest e t i. (_, IsInlineImport.word (import-says w (before i)).1))

unnamed-are : {us : List Said} → Star (OneToken role.LocalType kind.ValType) us → (ls : List Local) × AreUnnamed us ls
unnamed-are Star.stop = ([], AreUnnamed.none)
unnamed-are (Star.go (OneToken.one e t) more) = (_, AreUnnamed.more (fits e t).1 (unnamed-are more).1)

pub local-says : {us : List Said} → Are local_body us → (ls : List Local) × IsLocal us ls
local-says (inl s) = word_then (λ us. (ls : List Local) × IsLocal us ls) (behind (behind s))
    (λ i rest e h more. alone (λ us. (ls : List Local) × IsLocal (role.LocalId ⊳ i ∷ us) ls) (before more)
    (λ w f g. (_, IsLocal.one (IsIdentifier.bytes e) (fits f g).1)))
local-says (inr s) = (_, IsLocal.several (unnamed-are (before (behind (behind s)))).1)

pub locals-are : {us : List Said} → Star (FieldRule local) us → (ls : List Local) × AreLocals us ls
locals-are Star.stop = ([], AreLocals.none)
locals-are (Star.go h more) = (_, AreLocals.more h.1 (locals-are more).1)

limits-by : {w : KeptToken} {n : ℕ} {us : List Said} → IsNatural w n
    → Are (Maybe (Keep role.LimitsMax kind.Natural32)) us → (l : Limits) × AreLimits (role.LimitsMin ⊳ w ∷ us) l
limits-by h (inl Nothing.nothing) = (_, AreLimits.least h)
limits-by h (inr (OneToken.one e t)) =
    (_, AreLimits.both h (record { kind_is = e; value_is = (fits e t).1 }))

pub limits-says : {us : List Said} → Are limits us → (l : Limits) × AreLimits us l
limits-says s = word_then (λ us. (l : Limits) × AreLimits us l) s
    (λ w rest e t m. limits-by (record { kind_is = e; value_is = (fits e t).1 }) m)

pub global-says : {us : List Said} → Are globaltype us → (g : GlobalType) × IsGlobalType us g
global-says (inl (OneToken.one e t)) = (_, IsGlobalType.constant (fits e t).1)
global-says (inr s) = word_then (λ us. (g : GlobalType) × IsGlobalType us g) (behind s)
    (λ m rest e t v. alone (λ us. (g : GlobalType) × IsGlobalType (role.Mutable ⊳ m ∷ us) g) (before v)
    (λ w f g. (_, IsGlobalType.variable (fits f g).1)))

pub strings-are : {us : List Said} → Are strings us → (bytes : List ℕ) × AreStrings us bytes
strings-are Star.stop = ([], AreStrings.none)
strings-are (Star.go (inl (OneToken.one e t)) more) =
    (_, AreStrings.more (spoken-string e refl t).1 (strings-are more).1)
strings-are (Star.go (inr (OneToken.one e t)) more) =
    (_, AreStrings.more (spoken-string e refl t).1 (strings-are more).1)

pub elements-are : {us : List Said} → Are elements us → (xs : List Index) × AreElements us xs
elements-are Star.stop = ([], AreElements.none)
elements-are (Star.go {vs = vs} i more) =
    index-says role.Element (λ us. (xs : List Index) × AreElements (us ++ vs) xs) i
    (λ w x h. (_, AreElements.more h (elements-are more).1))

pub target-says : {us : List Said} → Are (Maybe (index role.Target)) us → (t : Option Index) × IsTarget us t
target-says (inl Nothing.nothing) = (None, IsTarget.absent)
target-says (inr i) = index-says role.Target (λ us. (t : Option Index) × IsTarget us t) i
    (λ w x h. (_, IsTarget.there h))

pub offset-says : (d : ℕ) {us : List Said} → Are (offset_body d) us
    → (c : Instrs) × IsOffset us c × (nesting c ≤ d)
offset-says d (inl s) = let c = list-says d (before (behind (behind s))) in (_, IsOffset.word c.1, c.2)
offset-says d (inr h) = (_, IsOffset.short h.1, h.2)
