-- What the kept tokens of fields say, and of a text of them.
use Rattle.std.proofs.Common.{ℕ, zero, suc, ◌≤◌, List, [], ◌∷◌, ◌++◌, Option, ◌⊎◌, inl, inr, sym, ◌∙◌, subst}
use Rattle.std.proofs.Common.{append_assoc, arith}
use Rattle.wc_ast.specs.declared.export.ExportKind.{ExportKind}
use Rattle.wc_syntax.specs.declared.kind.Kind.{Kind}
use Rattle.wc_syntax.specs.declared.kind.Kind.TheVariants as kind
use Rattle.wc_syntax.specs.declared.role.Role.TheVariants as role
use Rattle.wc_syntax.specs.Standard.Phrases.{Nonterminal, instr, foldedinstr, typeuse, param, result, export, local}
use Rattle.wc_syntax.specs.Standard.Phrases.{offset, modulefield, text, The}
use Rattle.wc_syntax.specs.Standard.Types.{functype}
use Rattle.wc_syntax.specs.Standard.Fields.{importdesc, exportkind, function, table, memory}
use Rattle.wc_syntax.specs.Standard.Fields.{global, modulefield_body, text_body}
use Rattle.wc_syntax.specs.Standard.Grammar.{body}
use Rattle.wc_syntax.specs.Standard.Deriving.{Event, numbered, Derives}
use Rattle.wc_surface.specs.Standard.Identifiers.{Identifier}
use Rattle.wc_surface.specs.Standard.Written.TypeUses.{Signature}
use Rattle.wc_surface.specs.Standard.Written.Fields.{Desc, Function, Table, Memory, Global, Field}
use Rattle.wc_parse_code.specs.Standard.Tokens.{KeptToken}
use Rattle.wc_parse_code.specs.Standard.Productions.Tokens.{Said, ◌⊳◌}
use Rattle.wc_parse_code.specs.Standard.Productions.TypeUses.{IsSignature}
use Rattle.wc_parse_code.specs.Standard.Productions.Kept.{AreKept}
use Rattle.wc_parse_code.proofs.SomeValue.Phrases.{Star, Split, Nothing, OneToken, behind, before, parts}
use Rattle.wc_parse_code.proofs.SomeValue.Phrases.{word_then, derived-are}
use Rattle.wc_parse_code.proofs.SomeValue.Rules.{id-says, index-says, signature-says, param-says, result-says}
use Rattle.wc_parse_code.proofs.SomeValue.Rules.{typeuse-says}
use Rattle.wc_parse_code.proofs.SomeValue.Instructions.{list-says, instr-says, folded-says, numbered-tokens}
use Rattle.wc_parse_field.specs.Standard.Productions.Parts.{IsKind}
use Rattle.wc_parse_field.specs.Standard.Productions.Fields.{IsDesc, IsFunction, IsTable, IsMemory, IsGlobal, IsField}
use Rattle.wc_parse_field.specs.Standard.Productions.Fields.{AreFields}
use Rattle.wc_parse_field.proofs.SomeValue.Strings.{spoken-name}
use Rattle.wc_parse_field.proofs.SomeValue.Parts.{function_nesting, global_nesting, field_nesting, Shallow}
use Rattle.wc_parse_field.proofs.SomeValue.Parts.{IsWhole, FieldRule, Are, export-says, declared-says, import-says}
use Rattle.wc_parse_field.proofs.SomeValue.Parts.{inline-says, local-says, locals-are, limits-says, global-says}
use Rattle.wc_parse_field.proofs.SomeValue.Parts.{strings-are, elements-are, target-says, offset-says}

-- these kept tokens say what some import brings
abbrev SomeDesc : List Said → Type 0
SomeDesc us = (i : Option Identifier) × (d : Desc) × IsDesc us i d

desc-says : {us : List Said} → Are importdesc us → SomeDesc us
desc-says (inl s) = word_then SomeDesc s (λ w rest e t s. parts (λ us. SomeDesc (role.Description ⊳ w ∷ us)) s
    (λ us vs i b. (_, _, IsDesc.func e (id-says role.FieldId i).1 b.1)))
desc-says (inr (inl s)) = word_then SomeDesc s (λ w rest e t s. parts (λ us. SomeDesc (role.Description ⊳ w ∷ us)) s
    (λ us vs i b. (_, _, IsDesc.table e (id-says role.FieldId i).1 (limits-says (before b)).1)))
desc-says (inr (inr (inl s))) = word_then SomeDesc s
    (λ w rest e t s. parts (λ us. SomeDesc (role.Description ⊳ w ∷ us)) s
    (λ us vs i b. (_, _, IsDesc.memory e (id-says role.FieldId i).1 (limits-says b).1)))
desc-says (inr (inr (inr s))) = word_then SomeDesc s
    (λ w rest e t s. parts (λ us. SomeDesc (role.Description ⊳ w ∷ us)) s
    (λ us vs i b. (_, _, IsDesc.global e (id-says role.FieldId i).1 (global-says b).1)))

-- what a function is given by, in which no more instructions than these are nested in one another
abbrev SomeFunction : ℕ → List Said → Type 0
SomeFunction d us = (f : Function) × IsFunction us f × (function_nesting f ≤ d)

-- the same of a global
abbrev SomeGlobal : ℕ → List Said → Type 0
SomeGlobal d us = (g : Global) × IsGlobal us g × (global_nesting g ≤ d)

function-says : (d : ℕ) {us : List Said} → Are (function d) us → SomeFunction d us
function-says d (inl s) = parts (SomeFunction d) s
    (λ us vs i u. (_, IsFunction.imported (inline-says i).1 u.1, omega arith))
function-says d (inr s) = parts (SomeFunction d) s
    (λ us rest u s. parts (λ rest. SomeFunction d (us ++ rest)) s
    (λ vs ws l c. let code = list-says d c in
    (_, simp append_assoc at (IsFunction.code u.1 (locals-are l).1 code.1), code.2)))

table-says : {us : List Said} → Are table us → (t : Table) × IsTable us t
table-says (inl s) = parts (λ us. (t : Table) × IsTable us t) s
    (λ us vs i l. (_, IsTable.imported (inline-says i).1 (limits-says (before l)).1))
table-says (inr (inl s)) = (_, IsTable.limits (limits-says (before s)).1)
table-says (inr (inr s)) = word_then (λ us. (t : Table) × IsTable us t) (behind (behind s))
    (λ w rest e t s. (_, IsTable.elements (elements-are (before s)).1))

memory-says : {us : List Said} → Are memory us → (m : Memory) × IsMemory us m
memory-says (inl s) = parts (λ us. (m : Memory) × IsMemory us m) s
    (λ us vs i l. (_, IsMemory.imported (inline-says i).1 (limits-says l).1))
memory-says (inr (inl s)) = (_, IsMemory.limits (limits-says s).1)
memory-says (inr (inr s)) = word_then (λ us. (m : Memory) × IsMemory us m) (behind s)
    (λ w rest e t s. (_, IsMemory.bytes (strings-are (before s)).1))

global-field-says : (d : ℕ) {us : List Said} → Are (global d) us → SomeGlobal d us
global-field-says d (inl s) = parts (SomeGlobal d) s
    (λ us vs i g. (_, IsGlobal.imported (inline-says i).1 (global-says g).1, omega arith))
global-field-says d (inr s) = parts (SomeGlobal d) s
    (λ us vs g c. let code = list-says d c in (_, IsGlobal.init (global-says g).1 code.1, code.2))

kind-says : (P : List Said → Type 0) {us : List Said} → Are exportkind us
    → ((w : KeptToken) (e : ExportKind) → IsKind w e → P (role.Description ⊳ w ∷ [])) → P us
kind-says P (inl (OneToken.one e t)) each = each _ _ (IsKind.func e)
kind-says P (inr (inl (OneToken.one e t))) each = each _ _ (IsKind.table e)
kind-says P (inr (inr (inl (OneToken.one e t)))) each = each _ _ (IsKind.memory e)
kind-says P (inr (inr (inr (OneToken.one e t)))) each = each _ _ (IsKind.global e)

-- ---- fields

-- what stands in a field, in which no more instructions than these are nested in one another
abbrev SomeField : ℕ → KeptToken → List Said → Type 0
SomeField d w us = (f : Field) × IsField w us f × (field_nesting f ≤ d)

-- with its end
whole : {d : ℕ} {w : KeptToken} {us end : List Said} → SomeField d w us → OneToken role.FieldEnd kind.Close end
    → IsWhole d (role.Field ⊳ w ∷ (us ++ end))
whole h (OneToken.one {w = z} e t) = IsWhole.field z h.1 h.2

-- the same of what stands in two parts
whole-two : {d : ℕ} {w : KeptToken} (us vs end : List Said) → SomeField d w (us ++ vs)
    → OneToken role.FieldEnd kind.Close end → IsWhole d (role.Field ⊳ w ∷ (us ++ (vs ++ end)))
whole-two {d = d} {w = w} us vs end h e =
    subst (λ (all : List Said). IsWhole d (role.Field ⊳ w ∷ all)) (append_assoc us vs end) (whole h e)

-- and in three
whole-three : {d : ℕ} {w : KeptToken} (us vs ws end : List Said) → SomeField d w (us ++ vs ++ ws)
    → OneToken role.FieldEnd kind.Close end → IsWhole d (role.Field ⊳ w ∷ (us ++ (vs ++ (ws ++ end))))
whole-three {d = d} {w = w} us vs ws end h e =
    subst (λ (all : List Said). IsWhole d (role.Field ⊳ w ∷ all))
    (append_assoc (us ++ vs) ws end ∙ append_assoc us vs (ws ++ end)) (whole h e)

-- the parts of a field behind its word, one, two or three of them, and its end
two-parts : {A B : List Said → Type 0} {d : ℕ} {w : KeptToken} {us : List Said}
    → Split A (Split B (OneToken role.FieldEnd kind.Close)) us
    → ((us vs : List Said) → A us → B vs → SomeField d w (us ++ vs)) → IsWhole d (role.Field ⊳ w ∷ us)
two-parts {d = d} {w = w} s says = parts (λ us. IsWhole d (role.Field ⊳ w ∷ us)) s
    (λ us rest a s. parts (λ rest. IsWhole d (role.Field ⊳ w ∷ (us ++ rest))) s
    (λ vs end b e. whole-two us vs end (says us vs a b) e))

field-says : (d : ℕ) {us : List Said} → Are (modulefield_body d) us → IsWhole d us
field-says d (inl s) = word_then (IsWhole d) (behind s)
    (λ w rest e t s. two-parts s
    (λ us vs i f. (_, IsField.type_word e (id-says role.FieldId i).1 (signature-of f).1, omega arith)))
  where
    signature-of : {us : List Said} → Are functype us → (s : Signature) × IsSignature us s
    signature-of f = signature-says (ending (behind (behind f)))
      where
        ending : {A B : List Said → Type 0} {us : List Said} → Split A (Split B Nothing) us → Split A B us
        ending s = record { front = s.front; rest = s.rest; is = s.is; first = s.first; second = before s.second }
field-says d (inr (inl s)) = word_then (IsWhole d) (behind s)
    (λ w rest e t s. parts (λ us. IsWhole d (role.Field ⊳ w ∷ us)) s
    (λ us rest m b. parts (λ rest. IsWhole d (role.Field ⊳ w ∷ (us ++ rest))) (behind b)
    (λ vs end c z.
    whole-two us vs end (_, IsField.import_word e (import-says w m).1 (desc-says c).2, omega arith) (behind z))))
field-says d (inr (inr (inl s))) = word_then (IsWhole d) (behind s)
    (λ w rest e t s. two-parts s (λ us vs a b. let f = function-says d b in
    (_, IsField.func_word e (declared-says a).1 f.1, f.2)))
field-says d (inr (inr (inr (inl s)))) = word_then (IsWhole d) (behind s)
    (λ w rest e t s. two-parts s (λ us vs a b. (
      _,
      IsField.table_word e (declared-says a).1
          (table-says b).1,
      omega arith,
    )))
field-says d (inr (inr (inr (inr (inl s))))) = word_then (IsWhole d) (behind s)
    (λ w rest e t s. two-parts s (λ us vs a b. (
      _,
      IsField.memory_word e (declared-says a).1
          (memory-says b).1,
      omega arith,
    )))
field-says d (inr (inr (inr (inr (inr (inl s)))))) = word_then (IsWhole d) (behind s)
    (λ w rest e t s. two-parts s
    (λ us vs a b. let g = global-field-says d b in
    (_, IsField.global_word e (declared-says a).1 g.1, g.2)))
field-says d (inr (inr (inr (inr (inr (inr (inl s))))))) = word_then (IsWhole d) (behind s)
    (λ w rest e t s. word_then (λ us. IsWhole d (role.Field ⊳ w ∷ us)) s
    (λ n rest f u s. parts (λ us. IsWhole d (role.Field ⊳ w ∷ (role.ExportName ⊳ n ∷ us))) (behind s)
    (λ ks rest k s. kind-says (λ ks. IsWhole d (role.Field ⊳ w ∷ (role.ExportName ⊳ n ∷ (ks ++ rest)))) k
    (λ k kind h. parts
    (λ us. IsWhole d (role.Field ⊳ w ∷ (role.ExportName ⊳ n ∷ (role.Description ⊳ k ∷ us)))) s
    (λ us end i end_is. index-says role.Target
    (λ us. IsWhole d (role.Field ⊳ w ∷ (role.ExportName ⊳ n ∷ (role.Description ⊳ k ∷ (us ++ end))))) i
    (λ v x j. whole (_, IsField.export_word e (spoken-name f u).1 h j, omega arith) (behind end_is)))))))
field-says d (inr (inr (inr (inr (inr (inr (inr (inl s)))))))) = word_then (IsWhole d) (behind s)
    (λ w rest e t s. parts (λ us. IsWhole d (role.Field ⊳ w ∷ us)) s
    (λ us end i end_is. index-says role.Target (λ us. IsWhole d (role.Field ⊳ w ∷ (us ++ end))) i
    (λ v x j. whole (_, IsField.start_word e j, omega arith) end_is)))
field-says d (inr (inr (inr (inr (inr (inr (inr (inr (inl s))))))))) = word_then (IsWhole d) (behind s)
    (λ w rest e t s. parts (λ us. IsWhole d (role.Field ⊳ w ∷ us)) s
    (λ us rest i s. parts (λ rest. IsWhole d (role.Field ⊳ w ∷ (us ++ rest))) s
    (λ vs rest o s. parts (λ rest. IsWhole d (role.Field ⊳ w ∷ (us ++ (vs ++ rest)))) (no-word s)
    (λ ws end x end_is. whole-three us vs ws end
    (_, IsField.elem_word e (target-says i).1 o.1 (elements-are x).1, o.2) end_is))))
  where
    no-word : {B : List Said → Type 0} {us : List Said} → Split (λ us. Nothing us ⊎ Nothing us) B us → B us
    no-word {B} s = parts B s dropped
      where
        dropped : (front rest : List Said) → Nothing front ⊎ Nothing front → B rest → B (front ++ rest)
        dropped front rest (inl Nothing.nothing) b = b
        dropped front rest (inr Nothing.nothing) b = b
field-says d (inr (inr (inr (inr (inr (inr (inr (inr (inr s))))))))) = word_then (IsWhole d) (behind s)
    (λ w rest e t s. parts (λ us. IsWhole d (role.Field ⊳ w ∷ us)) s
    (λ us rest i s. parts (λ rest. IsWhole d (role.Field ⊳ w ∷ (us ++ rest))) s
    (λ vs rest o s. parts (λ rest. IsWhole d (role.Field ⊳ w ∷ (us ++ (vs ++ rest)))) s
    (λ ws end x end_is. whole-three us vs ws end
    (_, IsField.data_word e (target-says i).1 o.1 (strings-are x).1, o.2) end_is))))

-- fields, in none of which are more
abbrev pub SomeFields : ℕ → List Said → Type 0
SomeFields d us = (fs : List Field) × AreFields us fs × Shallow d fs

fields-are : {d : ℕ} {us : List Said} → Star (IsWhole d) us → SomeFields d us
fields-are Star.stop = ([], AreFields.none, tt)
fields-are (Star.go {vs = vs} (IsWhole.field z {w = w} {us = us} {f = f} h e) more) =
    let others = fields-are more in (
      f ∷ others.0,
      subst (λ (all : List Said). AreFields (role.Field ⊳ w ∷ all) (f ∷ others.0))
          (sym (append_assoc us (role.FieldEnd ⊳ z ∷ []) vs)) (AreFields.more z h others.1),
      (e, others.2),
    )

text-says : (d : ℕ) {us : List Said} → Are (text_body d) us → SomeFields d us
text-says d (inl s) = parts (SomeFields d) (behind (behind s))
    (λ front rest i f. no-id front rest i (fields-are (before f)))
  where
    no-id : (front rest : List Said) → Nothing front ⊎ Nothing front → SomeFields d rest
        → SomeFields d (front ++ rest)
    no-id front rest (inl Nothing.nothing) f = f
    no-id front rest (inr Nothing.nothing) f = f
text-says d (inr s) = fields-are s

-- ---- every rule

pub rules : (n : Nonterminal) (us : List Said) → Are (body n) us → FieldRule n us
rules (instr zero) us h = instr-says zero h
rules (instr (suc d)) us h = instr-says (suc d) h
rules (foldedinstr zero) us h = folded-says zero h
rules (foldedinstr (suc d)) us h = folded-says (suc d) h
rules typeuse us h = typeuse-says h
rules param us h = param-says h
rules result us h = result-says h
rules export us h = export-says h
rules local us h = local-says h
rules (offset d) us h = offset-says d h
rules (modulefield d) us h = field-says d h
rules (text d) us h = text-says d h

-- the kept tokens of a text say some fields
pub text-say : (d n : ℕ) (ks : List Kind) (es : List Event) (us : List Said)
    → Derives (The (text d)) (numbered n ks) es → AreKept es us → SomeFields d us
text-say d n ks es us h k = derived-are FieldRule rules h (numbered-tokens n ks) us k
