-- Each part of a field has one value.
use Rattle.std.proofs.Common.{◌≡◌, ℕ, List, [], ◌∷◌, ◌++◌, true, false, Option, Some, None, refl, sym, ap, ◌∙◌}
use Rattle.wc_ops.specs.declared.val_type.ValType.{ValType as ValueType}
use Rattle.wc_ast.specs.declared.limits.Limits.{Limits}
use Rattle.wc_ast.specs.declared.limits.GlobalType.{GlobalType}
use Rattle.wc_ast.specs.declared.export.ExportKind.{ExportKind}
use Rattle.wc_ast.specs.declared.export.ExportKind.TheVariants as export
use Rattle.wc_syntax.specs.declared.kind.Kind.{Kind}
use Rattle.wc_syntax.specs.declared.kind.Kind.TheVariants as kind
use Rattle.wc_syntax.specs.declared.role.Role.{Role}
use Rattle.wc_syntax.specs.declared.role.Role.TheVariants as role
use Rattle.wc_symbols.specs.declared.symbol.Value.TheVariants.{Number}
use Rattle.wc_symbols.proofs.Spelling.StringLemmas.{IsString-same}
use Rattle.wc_surface.specs.Standard.Identifiers.{Identifier, identifier}
use Rattle.wc_surface.specs.Standard.Written.Indices.{Index}
use Rattle.wc_surface.specs.Standard.Written.TypeUses.{Signature, TypeUse}
use Rattle.wc_surface.specs.Standard.Written.Instructions.{Instrs}
use Rattle.wc_surface.specs.Standard.Written.Fields.{Import, Local, Declared}
use Rattle.wc_parse_code.specs.Standard.Tokens.{KeptToken}
use Rattle.wc_parse_code.specs.Standard.Productions.Tokens.{Said, ◌⊳◌, bytes, IsId, IsNatural, IsValueType}
use Rattle.wc_parse_code.specs.Standard.Productions.TypeUses.{IsSignature, IsTypeUse}
use Rattle.wc_parse_code.proofs.OneValue.Parts.{same-index, type_of, read-type, same-use}
use Rattle.wc_parse_code.proofs.OneValue.Same.{same-id, one_value}
use Rattle.wc_parse_field.specs.Standard.Productions.Parts.{IsName, AreStrings, AreElements, AreExports, IsDeclared}
use Rattle.wc_parse_field.specs.Standard.Productions.Parts.{IsImport, IsInlineImport, local_at, AreUnnamed, IsLocal}
use Rattle.wc_parse_field.specs.Standard.Productions.Parts.{AreLocals, AreLimits, IsGlobalType, IsKind, IsOffset}
use Rattle.wc_parse_field.specs.Standard.Productions.Parts.{IsTarget}
use Rattle.wc_parse_field.proofs.OneValue.Cutting.{Cut, cut, at-before, at-starts}
use Rattle.wc_parse_field.proofs.OneValue.Places.{id-at, exports-at, offset-part}

-- ---- strings and names

pub same-name : {w : KeptToken} {n m : List ℕ} → IsName w n → IsName w m → n ≡ m
same-name a b = IsString-same a.string b.string

pub same-strings : {us : List Said} {v w : List ℕ} → AreStrings us v → AreStrings us w → v ≡ w
same-strings AreStrings.none AreStrings.none = refl
same-strings (AreStrings.more s a) (AreStrings.more t b) = cc (IsString-same s t, same-strings a b)

same-exports : {us : List Said} {ns ms : List (List ℕ)} → AreExports us ns → AreExports us ms → ns ≡ ms
same-exports AreExports.none AreExports.none = refl
same-exports (AreExports.more n a) (AreExports.more m b) = cc (same-name n m, same-exports a b)

pub same-import : {w : KeptToken} {us : List Said} {a b : Import} → IsImport w us a → IsImport w us b → a ≡ b
same-import {w = w} (IsImport.names m i) (IsImport.names n j) = one-import w (same-name m n) (same-name i j)
  where
    one-import : (w : KeptToken) {m n i j : List ℕ} → m ≡ n → i ≡ j
        → ◌≡◌ {A = Import} (record { token = w.token; «module» = m; item = i })
        (record { token = w.token; «module» = n; item = j })
    one-import w e f = cc

pub same-inline : {us : List Said} {a b : Import} → IsInlineImport us a → IsInlineImport us b → a ≡ b
same-inline (IsInlineImport.word m) (IsInlineImport.word n) = same-import m n

-- ---- what a field declares

-- its identifier, and its inline exports behind it
declared-cut : {us : List Said} {d : Declared} → IsDeclared us d
    → Cut 1 (λ us. IsId role.FieldId us d.id) (λ us. AreExports us d.exports) us
declared-cut (IsDeclared.both i names) =
    cut (at-before 1 refl (id-at refl i)) (at-starts refl (exports-at names)) i names

pub same-declared : {us : List Said} {d e : Declared} → IsDeclared us d → IsDeclared us e → d ≡ e
same-declared a b =
    let x = declared-cut a in
    let y = declared-cut b in
    one-declared (same-id x.first y.first) (same-exports x.second y.second)
  where
    one-declared : {d e : Declared} → d.id ≡ e.id → d.exports ≡ e.exports → d ≡ e
    one-declared {d} {e} f g = ap (λ (i : Option Identifier). record d { id = i }) f
        ∙ ap (λ (names : List (List ℕ)). record e { exports = names }) g

-- ---- types

pub same-signature : {us : List Said} {s t : Signature} → IsSignature us s → IsSignature us t → s ≡ t
same-signature a b = ap (λ (u : TypeUse). u.signature) (same-use (IsTypeUse.inline a) (IsTypeUse.inline b))

same-natural : {w : KeptToken} {n m : ℕ} → IsNatural w n → IsNatural w m → n ≡ m
same-natural a b = the-number (sym a.value_is ∙ b.value_is)
  where
    the-number : {n m : ℕ} → Number n ≡ Number m → n ≡ m
    the-number e = cc

pub same-limits : {us : List Said} {l m : Limits} → AreLimits us l → AreLimits us m → l ≡ m
same-limits (AreLimits.least n) (AreLimits.least m) = cc (same-natural n m)
same-limits (AreLimits.both n x) (AreLimits.both m y) = cc (same-natural n m, same-natural x y)

same-type : (w : KeptToken) {t u : ValueType} → IsValueType w t → IsValueType w u → t ≡ u
same-type w a b = sym (read-type w a) ∙ read-type w b

pub same-global : {us : List Said} {g h : GlobalType} → IsGlobalType us g → IsGlobalType us h → g ≡ h
same-global (IsGlobalType.constant {w = w} t) (IsGlobalType.constant u) =
    ap (λ (t : ValueType). record { ty = t; mutable = false }) (same-type w t u)
same-global (IsGlobalType.variable {w = w} t) (IsGlobalType.variable u) =
    ap (λ (t : ValueType). record { ty = t; mutable = true }) (same-type w t u)

-- what a word is that says what is lent
abbrev kind_by : Kind → ExportKind
kind_by kind.TableWord = export.Table
kind_by kind.MemoryWord = export.Memory
kind_by kind.GlobalWord = export.Global
kind_by _ = export.Func

read-kind : {w : KeptToken} {e : ExportKind} → IsKind w e → kind_by w.symbol.kind ≡ e
read-kind (IsKind.func e) = ap kind_by e
read-kind (IsKind.table e) = ap kind_by e
read-kind (IsKind.memory e) = ap kind_by e
read-kind (IsKind.global e) = ap kind_by e

pub same-kind : {w : KeptToken} {e f : ExportKind} → IsKind w e → IsKind w f → e ≡ f
same-kind a b = sym (read-kind a) ∙ read-kind b

-- ---- locals, read from the last token on

-- the first of these locals has this identifier
abbrev first_named : Identifier → List Local → List Local
first_named i [] = []
first_named i (l ∷ ls) = record l { id = Some i } ∷ ls

-- a kept token in front of what is read
abbrev in_front : Role → KeptToken → List Local → List Local
in_front role.LocalId w ls = first_named (identifier w.token w.text) ls
in_front role.LocalType w ls = local_at None (type_of w) w ∷ ls
in_front _ w ls = ls

-- the locals that kept tokens say
abbrev read_locals : List Said → List Local
read_locals [] = []
read_locals (r ⊳ w ∷ us) = in_front r w (read_locals us)

unnamed-reads : {us : List Said} {ls : List Local} → AreUnnamed us ls → (xs : List Said)
    → read_locals (us ++ xs) ≡ ls ++ read_locals xs
unnamed-reads AreUnnamed.none xs = refl
unnamed-reads (AreUnnamed.more {w = w} {ls = ls} t others) xs =
    ap (λ (all : List Local). local_at None (type_of w) w ∷ all) (unnamed-reads others xs)
    ∙ ap (λ (t : ValueType). local_at None t w ∷ (ls ++ read_locals xs)) (read-type w t)

local-reads : {us : List Said} {ls : List Local} → IsLocal us ls → (xs : List Said)
    → read_locals (us ++ xs) ≡ ls ++ read_locals xs
local-reads (IsLocal.one {w = w} (bytes {w = i} e) t) xs =
    ap (λ (t : ValueType). local_at (Some (identifier i.token i.text)) t w ∷ read_locals xs) (read-type w t)
local-reads (IsLocal.several h) xs = unnamed-reads h xs

locals-read : {us : List Said} {ls : List Local} → AreLocals us ls → read_locals us ≡ ls
locals-read AreLocals.none = refl
locals-read (AreLocals.more {vs = vs} {ks = ks} a b) =
    local-reads a vs ∙ ap (λ (all : List Local). ks ++ all) (locals-read b)

pub same-locals : {us : List Said} {ks ls : List Local} → AreLocals us ks → AreLocals us ls → ks ≡ ls
same-locals a b = sym (locals-read a) ∙ locals-read b

-- ---- segments

pub same-target : {us : List Said} {t u : Option Index} → IsTarget us t → IsTarget us u → t ≡ u
same-target IsTarget.absent IsTarget.absent = refl
same-target (IsTarget.there h) (IsTarget.there k) = ap Some (same-index h k)

pub same-elements : {us : List Said} {xs ys : List Index} → AreElements us xs → AreElements us ys → xs ≡ ys
same-elements AreElements.none AreElements.none = refl
same-elements (AreElements.more h a) (AreElements.more k b) = cc (same-index h k, same-elements a b)

pub same-offset : {us : List Said} {c d : Instrs} → IsOffset us c → IsOffset us d → c ≡ d
same-offset a b = one_value (offset-part a).1 (offset-part b).1
