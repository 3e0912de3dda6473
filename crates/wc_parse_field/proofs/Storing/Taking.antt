-- Drafts by their parts, and one kept token after the other.
use Rattle.std.proofs.Common.{◌≡◌, ℕ, Bool, true, false, List, [], ◌∷◌, ◌++◌, Option}
use Rattle.std.proofs.Common.{refl, sym, ◌∙◌, subst, append-nil}
use Rattle.wc_tokens.specs.Standard.Strings.{IsString}
use Rattle.wc_ast.specs.declared.limits.Limits.{Limits}
use Rattle.wc_ast.specs.declared.limits.GlobalType.{GlobalType}
use Rattle.wc_ast.specs.declared.export.ExportKind.{ExportKind}
use Rattle.wc_syntax.specs.declared.kind.Kind.{Kind}
use Rattle.wc_syntax.specs.declared.kind.Kind.TheVariants.{OtherWord}
use Rattle.wc_syntax.specs.declared.role.Role.{Role}
use Rattle.wc_symbols.proofs.Spelling.StringLemmas.{IsString-same}
use Rattle.wc_surface.specs.declared.id.Index.{Index as StoredIndex}
use Rattle.wc_surface.specs.Standard.Identifiers.{Identifier}
use Rattle.wc_parse_code.specs.declared.use_draft.UseDraft.{UseDraft}
use Rattle.wc_parse_code.specs.Standard.Tokens.{KeptToken}
use Rattle.wc_parse_code.specs.Standard.Productions.Tokens.{Said, ◌⊳◌}
use Rattle.wc_parse_field.specs.declared.names.Names.{Names}
use Rattle.wc_parse_field.specs.declared.locals_draft.LocalsDraft.{LocalsDraft}
use Rattle.wc_parse_field.specs.declared.contents.Contents.{Contents}
use Rattle.wc_parse_field.specs.declared.code_draft.CodeDraft.{CodeDraft}
use Rattle.wc_parse_field.specs.declared.field_draft.FieldDraft.{FieldDraft}
use Rattle.wc_parse_field.specs.Drafting.Fields.{started, begun, take_word, take_string}
use Rattle.wc_parse_field.specs.Drafting.Finished.{finished}
use Rattle.wc_parse_field.specs.Drafting.Following.{is_string, Takes}
use Rattle.wc_parse_field.specs.Standard.Productions.Parts.{IsKeyword}

-- a draft of these parts
abbrev pub draft : Kind → ℕ → Names → ExportKind → UseDraft → LocalsDraft → Limits → GlobalType → Contents → CodeDraft
    → FieldDraft
draft kind token names description ty locals limits global contents code = record {
  kind = kind;
  token = token;
  names = names;
  description = description;
  ty = ty;
  locals = locals;
  limits = limits;
  global = global;
  contents = contents;
  code = code;
}

-- names of these parts
abbrev pub names : Option Identifier → List (List ℕ) → Option ℕ → List ℕ → List ℕ → Names
names id exports imported module_name item_name =
    record { id = id; exports = exports; imported = imported; «module» = module_name; item = item_name }

-- contents of these parts
abbrev pub contents : Bool → Option StoredIndex → List StoredIndex → List ℕ → Contents
contents inside target elements bytes =
    record { inside = inside; target = target; elements = elements; bytes = bytes }

no : false ≡ true → ⊥
no e = cc

pub one-word : {d e : FieldDraft} {r : Role} {w : KeptToken} {us : List Said} → is_string r ≡ false
    → Takes d (r ⊳ w ∷ us) e → Takes (take_word d r w) us e
one-word f (Takes.word g t) = t
one-word f (Takes.string g s t) = absurd (no (sym f ∙ g))

pub one-string : {d e : FieldDraft} {r : Role} {w : KeptToken} {us : List Said} {bytes : List ℕ}
    → is_string r ≡ true → IsString w.text bytes → Takes d (r ⊳ w ∷ us) e → Takes (take_string d r bytes) us e
one-string f s (Takes.word g t) = absurd (no (sym g ∙ f))
one-string {d = d} {e = e} {r = r} {us = us} f s (Takes.string g i t) =
    subst (λ (bytes : List ℕ). Takes (take_string d r bytes) us e) (IsString-same i s) t

-- the last part
pub last : {d e : FieldDraft} {us : List Said} → Takes d us e → Takes d (us ++ []) e
last {d = d} {e = e} {us = us} t = subst (λ (all : List Said). Takes d all e) (sym (append-nil us)) t

-- nothing is left
pub finishes : {d e : FieldDraft} → Takes d [] e → finished e ≡ finished d
finishes Takes.none = refl

-- a field begins with its word
pub begins : {e : FieldDraft} {us : List Said} {k : Kind} (w : KeptToken) → IsKeyword w k
    → Takes (begun w.symbol.kind w.token (started OtherWord 0)) us e → Takes (started k w.token) us e
begins {e = e} {us = us} w f t =
    subst (λ (k : Kind). Takes (begun k w.token (started OtherWord 0)) us e) f t
