-- Instructions and type uses of a field, token by token.
use Rattle.std.proofs.Common.{◌≡◌, ℕ, Bool, true, false, List, ◌++◌, refl, subst}
use Rattle.wc_ast.specs.declared.limits.Limits.{Limits}
use Rattle.wc_ast.specs.declared.limits.GlobalType.{GlobalType}
use Rattle.wc_ast.specs.declared.export.ExportKind.{ExportKind}
use Rattle.wc_syntax.specs.declared.kind.Kind.{Kind}
use Rattle.wc_syntax.specs.declared.role.Role.{Role}
use Rattle.wc_syntax.specs.declared.role.Role.TheVariants as role
use Rattle.wc_surface.specs.Standard.Written.TypeUses.{TypeUse}
use Rattle.wc_surface.specs.Standard.Written.Instructions.{Instrs}
use Rattle.wc_parse_code.specs.declared.use_draft.UseDraft.{UseDraft}
use Rattle.wc_parse_code.specs.declared.body_draft.BodyDraft.{BodyDraft}
use Rattle.wc_parse_code.specs.Standard.Tokens.{KeptToken}
use Rattle.wc_parse_code.specs.Drafting.Uses.{take_use}
use Rattle.wc_parse_code.specs.Drafting.Taking.{take}
use Rattle.wc_parse_code.specs.Drafting.Following.{take_said, take_uses}
use Rattle.wc_parse_code.specs.Standard.Productions.Tokens.{Said}
use Rattle.wc_parse_code.specs.Standard.Productions.TypeUses.{IsTypeUse}
use Rattle.wc_parse_code.specs.Standard.Productions.Instructions.{Part, Says}
use Rattle.wc_parse_code.proofs.OneValue.Reading.{is_use, AllRoles}
use Rattle.wc_parse_code.proofs.OneValue.Structure.{type_use-roles}
use Rattle.wc_parse_field.specs.declared.names.Names.{Names}
use Rattle.wc_parse_field.specs.declared.locals_draft.LocalsDraft.{LocalsDraft}
use Rattle.wc_parse_field.specs.declared.contents.Contents.{Contents}
use Rattle.wc_parse_field.specs.declared.code_draft.CodeDraft.{CodeDraft}
use Rattle.wc_parse_field.specs.declared.field_draft.FieldDraft.{FieldDraft}
use Rattle.wc_parse_field.specs.Drafting.Fields.{no_code, take_word}
use Rattle.wc_parse_field.specs.Drafting.Following.{is_string, Takes}
use Rattle.wc_parse_field.proofs.OneValue.Cutting.{before, Starts}
use Rattle.wc_parse_field.proofs.OneValue.Places.{is_code, code-roles, code-starts}
use Rattle.wc_parse_field.proofs.Storing.Taking.{draft, one-word}

no : false ≡ true → ⊥
no e = cc

wrong : true ≡ false → ⊥
wrong e = cc

-- ---- type uses

use-no-string : (r : Role) → is_use r ≡ true → is_string r ≡ false
use-no-string role.TypeIndex e = refl
use-no-string role.ParamId e = refl
use-no-string role.ParamType e = refl
use-no-string role.ResultType e = refl
use-no-string _ e = absurd (no e)

module _ {k : Kind} {t : ℕ} {n : Names} {x : ExportKind} {l : LocalsDraft} {m : Limits} {g : GlobalType}
    {c : Contents} where
  use-part : (r : Role) (w : KeptToken) (u : UseDraft) → is_use r ≡ true
      → take_word (draft k t n x u l m g c no_code) r w ≡ draft k t n x (take_use u r w) l m g c no_code
  use-part role.TypeIndex w u e = refl
  use-part role.ParamId w u e = refl
  use-part role.ParamType w u e = refl
  use-part role.ResultType w u e = refl
  use-part _ w u e = absurd (no e)

  uses-taken : {e : FieldDraft} {us rest : List Said} {u : UseDraft} → AllRoles is_use us
      → Takes (draft k t n x u l m g c no_code) (us ++ rest) e
      → Takes (draft k t n x (take_uses u us) l m g c no_code) rest e
  uses-taken AllRoles.none h = h
  uses-taken {e = e} {rest = rest} {u = u} (AllRoles.more {r = r} {w = w} {us = us} p others) h =
      uses-taken others
      (subst (λ (d : FieldDraft). Takes d (us ++ rest) e) (use-part r w u p) (one-word (use-no-string r p) h))

  pub use-taken : {e : FieldDraft} {us rest : List Said} {u : UseDraft} {y : TypeUse} → IsTypeUse us y
      → Takes (draft k t n x u l m g c no_code) (us ++ rest) e
      → Takes (draft k t n x (take_uses u us) l m g c no_code) rest e
  use-taken i h = uses-taken (type_use-roles i) h

-- ---- instructions

-- instructions, of which one has begun or none
abbrev pub code_of : Bool → BodyDraft → CodeDraft
code_of begun body = record { begun = begun; body = body }

code-no-string : (r : Role) → is_code r ≡ true → is_string r ≡ false
code-no-string role.ExportName e = absurd (no e)
code-no-string role.ModuleName e = absurd (no e)
code-no-string role.ItemName e = absurd (no e)
code-no-string role.Bytes e = absurd (no e)
code-no-string _ e = refl

module _ {k : Kind} {t : ℕ} {n : Names} {x : ExportKind} {u : UseDraft} {l : LocalsDraft} {m : Limits} {g : GlobalType}
    {c : Contents} where
  code-part : (r : Role) (w : KeptToken) (d : BodyDraft) → is_code r ≡ true
      → take_word (draft k t n x u l m g c (code_of true d)) r w ≡ draft k t n x u l m g c (code_of true (take d r w))
  code-part role.Plain w d p = refl
  code-part role.HeldPlain w d p = refl
  code-part role.HeldEnd w d p = refl
  code-part role.Begin w d p = refl
  code-part role.HeldBegin w d p = refl
  code-part role.Then w d p = refl
  code-part role.Else w d p = refl
  code-part role.End w d p = refl
  code-part role.Label w d p = refl
  code-part role.EndLabel w d p = refl
  code-part role.Index w d p = refl
  code-part role.MemOffset w d p = refl
  code-part role.MemAlign w d p = refl
  code-part role.Literal w d p = refl
  code-part role.TypeIndex w d p = refl
  code-part role.ParamId w d p = refl
  code-part role.ParamType w d p = refl
  code-part role.ResultType w d p = refl
  code-part _ w d p = absurd (no p)

  first-part : (r : Role) (w : KeptToken) (d : BodyDraft) → is_code r ≡ true → before 4 r ≡ false
      → take_word (draft k t n x u l m g c (code_of false d)) r w ≡ draft k t n x u l m g c (code_of true (take d r w))
  first-part role.Plain w d p q = refl
  first-part role.HeldPlain w d p q = refl
  first-part role.HeldEnd w d p q = refl
  first-part role.Begin w d p q = refl
  first-part role.HeldBegin w d p q = refl
  first-part role.Then w d p q = refl
  first-part role.Else w d p q = refl
  first-part role.End w d p q = refl
  first-part role.Label w d p q = refl
  first-part role.EndLabel w d p q = refl
  first-part role.Index w d p q = refl
  first-part role.MemOffset w d p q = refl
  first-part role.MemAlign w d p q = refl
  first-part role.Literal w d p q = refl
  first-part role.TypeIndex w d p q = absurd (wrong q)
  first-part role.ParamId w d p q = absurd (wrong q)
  first-part role.ParamType w d p q = absurd (wrong q)
  first-part role.ResultType w d p q = absurd (wrong q)
  first-part _ w d p q = absurd (no p)

  begun-taken : {e : FieldDraft} {us rest : List Said} {d : BodyDraft} → AllRoles is_code us
      → Takes (draft k t n x u l m g c (code_of true d)) (us ++ rest) e
      → Takes (draft k t n x u l m g c (code_of true (take_said d us))) rest e
  begun-taken AllRoles.none h = h
  begun-taken {e = e} {rest = rest} {d = d} (AllRoles.more {r = r} {w = w} {us = us} p others) h =
      begun-taken others
      (subst (λ (d : FieldDraft). Takes d (us ++ rest) e) (code-part r w d p) (one-word (code-no-string r p) h))

  roles-taken : {e : FieldDraft} {us rest : List Said} {d : BodyDraft} → AllRoles is_code us → Starts 4 us
      → Takes (draft k t n x u l m g c (code_of false d)) (us ++ rest) e
      → (begun : Bool) × Takes (draft k t n x u l m g c (code_of begun (take_said d us))) rest e
  roles-taken AllRoles.none s h = (false, h)
  roles-taken {e = e} {rest = rest} {d = d} (AllRoles.more {r = r} {w = w} {us = us} p others) (Starts.at q) h = (
    true,
    begun-taken others
        (subst (λ (d : FieldDraft). Takes d (us ++ rest) e) (first-part r w d p q) (one-word (code-no-string r p) h)),
  )

  pub code-taken : {e : FieldDraft} {us rest : List Said} {d : BodyDraft} {p : Part} {y : Instrs} → Says p us y
      → Takes (draft k t n x u l m g c (code_of false d)) (us ++ rest) e
      → (begun : Bool) × Takes (draft k t n x u l m g c (code_of begun (take_said d us))) rest e
  code-taken s h = roles-taken (code-roles s) (code-starts refl s) h
