-- A type use that is said alone is stored.
use Rattle.std.proofs.Common.{◌≡◌, ℕ, ◌≤◌, ◌^◌, true, List, refl, sym, ap, ◌∙◌}
use Rattle.wc_syntax.specs.declared.role.Role.{Role}
use Rattle.wc_syntax.specs.declared.role.Role.TheVariants as role
use Rattle.wc_surface.specs.declared.type_use.User.{User}
use Rattle.wc_surface.specs.Standard.Written.TypeUses.{TypeUse}
use Rattle.wc_parse_code.specs.declared.body_draft.BodyDraft.{BodyDraft}
use Rattle.wc_parse_code.specs.declared.use_draft.UseDraft.{UseDraft}
use Rattle.wc_parse_code.specs.Standard.Tokens.{KeptToken}
use Rattle.wc_parse_code.specs.Drafting.Uses.{started_use, take_use, use_of}
use Rattle.wc_parse_code.specs.Drafting.Taking.{take}
use Rattle.wc_parse_code.specs.Drafting.Ending.{nothing_said}
use Rattle.wc_parse_code.specs.Standard.Productions.Tokens.{Said}
use Rattle.wc_parse_code.specs.Standard.Productions.TypeUses.{IsTypeUse}
use Rattle.wc_parse_code.specs.Drafting.Following.{take_said, take_uses}
use Rattle.wc_parse_code.specs.Stored.TypeUses.{use_as}
use Rattle.wc_parse_code.proofs.OneValue.Reading.{is_use, AllRoles}
use Rattle.wc_parse_code.proofs.OneValue.Structure.{type_use-roles}
use Rattle.wc_parse_code.proofs.Storing.Ordered.Following.{Follow}
use Rattle.wc_parse_code.proofs.Storing.TypeUses.{writes, use-said}

one-part : (r : Role) (w : KeptToken) (d : BodyDraft) (u : UseDraft) → is_use r ≡ true
    → take (writes d u) r w ≡ writes d (take_use u r w)
one-part role.TypeIndex w d u e = refl
one-part role.ParamId w d u e = refl
one-part role.ParamType w d u e = refl
one-part role.ResultType w d u e = refl
one-part _ w d u e = absurd cc

-- in a body they write just what they say alone
all-parts : {us : List Said} → AllRoles is_use us → (d : BodyDraft) (u : UseDraft)
    → take_said (writes d u) us ≡ writes d (take_uses u us)
all-parts AllRoles.none d u = refl
all-parts (AllRoles.more {r = r} {w = w} {us = us} e rest) d u =
    ap (λ (x : BodyDraft). take_said x us) (one-part r w d u e) ∙ all-parts rest d (take_use u r w)

pub use-stored : (lo hi : ℕ) {us : List Said} {u : TypeUse} → IsTypeUse us u → Follow lo us hi → hi ≤ 2 ^ 32
    → (user : User) (token : ℕ) → use_of (take_uses (started_use user token) us) ≡ use_as user token u
use-stored lo hi h f e user token =
    ap (λ (x : BodyDraft). use_of x.written)
    (sym (all-parts (type_use-roles h) nothing_said (started_use user token))
    ∙ use-said lo hi h f e nothing_said user token)
