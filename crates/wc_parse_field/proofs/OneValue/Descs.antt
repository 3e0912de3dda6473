-- What an import field brings has one value, which its word tells.
use Rattle.std.proofs.Common.{◌≡◌, List, [], ◌∷◌, ◌++◌, Option, refl, sym, subst}
use Rattle.wc_ast.specs.declared.limits.Limits.{Limits}
use Rattle.wc_ast.specs.declared.limits.GlobalType.{GlobalType}
use Rattle.wc_syntax.specs.declared.kind.Kind.{Kind}
use Rattle.wc_syntax.specs.declared.kind.Kind.TheVariants as kind
use Rattle.wc_syntax.specs.declared.role.Role.TheVariants as role
use Rattle.wc_surface.specs.Standard.Identifiers.{Identifier}
use Rattle.wc_surface.specs.Standard.Written.TypeUses.{TypeUse}
use Rattle.wc_surface.specs.Standard.Written.Fields.{Desc}
use Rattle.wc_parse_code.specs.Standard.Productions.Tokens.{Said, ◌⊳◌, IsId}
use Rattle.wc_parse_code.specs.Standard.Productions.TypeUses.{IsTypeUse}
use Rattle.wc_parse_code.proofs.OneValue.Reading.{AllRoles, roles-append}
use Rattle.wc_parse_code.proofs.OneValue.Parts.{same-use}
use Rattle.wc_parse_code.proofs.OneValue.Same.{same-id}
use Rattle.wc_parse_field.specs.Standard.Productions.Parts.{AreLimits, IsGlobalType}
use Rattle.wc_parse_field.specs.Standard.Productions.Fields.{IsDesc}
use Rattle.wc_parse_field.proofs.OneValue.Cutting.{AllBefore, Starts, Cut, cut, at-before, at-starts}
use Rattle.wc_parse_field.proofs.OneValue.Places.{id-at, use-at, limits-at, global-at}
use Rattle.wc_parse_field.proofs.OneValue.Parts.{same-limits, same-global}

-- what the tokens behind its word are
abbrev SaysDesc : Kind → List Said → Option Identifier → Desc → Type 0
SaysDesc kind.FuncWord us i d =
    (u : TypeUse) × Cut 1 (λ us. IsId role.FieldId us i) (λ us. IsTypeUse us u) us × (d ≡ Desc.func u)
SaysDesc kind.TableWord us i d =
    (l : Limits) × Cut 1 (λ us. IsId role.FieldId us i) (λ us. AreLimits us l) us × (d ≡ Desc.table l)
SaysDesc kind.MemoryWord us i d =
    (l : Limits) × Cut 1 (λ us. IsId role.FieldId us i) (λ us. AreLimits us l) us × (d ≡ Desc.memory l)
SaysDesc kind.GlobalWord us i d =
    (g : GlobalType) × Cut 1 (λ us. IsId role.FieldId us i) (λ us. IsGlobalType us g) us × (d ≡ Desc.global g)
SaysDesc _ us i d = ⊥

-- the same behind the first of some tokens
abbrev DescBy : List Said → Option Identifier → Desc → Type 0
DescBy [] i d = ⊥
DescBy (r ⊳ w ∷ us) i d = SaysDesc w.symbol.kind us i d

says-desc : {us : List Said} {i : Option Identifier} {d : Desc} → IsDesc us i d → DescBy us i d
says-desc {i = i} {d = d} (IsDesc.func {us = us} {vs = vs} e h u) =
    subst (λ (k : Kind). SaysDesc k (us ++ vs) i d) (sym e)
    (_, cut (at-before 1 refl (id-at refl h)) (at-starts refl (use-at u)) h u, refl)
says-desc {i = i} {d = d} (IsDesc.table {us = us} {vs = vs} e h l) =
    subst (λ (k : Kind). SaysDesc k (us ++ vs) i d) (sym e)
    (_, cut (at-before 1 refl (id-at refl h)) (at-starts refl (limits-at l)) h l, refl)
says-desc {i = i} {d = d} (IsDesc.memory {us = us} {vs = vs} e h l) =
    subst (λ (k : Kind). SaysDesc k (us ++ vs) i d) (sym e)
    (_, cut (at-before 1 refl (id-at refl h)) (at-starts refl (limits-at l)) h l, refl)
says-desc {i = i} {d = d} (IsDesc.global {us = us} {vs = vs} e h g) =
    subst (λ (k : Kind). SaysDesc k (us ++ vs) i d) (sym e)
    (_, cut (at-before 1 refl (id-at refl h)) (at-starts refl (global-at g)) h g, refl)

-- two identifiers are one, and two descriptions
pub record SameDesc (i j : Option Identifier) (d e : Desc) : Type 0 where
  pub id : i ≡ j
  pub desc : d ≡ e

same-says-desc : (k : Kind) (us : List Said) {i j : Option Identifier} {d e : Desc} → SaysDesc k us i d
    → SaysDesc k us j e → SameDesc i j d e
same-says-desc kind.FuncWord us a b = record {
  id = same-id a.1.first b.1.first;
  desc = cc (a.2, b.2, same-use a.1.second b.1.second);
}
same-says-desc kind.TableWord us a b = record {
  id = same-id a.1.first b.1.first;
  desc = cc (a.2, b.2, same-limits a.1.second b.1.second);
}
same-says-desc kind.MemoryWord us a b = record {
  id = same-id a.1.first b.1.first;
  desc = cc (a.2, b.2, same-limits a.1.second b.1.second);
}
same-says-desc kind.GlobalWord us a b = record {
  id = same-id a.1.first b.1.first;
  desc = cc (a.2, b.2, same-global a.1.second b.1.second);
}
same-says-desc _ us a b = absurd a

pub same-desc : {us : List Said} {i j : Option Identifier} {d e : Desc} → IsDesc us i d → IsDesc us j e
    → SameDesc i j d e
same-desc {us = us} a b = by-first us (says-desc a) (says-desc b)
  where
    by-first : (us : List Said) {i j : Option Identifier} {d e : Desc} → DescBy us i d → DescBy us j e
        → SameDesc i j d e
    by-first [] a b = absurd a
    by-first (r ⊳ w ∷ us) a b = same-says-desc w.symbol.kind us a b

pub desc-before : {us : List Said} {i : Option Identifier} {d : Desc} → IsDesc us i d → AllBefore 9 us
desc-before (IsDesc.func e h u) =
    AllRoles.more refl (roles-append (at-before 9 refl (id-at refl h)) (at-before 9 refl (use-at u)))
desc-before (IsDesc.table e h l) =
    AllRoles.more refl (roles-append (at-before 9 refl (id-at refl h)) (at-before 9 refl (limits-at l)))
desc-before (IsDesc.memory e h l) =
    AllRoles.more refl (roles-append (at-before 9 refl (id-at refl h)) (at-before 9 refl (limits-at l)))
desc-before (IsDesc.global e h g) =
    AllRoles.more refl (roles-append (at-before 9 refl (id-at refl h)) (at-before 9 refl (global-at g)))

pub desc-starts : {us : List Said} {i : Option Identifier} {d : Desc} → IsDesc us i d → Starts 3 us
desc-starts (IsDesc.func e h u) = Starts.at refl
desc-starts (IsDesc.table e h l) = Starts.at refl
desc-starts (IsDesc.memory e h l) = Starts.at refl
desc-starts (IsDesc.global e h g) = Starts.at refl
