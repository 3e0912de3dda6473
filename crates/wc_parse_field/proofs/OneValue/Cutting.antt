-- Kept tokens cut in two by their roles: each role has a place in a field, and a cut is made in front of the first
-- token whose place isn't before a given one.
use Rattle.std.proofs.Common.{◌≡◌, ℕ, List, [], ◌∷◌, ◌++◌, Bool, true, false, nat_lt, if◌then◌else◌, refl, sym, ap}
use Rattle.std.proofs.Common.{◌∙◌, subst}
use Rattle.wc_syntax.specs.declared.role.Role.{Role}
use Rattle.wc_syntax.specs.declared.role.Role.TheVariants as role
use Rattle.wc_parse_code.specs.Standard.Tokens.{KeptToken}
use Rattle.wc_parse_code.specs.Standard.Productions.Tokens.{Said, ◌⊳◌}
use Rattle.wc_parse_code.proofs.OneValue.Reading.{AllRoles}

-- the place of a role in a field; the words of instructions and their parts have one, but those parts that type uses
-- have too
abbrev pub place : Role → ℕ
place role.FieldId = 0
place role.ExportName = 1
place role.ImportWord = 2
place role.ModuleName = 2
place role.ItemName = 2
place role.Target = 2
place role.TypeIndex = 3
place role.ParamId = 3
place role.ParamType = 3
place role.ResultType = 3
place role.LocalId = 4
place role.LocalType = 4
place role.LimitsMin = 5
place role.LimitsMax = 5
place role.Mutable = 5
place role.GlobalType = 5
place role.Segment = 6
place role.Description = 6
place role.Element = 8
place role.Bytes = 8
place role.Field = 9
place role.FieldEnd = 9
place _ = 7

-- the role's place is before this one
abbrev pub before : ℕ → Role → Bool
before n r = nat_lt (place r) n

-- all places are before this one
abbrev pub AllBefore : ℕ → List Said → Type 0
AllBefore n us = AllRoles (before n) us

-- the first place, if any, isn't
pub data Starts (n : ℕ) : List Said → Type 0 where
  nothing : Starts n []
  at : {r : Role} {w : KeptToken} {us : List Said} → before n r ≡ false → Starts n (r ⊳ w ∷ us)

pub starts-append : {n : ℕ} {us vs : List Said} → Starts n us → Starts n vs → Starts n (us ++ vs)
starts-append Starts.nothing b = b
starts-append (Starts.at e) b = Starts.at e

-- all places are this one
pub data AllAt (n : ℕ) : List Said → Type 0 where
  none : AllAt n []
  more : {r : Role} {w : KeptToken} {us : List Said} → place r ≡ n → AllAt n us → AllAt n (r ⊳ w ∷ us)

pub at-append : {n : ℕ} {us vs : List Said} → AllAt n us → AllAt n vs → AllAt n (us ++ vs)
at-append AllAt.none b = b
at-append (AllAt.more e others) b = AllAt.more e (at-append others b)

pub at-before : {m : ℕ} (n : ℕ) {us : List Said} → nat_lt m n ≡ true → AllAt m us → AllBefore n us
at-before n e AllAt.none = AllRoles.none
at-before n e (AllAt.more p others) =
    AllRoles.more (ap (λ (k : ℕ). nat_lt k n) p ∙ e) (at-before n e others)

pub at-starts : {m n : ℕ} {us : List Said} → nat_lt m n ≡ false → AllAt m us → Starts n us
at-starts e AllAt.none = Starts.nothing
at-starts {n = n} e (AllAt.more p others) = Starts.at (ap (λ (k : ℕ). nat_lt k n) p ∙ e)

-- ---- the cut

-- what stands in front of the cut
abbrev pub front : ℕ → List Said → List Said
front n [] = []
front n (r ⊳ w ∷ us) = if before n r then r ⊳ w ∷ front n us else []

-- and behind it
abbrev pub rest : ℕ → List Said → List Said
rest n [] = []
rest n (r ⊳ w ∷ us) = if before n r then rest n us else r ⊳ w ∷ us

nothing-front : {n : ℕ} {vs : List Said} → Starts n vs → front n vs ≡ []
nothing-front Starts.nothing = refl
nothing-front {n} (Starts.at {r = r} {w = w} {us = us} e) =
    ap (λ (b : Bool). if b then r ⊳ w ∷ front n us else []) e

all-rest : {n : ℕ} {vs : List Said} → Starts n vs → rest n vs ≡ vs
all-rest Starts.nothing = refl
all-rest {n} (Starts.at {r = r} {w = w} {us = us} e) =
    ap (λ (b : Bool). if b then rest n us else r ⊳ w ∷ us) e

pub cut-front : {n : ℕ} {us vs : List Said} → AllBefore n us → Starts n vs → front n (us ++ vs) ≡ us
cut-front AllRoles.none s = nothing-front s
cut-front {n} {vs = vs} (AllRoles.more {r = r} {w = w} {us = us} e others) s =
    ap (λ (b : Bool). if b then r ⊳ w ∷ front n (us ++ vs) else []) e
    ∙ ap (λ (us : List Said). r ⊳ w ∷ us) (cut-front others s)

pub cut-rest : {n : ℕ} {us vs : List Said} → AllBefore n us → Starts n vs → rest n (us ++ vs) ≡ vs
cut-rest AllRoles.none s = all-rest s
cut-rest {n} {vs = vs} (AllRoles.more {r = r} {w = w} {us = us} e others) s =
    ap (λ (b : Bool). if b then rest n (us ++ vs) else r ⊳ w ∷ (us ++ vs)) e ∙ cut-rest others s

-- this holds of what stands in front of the cut, and that of what stands behind it
pub record Cut (n : ℕ) (P Q : List Said → Type 0) (us : List Said) : Type 0 where
  pub first : P (front n us)
  pub second : Q (rest n us)

pub cut : {n : ℕ} {P Q : List Said → Type 0} {us vs : List Said} → AllBefore n us → Starts n vs → P us → Q vs
    → Cut n P Q (us ++ vs)
cut {P = P} {Q = Q} all s p q =
    record { first = subst P (sym (cut-front all s)) p; second = subst Q (sym (cut-rest all s)) q }
