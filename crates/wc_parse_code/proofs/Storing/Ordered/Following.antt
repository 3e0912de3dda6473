-- Kept tokens of a text, in its order.
use Rattle.std.proofs.Common.{◌≡◌, ℕ, suc, ◌+◌, ◌≤◌, Bool, true, false, List, [], ◌∷◌, ◌++◌, length}
use Rattle.std.proofs.Common.{refl, arith}
use Rattle.wc_syntax.specs.declared.kind.Kind.{Kind}
use Rattle.wc_syntax.specs.declared.kind.Kind.TheVariants as kind
use Rattle.wc_syntax.specs.declared.role.Role.{Role}
use Rattle.wc_syntax.specs.declared.role.Role.TheVariants as role
use Rattle.wc_parse_code.specs.declared.body_draft.BodyDraft.{BodyDraft}
use Rattle.wc_parse_code.specs.Standard.Tokens.{KeptToken}
use Rattle.wc_parse_code.specs.Drafting.Taking.{take}
use Rattle.wc_parse_code.specs.Standard.Productions.Tokens.{Said, ◌⊳◌}
use Rattle.wc_parse_code.specs.Standard.Productions.Kept.{IsSpoken}
use Rattle.wc_parse_code.specs.Drafting.Following.{take_said}
use Rattle.wc_parse_code.proofs.SomeValue.Spoken.{is_wide}

-- the kind is that of a string
abbrev pub is_string : Kind → Bool
is_string kind.Name = true
is_string kind.Text = true
is_string _ = false

-- the number of a constant is of the kind of a number, a string of that of a string
abbrev pub FitsRole : Role → KeptToken → Type 0
FitsRole role.Literal w = is_wide w.symbol.kind ≡ true
FitsRole role.ExportName w = is_string w.symbol.kind ≡ true
FitsRole role.ModuleName w = is_string w.symbol.kind ≡ true
FitsRole role.ItemName w = is_string w.symbol.kind ≡ true
FitsRole role.Bytes w = is_string w.symbol.kind ≡ true
FitsRole _ w = Unit {0}

-- each is to the grammar what its text says; their numbers rise, from the first number on to below the second
abbrev pub Follow : ℕ → List Said → ℕ → Type 0
Follow lo [] hi = lo ≤ hi
Follow lo (r ⊳ w ∷ us) hi = IsSpoken w × FitsRole r w × (lo ≤ w.token) × Follow (suc w.token) us hi

pub follow-length : (lo hi : ℕ) (us : List Said) → Follow lo us hi → lo + length us ≤ hi
follow-length lo hi [] h = omega (arith, h)
follow-length lo hi (r ⊳ w ∷ us) h = omega (arith, h.2, follow-length (suc w.token) hi us h.3)

pub follow-range : (lo hi : ℕ) (us : List Said) → Follow lo us hi → lo ≤ hi
follow-range lo hi us h = omega (arith, follow-length lo hi us h)

-- where the first of two lists ends
pub record Parted (lo hi : ℕ) (us vs : List Said) : Type 0 where
  pub mid : ℕ
  pub first : Follow lo us mid
  pub last : Follow mid vs hi

pub part : (lo hi : ℕ) (us vs : List Said) → Follow lo (us ++ vs) hi → Parted lo hi us vs
part lo hi [] vs h = record { mid = lo; first = omega arith; last = h }
part lo hi (r ⊳ w ∷ us) vs h =
    let p = part (suc w.token) hi us vs h.3 in
    record { mid = p.mid; first = (h.0, h.1, h.2, p.first); last = p.last }

pub said-append : (d : BodyDraft) (us vs : List Said)
    → take_said d (us ++ vs) ≡ take_said (take_said d us) vs
said-append d [] vs = refl
said-append d (r ⊳ w ∷ us) vs = said-append (take d r w) us vs
