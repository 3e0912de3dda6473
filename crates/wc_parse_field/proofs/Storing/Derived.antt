-- The kept tokens of a derived field, and of derived fields, are stored.
use Rattle.std.proofs.Common.{◌≡◌, ℕ, ◌+◌, ◌≤◌, ◌^◌, List, [], ◌∷◌, ◌++◌, length, refl, subst, arith}
use Rattle.wc_body.specs.Standard.Nested.{nesting_limit}
use Rattle.wc_syntax.specs.declared.kind.Kind.{Kind}
use Rattle.wc_syntax.specs.declared.role.Role.TheVariants as role
use Rattle.wc_syntax.specs.Standard.Phrases.{The, modulefield}
use Rattle.wc_syntax.specs.Standard.Deriving.{Event, numbered, Derives}
use Rattle.wc_surface.specs.Standard.Written.Fields.{Field}
use Rattle.wc_parse_code.specs.Standard.Tokens.{KeptToken}
use Rattle.wc_parse_code.specs.Standard.Productions.Tokens.{Said, ◌⊳◌}
use Rattle.wc_parse_code.specs.Standard.Productions.Kept.{AreKept}
use Rattle.wc_parse_code.proofs.SomeValue.Phrases.{derived-are}
use Rattle.wc_parse_code.proofs.SomeValue.Instructions.{numbered-tokens}
use Rattle.wc_parse_code.proofs.Storing.Ordered.Following.{part}
use Rattle.wc_parse_code.proofs.Storing.Ordered.Derived.{derived-follow}
use Rattle.wc_parse_field.specs.Standard.Productions.Fields.{IsField, AreFields}
use Rattle.wc_parse_field.proofs.OneValue.Fields.{one_list}
use Rattle.wc_parse_field.proofs.SomeValue.Parts.{IsWhole, FieldRule, field_nesting}
use Rattle.wc_parse_field.proofs.SomeValue.Fields.{rules}
use Rattle.wc_parse_field.proofs.Storing.Fields.{IsStored, field-stored}

-- a field with its word and its end
abbrev whole : KeptToken → KeptToken → List Said → List Said
whole w z us = role.Field ⊳ w ∷ us ++ role.FieldEnd ⊳ z ∷ []

-- what says this field has no more instructions nested in one another than another that says it
shallow : (depth : ℕ) (w z : KeptToken) (us all : List Said) (f : Field) → IsField w us f → all ≡ whole w z us
    → IsWhole depth all → field_nesting f ≤ depth
shallow depth w z us all f h e (IsWhole.field z' {f = g} h' less) =
    let same : g ∷ [] ≡ f ∷ [] =
    one_list (subst (λ (all : List Said). AreFields all (g ∷ [])) e (AreFields.more z' h' AreFields.none))
    (AreFields.more z h AreFields.none) in
    let one : g ≡ f = cc in
    subst (λ (f : Field). field_nesting f ≤ depth) one less

pub derived-stored : (depth n : ℕ) (kinds : List Kind) (es : List Event) (w z : KeptToken) (us : List Said) (f : Field)
    → depth ≤ nesting_limit → n + length kinds ≤ 2 ^ 32 → Derives (The (modulefield depth)) (numbered n kinds) es
    → AreKept es (role.Field ⊳ w ∷ us ++ role.FieldEnd ⊳ z ∷ []) → IsField w us f → IsStored w us f
derived-stored depth n kinds es w z us f room small d k h =
    let all = derived-are FieldRule rules d (numbered-tokens n kinds) (whole w z us) k in
    let less = shallow depth w z us (whole w z us) f h refl all in
    let follow = derived-follow n kinds (whole w z us) d refl k in
    let p = part _ _ us (role.FieldEnd ⊳ z ∷ []) follow.3 in
    field-stored _ p.mid h p.first (omega (arith, small, p.last.2, p.last.3)) (omega (arith, room, less))
