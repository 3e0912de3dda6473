-- The fields that tokens say are no more than the bytes of the tokens.
use Rattle.std.proofs.Common.{◌≡◌, ℕ, ◌<◌, ◌≤◌, ◌^◌, List, [], ◌∷◌, length, drop, refl, sym}
use Rattle.std.proofs.Common.{arith, subst, ◌∙◌}
use Rattle.std.specs.Prelude.{sum_by}
use Rattle.std.specs.List.{All, AllByRecursion}
use Rattle.std.proofs.lemmas.List.Sums.{sum_by-cons, sum_by-le-sum_by}
use Rattle.std.proofs.lemmas.List.Elements.{All-nil, All-cons}
use Rattle.wc_tokens.specs.Standard.Lexemes.{Lexeme}
use Rattle.wc_tokens.specs.Standard.Tokens.{InOrder}
use Rattle.wc_syntax.specs.Standard.Deriving.{Event}
use Rattle.wc_surface.specs.declared.field.Field.{Field}
use Rattle.wc_surface.specs.Standard.Sizes.{field_size, inline_size, IsSurface}
use Rattle.wc_parse.specs.Kept.Texts.{Item}
use Rattle.wc_parse.specs.Standard.Kinds.{Each, none, more}
use Rattle.wc_parse.specs.Kept.Folds.{IsItem, StandsFor, Folds}
use Rattle.wc_parse.proofs.Tokens.Forms.{within}
use Rattle.wc_parse.proofs.Tokens.Strings.{stands-short}
use Rattle.wc_parse.proofs.Sizing.Weights.{item_of, weighs, kept-weigh, kept-have}
use Rattle.wc_parse.proofs.Tokens.Kept.{Stands, IsThere, all-there, first_size, weight, all-weigh}
use Rattle.wc_parse.proofs.Sizing.Sizes.{whole_size, item_size, said-size}

-- a kept token weighs no more than its text is long
item-short : (ts : List Lexeme) (e : Event) (i : Item) → IsItem ts e i → IsThere ts (item_of e)
    → item_size i ≤ weighs (weight ts) e
item-short ts e i w h =
    let n = i.word.token in
    let there : Stands ts n i.word.symbol.kind = subst (λ (x : Event). IsThere ts (item_of x)) w.event h in
    let lists : there.lexeme ∷ there.rest ≡ w.lexeme ∷ w.rest = sym there.stands ∙ w.stands in
    let same : w.lexeme ≡ there.lexeme = cc in
    let bytes = subst (λ (t : Lexeme). StandsFor t.kind t.text i.bytes) same w.bytes in
    let short = stands-short there.lexeme.kind there.lexeme.text i.bytes there.form bytes in
    let first : first_size (drop n ts) ≡ length there.lexeme.text = rw there.stands refl in
    rw w.event (omega (arith, short, first))

items-short : (ts : List Lexeme) (es : List Event) (is : List Item) → Each (IsItem ts) es is
    → AllByRecursion (λ e. IsThere ts (item_of e)) es → sum_by item_size is ≤ sum_by (weighs (weight ts)) es
items-short ts [] [] none h = omega arith
items-short ts [] (i ∷ is) d h = elim d [ ]
items-short ts (e ∷ es) [] d h = elim d [ ]
items-short ts (e ∷ es) (i ∷ is) (more w d) h =
    omega (
      arith,
      item-short ts e i w h.0,
      items-short ts es is d h.1,
      sum_by-cons item_size i is,
      sum_by-cons (weighs (weight ts)) e es,
    )

pub fields-short : (ts : List Lexeme) (fields : List Field) → InOrder 0 ts → Folds ts fields
    → sum_by whole_size fields ≤ 4294967295
fields-short ts fields o v =
    let there = kept-have (IsThere ts) v.text (all-there ts v.kinds o v.are_kinds) in
    let items = items-short ts v.es v.items v.are_items there in
    let events = kept-weigh (weight ts) v.text in
    let tokens = all-weigh ts v.kinds v.are_kinds in
    let texts = within 0 ts o (omega arith) in
    let fields' = said-size v.items in
    rw v.gives (omega (arith, items, events, tokens, texts, fields'))

all-below : {X : Type 0} (f : X → ℕ) (xs : List X) → sum_by f xs < 2 ^ 32 → All (λ x. f x < 2 ^ 32) xs
all-below f [] h = All-nil (λ y. f y < 2 ^ 32)
all-below f (x ∷ xs) h =
    All-cons (λ y. f y < 2 ^ 32) x xs (omega (arith, sum_by-cons f x xs))
    (all-below f xs (omega (arith, sum_by-cons f x xs)))

pub fewer-than-bytes : (ts : List Lexeme) (fields : List Field) → InOrder 0 ts → Folds ts fields → IsSurface fields
fewer-than-bytes ts fields o v =
    let short = fields-short ts fields o v in
    record {
      sized = omega (arith, short, sum_by-le-sum_by field_size whole_size fields (λ f. omega arith));
      inlined = all-below inline_size fields
          (omega (arith, short, sum_by-le-sum_by inline_size whole_size fields (λ f. omega arith)));
    }
