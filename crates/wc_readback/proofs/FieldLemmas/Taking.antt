-- Kept tokens taken one after the other.
use Rattle.std.proofs.Common.{◌≡◌, ℕ, suc, ◌+◌, List, [], ◌∷◌, ◌++◌, length, refl, sym, ap, ◌∙◌, arith, append_assoc}
use Rattle.std.proofs.Common.{Option, Some, None}
use Rattle.std.specs.List.{AllByRecursion, flat_map}
use Rattle.wc_syntax.specs.declared.kind.Kind.TheVariants.{OtherWord}
use Rattle.wc_surface.specs.declared.field.Field.{Field}
use Rattle.wc_readback.specs.Grammar.Signs.{Sign}
use Rattle.wc_parse_field.specs.declared.field_draft.FieldDraft.{FieldDraft}
use Rattle.wc_parse.specs.declared.text_draft.TextDraft.{TextDraft}
use Rattle.wc_parse_field.specs.Drafting.Fields.{started}
use Rattle.wc_parse.specs.Kept.Texts.{Item, take_item, take_items}
use Rattle.wc_readback.specs.Fields.Items.{item_as, item_before, items_from}
use Rattle.wc_readback.specs.Fields.Surface.{along}

-- these fields, and this one that is being said
abbrev pub state : List Field → FieldDraft → TextDraft
state fs d = record { fields = fs; field = d }

-- between fields
abbrev pub fresh : List Field → TextDraft
fresh fs = state fs (started OtherWord 0)

module _ (addresses : ℕ → ℕ × ℕ) where
  -- the tokens of signs that are numbered from n on
  abbrev pub read : TextDraft → ℕ → List Sign → TextDraft
  read d n ss = take_items d (items_from addresses n ss)

  take-append : (d : TextDraft) (a b : List Item) → take_items d (a ++ b) ≡ take_items (take_items d a) b
  take-append d [] b = refl
  take-append d (i ∷ a) b = take-append (take_item d i) a b

  before-append : (r : Option _) (n : ℕ) (s : Sign) (a b c : List Item) → a ++ b ≡ c
      → item_before addresses r n s a ++ b ≡ item_before addresses r n s c
  before-append None n s a b c e = e
  before-append (Some r) n s a b c e = ap (λ (x : List Item). item_as addresses r n s ∷ x) e

  items-append : (n : ℕ) (a b : List Sign)
      → items_from addresses n a ++ items_from addresses (length a + n) b ≡ items_from addresses n (a ++ b)
  items-append n [] b = ap (λ k. items_from addresses k b) (omega arith)
  items-append n (s ∷ a) b =
      before-append s.role n s _ _ _
      (ap (λ k. items_from addresses (suc n) a ++ items_from addresses k b) (omega arith) ∙ items-append (suc n) a b)

  pub split : (d : TextDraft) (n : ℕ) (a b : List Sign) → read d n (a ++ b) ≡ read (read d n a) (length a + n) b
  split d n a b =
      ap (take_items d) (sym (items-append n a b))
      ∙ take-append d (items_from addresses n a) (items_from addresses (length a + n) b)

  -- where the first part leads to a state, the rest goes on from there
  pub on : (d e : TextDraft) (n : ℕ) (a b : List Sign) → read d n a ≡ e → read d n (a ++ b) ≡ read e (length a + n) b
  on d e n a b p = split d n a b ∙ ap (λ (x : TextDraft). read x (length a + n) b) p

  -- each item of a list is read as its field
  abbrev pub Reads : {A : Type 0} → (A → Type 0) → (A → List Sign) → (ℕ → A → Field) → Type 0
  Reads {A} Fit w f = (fs : List Field) (n : ℕ) (x : A) → Fit x → read (fresh fs) n (w x) ≡ fresh (fs ++ f n x ∷ [])

  -- what follows is read as these fields
  abbrev pub Follows : List Sign → (ℕ → List Field) → Type 0
  Follows rest r = (fs : List Field) (n : ℕ) → read (fresh fs) n rest ≡ fresh (fs ++ r n)

  pub lists : {A : Type 0} (Fit : A → Type 0) (w : A → List Sign) (f : ℕ → A → Field) → Reads Fit w f → (xs : List A)
      → AllByRecursion Fit xs → (rest : List Sign) (r : ℕ → List Field) → Follows rest r
      → Follows (flat_map w xs ++ rest) (λ n. along f w n xs r)
  lists Fit w f k [] h rest r g fs n = g fs n
  lists Fit w f k (x ∷ xs) h rest r g fs n =
      ap (read (fresh fs) n) (append_assoc (w x) (flat_map w xs) rest)
      ∙ (on (fresh fs) (fresh (fs ++ f n x ∷ [])) n (w x) (flat_map w xs ++ rest) (k fs n x h.0)
      ∙ (lists Fit w f k xs h.1 rest r g (fs ++ f n x ∷ []) (length (w x) + n)
      ∙ ap fresh (append_assoc fs (f n x ∷ []) (along f w (length (w x) + n) xs r))))
