-- One more token of a text.
use Rattle.std.proofs.Common.{◌≡◌, ℕ, zero, suc, ◌+◌, List, [], ◌∷◌, ◌++◌, length, drop, take, Some, None}
use Rattle.std.proofs.Common.{refl, sym, ap, subst, ◌∙◌, append-nil, add-one}
use Rattle.std.proofs.lemmas.List.{take-append-drop}
use Rattle.wc_tokens.specs.Standard.Lexemes.{Lexeme}
use Rattle.wc_tokens.specs.Standard.Tokens.{InOrder}
use Rattle.wc_body.specs.Standard.Nested.{nesting_limit}
use Rattle.wc_syntax.specs.declared.kind.Kind.{Kind}
use Rattle.wc_syntax.specs.declared.role.Role.{Role}
use Rattle.wc_syntax.specs.declared.refusal.Refusal.{Refusal}
use Rattle.wc_syntax.specs.declared.refusal.Refusal.TheVariants as refusal
use Rattle.wc_syntax.specs.declared.why.SynWhy.TheVariants as why
use Rattle.wc_syntax.specs.Standard.Phrases.{word}
use Rattle.wc_syntax.specs.Standard.Deriving.{at, Event, kept}
use Rattle.wc_syntax.specs.Standard.Parsing.{IsText, IsRefusal}
use Rattle.wc_syntax.specs.Standard.Reading.{Standing, IsRead, kept_as}
use Rattle.wc_syntax.specs.Standard.Reasons.{FirstFault as FirstKindFault}
use Rattle.wc_symbols.specs.declared.symbol.Symbol.{Symbol}
use Rattle.wc_symbols.specs.Standard.Tokens.{TokenIs}
use Rattle.wc_parse_code.specs.Standard.Tokens.{kept_token}
use Rattle.wc_parse.specs.declared.text_draft.TextDraft.{TextDraft}
use Rattle.wc_parse.specs.Kept.Texts.{Item, nothing, take_by, take_item, take_items}
use Rattle.wc_parse.specs.Standard.Kinds.{Each, none, more, HasKind}
use Rattle.wc_parse.specs.Kept.Folds.{StandsFor, Folds}
use Rattle.wc_parse.specs.Standard.Faults.{FirstFault, IsFault}
use Rattle.wc_parse.specs.Standard.Refused.{of_refusal}
use Rattle.wc_parse.specs.Kept.SaidSoFar.{IsSaid}
use Rattle.wc_parse.proofs.Pairs.{each-append, each-one, each-length}
use Rattle.wc_parse.proofs.Tokens.Forms.{some-kinds}

-- ---- lists

take-one : {X : Type 0} (n : ℕ) (xs : List X) (x : X) (rest : List X) → drop n xs ≡ x ∷ rest
    → take (suc n) xs ≡ take n xs ++ x ∷ []
take-one zero [] x rest e = absurd cc
take-one zero (y ∷ xs) x rest e = let f : y ≡ x = cc in rw f refl
take-one (suc n) [] x rest e = absurd cc
take-one (suc n) (y ∷ xs) x rest e = ap (λ (l : List _). y ∷ l) (take-one n xs x rest e)

length-take-one : {X : Type 0} (n : ℕ) (xs : List X) (x : X) (rest : List X) → drop n xs ≡ x ∷ rest
    → length (take n xs) ≡ n
length-take-one zero xs x rest e = refl
length-take-one (suc n) [] x rest e = absurd cc
length-take-one (suc n) (y ∷ xs) x rest e = ap suc (length-take-one n xs x rest e)

order-from : (n from : ℕ) (ts : List Lexeme) (t : Lexeme) (rest : List Lexeme) → InOrder from ts → drop n ts ≡ t ∷ rest
    → InOrder t.stop rest
order-from zero from [] t rest o e = absurd cc
order-from zero from (u ∷ ts) t rest o e =
    let f : u ≡ t = cc in
    let g : ts ≡ rest = cc in
    rw (sym f, sym g) o.1
order-from (suc n) from [] t rest o e = absurd cc
order-from (suc n) from (u ∷ ts) t rest o e = order-from n u.stop ts t rest o.1 e

-- ---- the start

pub said-first : (ts : List Lexeme) (s : Standing) (d : TextDraft) → IsRead nesting_limit [] [] s → d ≡ nothing
    → IsSaid ts 0 s d
said-first ts s d r e = record {
  kinds = [];
  are_kinds = none;
  es = [];
  read = r;
  items = [];
  are_items = none;
  says = e;
}

-- ---- one more token

pub said-count : {ts : List Lexeme} {n : ℕ} {s : Standing} {d : TextDraft} (w : IsSaid ts n s d) (t : Lexeme)
    (rest : List Lexeme)
    → drop n ts ≡ t ∷ rest → n ≡ length w.kinds
said-count {ts} {n} w t rest e = sym (length-take-one n ts t rest e) ∙ each-length w.are_kinds

more-kinds : {ts : List Lexeme} {n : ℕ} {s : Standing} {d : TextDraft} (w : IsSaid ts n s d) (t : Lexeme)
    (rest : List Lexeme)
    (o : Symbol) → drop n ts ≡ t ∷ rest → TokenIs t.kind t.text o
    → Each HasKind (take (n + 1) ts) (w.kinds ++ o.kind ∷ [])
more-kinds {ts} {n} w t rest o e h =
    subst (λ (l : List Lexeme). Each HasKind l (w.kinds ++ o.kind ∷ []))
    (sym (ap (λ (m : ℕ). take m ts) (add-one n) ∙ take-one n ts t rest e))
    (each-one w.are_kinds (o, h, refl))

pub said-dropped : {ts : List Lexeme} {n : ℕ} {s : Standing} {d : TextDraft} (w : IsSaid ts n s d) (t : Lexeme)
    (rest : List Lexeme)
    (o : Symbol) (s' : Standing) → drop n ts ≡ t ∷ rest → TokenIs t.kind t.text o
    → IsRead nesting_limit (w.kinds ++ o.kind ∷ []) (w.es ++ kept_as None n o.kind) s' → IsSaid ts (n + 1) s' d
said-dropped {ts} {n} w t rest o s' e h r = record {
  kinds = w.kinds ++ o.kind ∷ [];
  are_kinds = more-kinds w t rest o e h;
  es = w.es;
  read = subst (λ (es : List Event). IsRead nesting_limit (w.kinds ++ o.kind ∷ []) es s') (append-nil w.es) r;
  items = w.items;
  are_items = w.are_items;
  says = w.says;
}

take-last : (d : TextDraft) (is : List Item) (i : Item) → take_items d (is ++ i ∷ []) ≡ take_item (take_items d is) i
take-last d [] i = refl
take-last d (j ∷ is) i = take-last (take_item d j) is i

abbrev item : Role → ℕ → Symbol → List ℕ → List ℕ → Item
item r n o text bytes = record { role = r; word = kept_token n o text; bytes = bytes }

pub said-kept : {ts : List Lexeme} {n : ℕ} {s : Standing} {d : TextDraft} (w : IsSaid ts n s d) (t : Lexeme)
    (rest : List Lexeme)
    (o : Symbol) (role : Role) (bytes : List ℕ) (s' : Standing) (d' : TextDraft) → drop n ts ≡ t ∷ rest
    → TokenIs t.kind t.text o
    → IsRead nesting_limit (w.kinds ++ o.kind ∷ []) (w.es ++ kept_as (Some role) n o.kind) s'
    → StandsFor t.kind t.text bytes → d' ≡ take_by role (kept_token n o t.text) bytes d → IsSaid ts (n + 1) s' d'
said-kept {ts} {n} w t rest o role bytes s' d' e h r b q = record {
  kinds = w.kinds ++ o.kind ∷ [];
  are_kinds = more-kinds w t rest o e h;
  es = w.es ++ kept role (at n (word o.kind)) ∷ [];
  read = r;
  items = w.items ++ item role n o t.text bytes ∷ [];
  are_items = each-one w.are_items (record {
    lexeme = t;
    rest = rest;
    stands = e;
    event = refl;
    symbol = h;
    text = refl;
    bytes = b;
  });
  says = q ∙ ap (λ (x : TextDraft). take_by role (kept_token n o t.text) bytes x) w.says
      ∙ sym (take-last nothing w.items (item role n o t.text bytes));
}

-- ---- a token that no text has there

pub said-refused : {ts : List Lexeme} {n : ℕ} {s : Standing} {d : TextDraft} (w : IsSaid ts n s d) (t : Lexeme)
    (rest : List Lexeme)
    (o : Symbol) (f : Refusal) → drop n ts ≡ t ∷ rest → InOrder 0 ts → TokenIs t.kind t.text o
    → ((later : List Kind) → IsRefusal nesting_limit (w.kinds ++ o.kind ∷ later) f) → IsFault ts (of_refusal f)
said-refused w t rest o refusal.Memory e order h f = tt
said-refused {ts} {n} w t rest o (refusal.Bad p y) e order h f =
    let later = some-kinds t.stop rest (order-from n 0 ts t rest order e) in
    let whole : Each HasKind (take n ts ++ t ∷ rest) (w.kinds ++ o.kind ∷ later.0) = each-append w.are_kinds
    (more (o, h, refl) later.1) in
    let same : take n ts ++ t ∷ rest ≡ ts = ap (λ (l : List Lexeme). take n ts ++ l) (sym e) ∙ take-append-drop n ts in
    record {
      kinds = w.kinds ++ o.kind ∷ later.0;
      are_kinds = subst (λ (l : List Lexeme). Each HasKind l (w.kinds ++ o.kind ∷ later.0)) same whole;
      first = f later.0;
    }

-- ---- the end

take-whole : {X : Type 0} (xs : List X) → take (length xs) xs ≡ xs
take-whole [] = refl
take-whole (x ∷ xs) = ap (λ (l : List _). x ∷ l) (take-whole xs)

whole-kinds : {ts : List Lexeme} {n : ℕ} {s : Standing} {d : TextDraft} (w : IsSaid ts n s d) → n ≡ length ts
    → Each HasKind ts w.kinds
whole-kinds {ts} w e =
    subst (λ (l : List Lexeme). Each HasKind l w.kinds) (ap (λ (m : ℕ). take m ts) e ∙ take-whole ts) w.are_kinds

pub said-whole : {ts : List Lexeme} {n : ℕ} {s : Standing} {d : TextDraft} (w : IsSaid ts n s d) → n ≡ length ts
    → IsText nesting_limit w.kinds w.es → Folds ts d.fields
said-whole w e h = record {
  kinds = w.kinds;
  are_kinds = whole-kinds w e;
  es = w.es;
  text = h;
  items = w.items;
  are_items = w.are_items;
  gives = ap (λ (x : TextDraft). x.fields) w.says;
}

pub said-unended : {ts : List Lexeme} {n : ℕ} {s : Standing} {d : TextDraft} (w : IsSaid ts n s d) → n ≡ length ts
    → FirstKindFault nesting_limit w.kinds (length w.kinds) why.End → FirstFault ts n why.End
said-unended w e h = record {
  kinds = w.kinds;
  are_kinds = whole-kinds w e;
  first = subst (λ (m : ℕ). FirstKindFault nesting_limit w.kinds m why.End) (sym (e ∙ each-length (whole-kinds w e))) h;
}
