-- Tokens say one list of fields, or have one first fault.
use Rattle.std.proofs.Common.{◌≡◌, ℕ, List, [], ◌∷◌, map, ◌⊎◌, inl, inr, refl, sym, ap}
use Rattle.std.proofs.Common.{subst, ◌∙◌}
use Rattle.std.proofs.Common.{Result, Ok, Err, IfOk, IfErr, IsErrAnd, MatchResult}
use Rattle.std.specs.List.{AllByRecursion}
use Rattle.wc_tokens.specs.Standard.Lexemes.{Lexeme}
use Rattle.wc_tokens.specs.Standard.Tokens.{InOrder}
use Rattle.wc_body.specs.Standard.Nested.{nesting_limit}
use Rattle.wc_syntax.specs.declared.kind.Kind.{Kind}
use Rattle.wc_syntax.specs.declared.role.Role.{Role}
use Rattle.wc_syntax.specs.declared.why.SynWhy.{SynWhy}
use Rattle.wc_syntax.specs.Standard.Phrases.{word, mark}
use Rattle.wc_syntax.specs.Standard.Deriving.{Event, kept, at}
use Rattle.wc_syntax.specs.Standard.Parsing.{IsText}
use Rattle.wc_syntax.specs.Standard.Reading.{Standing}
use Rattle.wc_syntax.proofs.Stacks.Exactness.{always-one as kinds-always-one, not-both as kinds-not-both}
use Rattle.wc_syntax.proofs.Stacks.Exactness.{one-fault as kinds-one-fault}
use Rattle.wc_parse_code.specs.Standard.Tokens.{kept_token}
use Rattle.wc_surface.specs.declared.field.Field.{Field}
use Rattle.wc_surface.specs.Standard.Sizes.{IsSurface}
use Rattle.wc_surface.specs.Standard.Written.Fields.{Field as WrittenField}
use Rattle.wc_parse_field.specs.Stored.Fields.{field_as}
use Rattle.wc_parse.specs.declared.text_draft.TextDraft.{TextDraft}
use Rattle.wc_parse.specs.declared.fault.SynFault.{SynFault}
use Rattle.wc_parse.specs.declared.fault.SynFault.TheVariants.{Bad, Memory}
use Rattle.wc_parse.specs.Kept.Texts.{Item, said}
use Rattle.wc_parse.specs.Standard.Kinds.{Each, none, more}
use Rattle.wc_parse.specs.Standard.Meaning.{Syn}
use Rattle.wc_parse.specs.Kept.Folds.{IsItem}
use Rattle.wc_parse.specs.Standard.Faults.{FirstFault, IsFault}
use Rattle.wc_parse.specs.Kept.SaidSoFar.{IsAllSaid}
use Rattle.wc_parse.proofs.Tokens.Forms.{some-kinds, one-kinds, few-tokens}
use Rattle.wc_parse.proofs.Tokens.Strings.{some-meaning}
use Rattle.wc_parse.proofs.Saying.Written.{one-written}
use Rattle.wc_parse.proofs.Saying.Joined.{folds-say, says-folds}
use Rattle.wc_parse.proofs.Sizing.Weights.{item_of, kept-have}
use Rattle.wc_parse.proofs.Sizing.Few.{fewer-than-bytes}
use Rattle.wc_parse.proofs.Tokens.Kept.{Stands, IsThere, all-there}

-- ---- at most one of each, and never both

pub one-list : (ts : List Lexeme) (fs gs : List Field) → Syn ts fs → Syn ts gs → fs ≡ gs
one-list ts fs gs v w =
    v.stored ∙ ap (λ (fs : List WrittenField). map field_as fs) (one-written ts v.written w.written v.says w.says)
    ∙ sym w.stored

pub never-both : (ts : List Lexeme) (fs : List Field) (p : ℕ) (y : SynWhy) → Syn ts fs → FirstFault ts p y → ⊥
never-both ts fs p y v w =
    let s = v.says in
    let kinds : s.kinds ≡ w.kinds = one-kinds s.are_kinds w.are_kinds in
    kinds-not-both nesting_limit w.kinds s.es p y
    (subst (λ (ks : List Kind). IsText nesting_limit ks s.es) kinds s.text) w.first

pub one-fault : (ts : List Lexeme) (p q : ℕ) (y z : SynWhy) → FirstFault ts p y → FirstFault ts q z → (p ≡ q) × (y ≡ z)
one-fault ts p q y z v w =
    let kinds : v.kinds ≡ w.kinds = one-kinds v.are_kinds w.are_kinds in
    kinds-one-fault nesting_limit w.kinds p q y z (rw (sym kinds) v.first) w.first

-- ---- always one

abbrev Items : List Lexeme → List Event → Type 0
Items ts es = (is : List Item) × Each (IsItem ts) es is

one-more : (ts : List Lexeme) (r : Role) (n : ℕ) (k : Kind) → Stands ts n k
    → (i : Item) × IsItem ts (kept r (at n (word k))) i
one-more ts r n k w =
    let s = w.kind.0 in
    let b = some-meaning w.lexeme.kind w.lexeme.text s w.kind.1 in (
      record { role = r; word = kept_token n s w.lexeme.text; bytes = b.0 },
      record {
        lexeme = w.lexeme;
        rest = w.rest;
        stands = w.stands;
        event = ap (λ (x : Kind). kept r (at n (word x))) w.kind.2;
        symbol = w.kind.1;
        text = refl;
        bytes = b.1;
      },
    )

some-items : (ts : List Lexeme) (es : List Event) → AllByRecursion (λ e. IsThere ts (item_of e)) es → Items ts es
some-items ts [] h = ([], none)
some-items ts (kept r (at n (word k)) ∷ es) h =
    let i = one-more ts r n k h.0 in
    let is = some-items ts es h.1 in
    (i.0 ∷ is.0, more i.1 is.1)
some-items ts (kept r (at n mark) ∷ es) h = absurd h.0

pub always-one : (ts : List Lexeme) → InOrder 0 ts
    → ((fields : List Field) × Syn ts fields) ⊎ ((p : ℕ) × (y : SynWhy) × FirstFault ts p y)
always-one ts o =
    let ks = some-kinds 0 ts o in
    elim (kinds-always-one nesting_limit ks.0) [
      | inl (es, h) ↦
          let is = some-items ts es (kept-have (IsThere ts) h (all-there ts ks.0 o ks.1)) in
          inl (
            said is.0,
            folds-say ts (said is.0) (few-tokens ts o) (record {
              kinds = ks.0;
              are_kinds = ks.1;
              es = es;
              text = h;
              items = is.0;
              are_items = is.1;
              gives = refl;
            }),
          )
      | inr (p, y, f) ↦ inr (p, y, record { kinds = ks.0; are_kinds = ks.1; first = f })
    ]

-- each thing that is said has a token of its own
pub few-fields : (ts : List Lexeme) (fields : List Field) → InOrder 0 ts → Syn ts fields → IsSurface fields
few-fields ts fields o s = fewer-than-bytes ts fields o (says-folds ts fields (few-tokens ts o) s)

-- ---- so what is answered is all that could be

abbrev pub Answers : List Lexeme → Result (List Field) SynFault → Type 0
Answers ts result = MatchResult result (λ fields. Syn ts fields) (λ f. IsFault ts f)

-- what is told at the end of all tokens
pub answers-whole : (ts : List Lexeme) (n : ℕ) (s : Standing) (d : TextDraft) (result : Result (List Field) SynFault)
    → IsAllSaid ts n s d → IfOk result (λ fields. (us : List Lexeme) → IsAllSaid us n s d → Syn us fields)
    → IfErr result (λ f. (us : List Lexeme) → IsAllSaid us n s d → IsFault us f) → Answers ts result
answers-whole ts n s d (Ok fields) w says faults = says ts w
answers-whole ts n s d (Err f) w says faults = faults ts w

pub answers-fields : (ts : List Lexeme) (result : Result (List Field) SynFault) → Answers ts result
    → IfOk result (λ fields. Syn ts fields)
answers-fields ts (Ok fields) a = a
answers-fields ts (Err f) a = tt

pub answers-fault : (ts : List Lexeme) (result : Result (List Field) SynFault) → Answers ts result
    → IfErr result (λ f. IsFault ts f)
answers-fault ts (Ok fields) a = tt
answers-fault ts (Err f) a = a

pub only-fields : (ts : List Lexeme) (result : Result (List Field) SynFault) → Answers ts result
    → (fields : List Field) → Syn ts fields → MatchResult result (λ found. found ≡ fields) (λ f. f ≡ Memory)
only-fields ts (Ok found) a fields w = one-list ts found fields a w
only-fields ts (Err Memory) a fields w = refl
only-fields ts (Err (Bad p y)) a fields w = absurd (never-both ts fields p y w a)

pub only-fault : (ts : List Lexeme) (result : Result (List Field) SynFault) → Answers ts result
    → (p : ℕ) (y : SynWhy) → FirstFault ts p y → IsErrAnd result (λ f. (f ≡ Bad p y) ⊎ (f ≡ Memory))
only-fault ts (Ok found) a p y w = absurd (never-both ts found p y a w)
only-fault ts (Err Memory) a p y w = inr refl
only-fault ts (Err (Bad q z)) a p y w = let e = one-fault ts q p z y a w in inl (cc (e.0, e.1))
