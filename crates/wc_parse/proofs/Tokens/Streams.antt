-- Texts whose tokens are not kept.
use Rattle.std.proofs.Common.{◌≡◌, inl, inr, ℕ, zero, suc, ◌+◌, ◌<◌, ◌≤◌, List, [], ◌∷◌, length, drop, IsUtf8}
use Rattle.std.proofs.Common.{Option, Some, None, Ok, sym, subst, arith}
use Rattle.wc_tokens.specs.declared.token.Token.{Token}
use Rattle.wc_tokens.specs.declared.fault.Stop.{Stop}
use Rattle.wc_tokens.specs.Standard.Gaps.{Gaps}
use Rattle.wc_tokens.specs.Standard.Lexemes.{Lexeme, HasForm, Lexes, longest}
use Rattle.wc_tokens.specs.Standard.Faults.{lexical, Stops}
use Rattle.wc_tokens.specs.Standard.Streams.{Unread, unread, Gives, IsRead as IsTaken}
use Rattle.wc_tokens.specs.Standard.Tokens.{lexeme_of}
use Rattle.wc_tokens.proofs.Lexing.StreamLaws.{IsReading, IsReading-start, IsReading-token, IsReading-end}
use Rattle.wc_tokens.proofs.Lexing.StreamLaws.{IsReading-rest, IsReading-stop}
use Rattle.wc_body.specs.Standard.Nested.{nesting_limit}
use Rattle.wc_syntax.specs.declared.why.SynWhy.{SynWhy}
use Rattle.wc_syntax.specs.Standard.Reading.{Standing, IsRead}
use Rattle.wc_parse.specs.declared.text_draft.TextDraft.{TextDraft}
use Rattle.wc_parse.specs.declared.fault.SynFault.{SynFault}
use Rattle.wc_parse.specs.declared.fault.SynFault.TheVariants as fault
use Rattle.wc_parse.specs.declared.refusal.TextRefusal.{TextRefusal}
use Rattle.wc_parse.specs.declared.refusal.TextRefusal.TheVariants.{Lex, Syntax, Memory}
use Rattle.wc_parse.specs.Kept.Texts.{nothing}
use Rattle.wc_parse.specs.Standard.Faults.{FirstFault, IsFault}
use Rattle.wc_parse.specs.Standard.Wholes.{IsRefused}
use Rattle.wc_parse.specs.Kept.Refusing.{RefusesBy}
use Rattle.wc_parse.specs.Kept.AllRead.{IsAllRead}
use Rattle.wc_parse.specs.Kept.SaidSoFar.{IsSaid, SaysMore, Refuses}
use Rattle.wc_parse.proofs.Saying.Said.{said-first}
use Rattle.wc_parse.proofs.Tokens.Forms.{few}

-- of the tokens of the text, up to its end or its first fault, so many were read, and say this
pub record IsStream (text : List ℕ) (at : ℕ) (u : Unread) (s : Standing) (d : TextDraft) : Type 0 where
  pub short : length text ≤ longest
  pub utf8 : IsUtf8 text
  pub tokens : List Lexeme
  pub within : at ≤ length tokens
  pub reading : IsReading text tokens at u
  pub said : IsSaid tokens at s d

pub stream-first : (text : List ℕ) (u : Unread) (s : Standing) (d : TextDraft) → u ≡ unread text → length text ≤ longest
    → IsUtf8 text → IsRead nesting_limit [] [] s → d ≡ nothing → IsStream text 0 u s d
stream-first text u s d e short utf8 r q =
    let w = IsReading-start text short in
    record {
      short = short;
      utf8 = utf8;
      tokens = w.0;
      within = omega arith;
      reading = subst (λ (v : Unread). IsReading text w.0 0 v) (sym e) w.1;
      said = said-first w.0 s d r q;
    }

-- ---- one more token

below : {X : Type 0} (n : ℕ) (xs : List X) (x : X) (rest : List X) → drop n xs ≡ x ∷ rest → n < length xs
below zero [] x rest e = absurd cc
below zero (y ∷ xs) x rest e = omega arith
below (suc n) [] x rest e = absurd cc
below (suc n) (y ∷ xs) x rest e = let i = below n xs x rest e in omega (arith, i)

-- it is one of the tokens of the text
pub record IsFound (text : List ℕ) (at : ℕ) (t : Lexeme) (v : Unread) (s : Standing) (d : TextDraft) : Type 0 where
  pub few : at < 4294967296
  pub form : HasForm t.kind t.text
  pub taken : (s' : Standing) (d' : TextDraft) → SaysMore t at s d s' d' → IsStream text (at + 1) v s' d'
  pub refused : (f : SynFault) (r : TextRefusal) → Refuses t at s d f → RefusesBy v f r → IsRefused text r

-- ---- faults

-- a fault of what is left is one of the text
pub stream-stop : {text : List ℕ} {at : ℕ} {u : Unread} {s : Standing} {d : TextDraft} (stop : Stop)
    → IsStream text at u s d → Stops u.size u.rest stop.at stop.why → IsRefused text (Lex stop)
stream-stop stop w h = inr (lexical w.short w.utf8 (IsReading-stop stop.at stop.why w.reading h))

-- what is left of the text decides, of its fault or of that of its tokens
refused-told : {text : List ℕ} {ts : List Lexeme} {at : ℕ} {u : Unread} (f : SynFault) (r : TextRefusal)
    → length text ≤ longest → IsUtf8 text → IsReading text ts at u → IsFault ts f → RefusesBy u f r → IsRefused text r
refused-told fault.Memory r short utf8 reading h e = inl e
refused-told (fault.Bad token why) (Lex stop) short utf8 reading h e =
    inr (lexical short utf8 (IsReading-stop stop.at stop.why reading e))
refused-told {text} {ts} (fault.Bad token why) (Syntax at reason) short utf8 reading h e = inr (record {
  tokens = ts;
  lexes = record { short = short; utf8 = utf8; lexed = IsReading-rest reading e.2.1 };
  first = subst (λ (n : ℕ). FirstFault ts n reason) (sym e.0)
      (subst (λ (y : SynWhy). FirstFault ts token y) (sym e.1) h);
})
refused-told (fault.Bad token why) Memory short utf8 reading h e = absurd e

pub token-found : {text : List ℕ} {at : ℕ} {u v : Unread} {s : Standing} {d : TextDraft} (t : Lexeme)
    → IsStream text at u s d → Gives u t v → IsFound text at t v s d
token-found {text} {at} {u} {v} {s} {d} t w g =
    let n = IsReading-token t w.reading g in
    let under = below at w.tokens t (drop (at + 1) w.tokens) n.stands in
    record {
      few = let l = few w.tokens w.reading.in_order in omega (arith, l, under);
      form = n.form;
      taken = λ s' d' says. record {
        short = w.short;
        utf8 = w.utf8;
        tokens = w.tokens;
        within = omega (arith, under);
        reading = n.reading;
        said = says w.tokens _ w.said n.stands;
      };
      refused = λ f r refuses.
          refused-told f r w.short w.utf8 n.reading (refuses w.tokens _ w.said n.stands w.reading.in_order);
    }

pub stream-token : {text : List ℕ} {at : ℕ} {u v : Unread} {s : Standing} {d : TextDraft} {o : Option Token} (t : Token)
    → IsStream text at u s d → IsTaken u v (Ok o) → o ≡ Some t → IsFound text at (lexeme_of t) v s d
stream-token {u = u} {v = v} t w r e =
    token-found (lexeme_of t) w (subst (λ (x : Option Token). IsTaken u v (Ok x)) e r)

-- ---- the end

past : {X : Type 0} (n : ℕ) (xs : List X) → drop n xs ≡ [] → length xs ≤ n
past zero [] e = omega arith
past zero (y ∷ xs) e = absurd cc
past (suc n) [] e = omega arith
past (suc n) (y ∷ xs) e = let i = past n xs e in omega (arith, i)

all-read : {text : List ℕ} {at : ℕ} {u v : Unread} {s : Standing} {d : TextDraft} → IsStream text at u s d
    → Gaps u.rest [] → v ≡ u → IsAllRead text at v s d
all-read {text} {at} {u} {v} w g same =
    let e = IsReading-end w.reading g in
    let l = past at w.tokens e.all in
    record {
      tokens = w.tokens;
      lexes = record { short = w.short; utf8 = w.utf8; lexed = e.lexed };
      all = record {
        in_order = w.reading.in_order;
        all = let m = w.within in omega (arith, l, m);
        said = w.said;
      };
      refused = λ f r. refused-told f r w.short w.utf8
          (subst (λ (x : Unread). IsReading text w.tokens at x) (sym same) w.reading);
    }

pub stream-end : {text : List ℕ} {at : ℕ} {u v : Unread} {s : Standing} {d : TextDraft} {o : Option Token}
    → IsStream text at u s d → IsTaken u v (Ok o) → o ≡ None → IsAllRead text at v s d
stream-end {u = u} {v = v} w r e =
    let g : IsTaken u v (Ok None) = subst (λ (x : Option Token). IsTaken u v (Ok x)) e r in all-read w g.0 g.1
