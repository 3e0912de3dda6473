-- The printed text says its fields.
use Rattle.std.proofs.Common.{◌≡◌, ℕ, suc, ◌≤◌, List, [], ◌∷◌, map, drop, refl, sym, ap, subst, Option, Some, None}
use Rattle.std.proofs.Common.{length, arith}
use Rattle.std.specs.List.{AllByRecursion}
use Rattle.wc_ast.specs.declared.module.Module.{Module}
use Rattle.wc_body.specs.Standard.Nested.{nesting_limit}
use Rattle.wc_tokens.specs.Standard.Lexemes.{Lexeme, spanned, longest}
use Rattle.wc_tokens.proofs.Lexing.SpanLaws.{InOrder-Lexed}
use Rattle.wc_syntax.specs.declared.role.Role.{Role}
use Rattle.wc_print.specs.Standard.Printed.{Printed, opening, closing, word, number, integer, part, quoted, kind_of}
use Rattle.wc_print.specs.Standard.Printed.{spelled, text, Item as Place, token_of, lexemes_in, lexemes}
use Rattle.wc_print.specs.Standard.Printable.{IsSpelled, AreSpelled, IsPrintable}
use Rattle.wc_print.specs.Standard.Layout.{layout}
use Rattle.wc_print.proofs.Reading.Lexing.{Lexes-text}
use Rattle.wc_print.proofs.Reading.ReadStrings.{IsString-escaped}
use Rattle.wc_readback.specs.Grammar.Signs.{Sign}
use Rattle.wc_readback.specs.Grammar.FieldSigns.{signs}
use Rattle.wc_readback.specs.Grammar.Fitting.{Fits}
use Rattle.wc_readback.specs.Grammar.Kept.{Said, said_before, said_from, event_of, kinds_of, kinds, events}
use Rattle.wc_readback.proofs.GrammarLemmas.Symbols.{Says}
use Rattle.wc_readback.proofs.GrammarLemmas.Meaning.{IsSign}
use Rattle.wc_readback.proofs.GrammarLemmas.Same.{tokens_of, whole as same}
use Rattle.wc_readback.proofs.GrammarLemmas.Told.{head, tail}
use Rattle.wc_readback.proofs.GrammarLemmas.Standing.{past}
use Rattle.wc_readback.proofs.GrammarLemmas.Modules.{module-means}
use Rattle.wc_parse.specs.Kept.Texts.{Item}
use Rattle.wc_parse.specs.Standard.Kinds.{Each, none, more, HasKind}
use Rattle.wc_parse.specs.Standard.Meaning.{Syn}
use Rattle.wc_parse.specs.Kept.Folds.{StandsFor, IsItem, Folds}
use Rattle.wc_parse.proofs.Tokens.Forms.{few-tokens}
use Rattle.wc_parse.proofs.Saying.Joined.{folds-say}
use Rattle.wc_readback.specs.Fields.Items.{bytes_in, item_as, item_before, items_from, items}
use Rattle.wc_readback.specs.Fields.Surface.{text_fields}
use Rattle.wc_readback.proofs.FieldLemmas.Whole.{whole}

stands-for : (p : Printed) → IsSpelled p → StandsFor (kind_of p) (spelled p) (bytes_in p)
stands-for opening h = refl
stands-for closing h = refl
stands-for (word w) h = refl
stands-for (number n) h = refl
stands-for (integer z) h = refl
stands-for (part w n) h = refl
stands-for (quoted bytes) h = IsString-escaped bytes h

have-kinds : (size : ℕ) (places : List Place) (ss : List Sign) → map token_of places ≡ tokens_of ss
    → AllByRecursion IsSign ss → Each HasKind (lexemes_in size places) (kinds_of ss)
have-kinds size [] [] e h = none
have-kinds size [] (s ∷ ss) e h = absurd cc
have-kinds size (i ∷ places) [] e h = absurd cc
have-kinds size (i ∷ places) (s ∷ ss) e h =
    more (s.symbol, subst (λ (p : Printed). Says p s.symbol) (sym (ap head e)) h.0, refl)
    (have-kinds size places ss (ap tail e) h.1)

module _ (addresses : ℕ → ℕ × ℕ) (ts : List Lexeme) where
  before : (r : Option Role) (n : ℕ) (s : Sign) (later : List Said) (is : List Item)
      → ((r : Role) → IsItem ts (event_of (record { role = r; at = n; symbol = s.symbol; text = spelled s.token }))
      (item_as addresses r n s))
      → Each (IsItem ts) (map event_of later) is
      → Each (IsItem ts) (map event_of (said_before r n s later)) (item_before addresses r n s is)
  before None n s later is h k = k
  before (Some r) n s later is h k = more (h r) k

  are-items : (size n : ℕ) (places : List Place) (ss : List Sign) → drop n ts ≡ lexemes_in size places
      → map token_of places ≡ tokens_of ss → AllByRecursion IsSign ss → AreSpelled places
      → Each (IsItem ts) (map event_of (said_from n ss)) (items_from addresses n ss)
  are-items size n [] [] e f h k = none
  are-items size n [] (s ∷ ss) e f h k = absurd cc
  are-items size n (i ∷ places) [] e f h k = none
  are-items size n (i ∷ places) (s ∷ ss) e f h k =
      let p = token_of i in
      before s.role n s (said_from (suc n) ss) (items_from addresses (suc n) ss)
      (λ r. record {
        lexeme = spanned size (kind_of p) (spelled p) (text places);
        rest = lexemes_in size places;
        stands = e;
        event = refl;
        symbol = subst (λ (q : Printed). Says q s.symbol) (sym (ap head f)) h.0;
        text = ap spelled (sym (ap head f));
        bytes = subst (λ (q : Printed). StandsFor (kind_of p) (spelled p) (bytes_in q)) (ap head f) (stands-for p k.0);
      })
      (are-items size (suc n) places ss (past ts n _ _ e) (ap tail f) h.1 k.1)

-- the addresses of the bytes do not matter
abbrev nowhere : ℕ → ℕ × ℕ
nowhere n = (0, 0)

pub folds-of : (m : Module) → Fits m → IsPrintable (layout m) → Folds (lexemes (layout m)) (text_fields m)
folds-of m h p =
    let means = module-means nesting_limit (omega arith) m h in
    let size = length (text (layout m)) in
    record {
      kinds = kinds m;
      are_kinds = have-kinds size (layout m) (signs m) (same m).same means.says;
      es = events m;
      text = means.derives 0;
      items = items nowhere m;
      are_items =
          are-items nowhere (lexemes (layout m)) size 0 (layout m) (signs m) refl (same m).same means.says p.spelled;
      gives = sym (whole nowhere m h);
    }

pub syntax-of : (m : Module) → Fits m → IsPrintable (layout m) → length (text (layout m)) ≤ longest
    → Syn (lexemes (layout m)) (text_fields m)
syntax-of m h p short =
    let ts = lexemes (layout m) in
    let l = Lexes-text (layout m) p short in
    let order = InOrder-Lexed l.lexed l.short (omega arith) 0 (omega arith) in
    folds-say ts (text_fields m) (few-tokens ts order) (folds-of m h p)
