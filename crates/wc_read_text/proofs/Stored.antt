-- What a text denotes, and the first fault of its names: just those that its fields have as they are stored.
use Rattle.std.proofs.Common.{◌≡◌, ℕ, List, map, refl, subst, arith}
use Rattle.wc_ast.specs.declared.module.Module.{Module}
use Rattle.wc_tokens.specs.Standard.Lexemes.{Lexeme, Lexes}
use Rattle.wc_tokens.specs.Standard.Tokens.{InOrder}
use Rattle.wc_tokens.proofs.Lexing.SpanLaws.{InOrder-Lexed}
use Rattle.wc_surface.specs.declared.field.Field.{Field as StoredField}
use Rattle.wc_surface.specs.Standard.Written.Fields.{Field}
use Rattle.wc_parse_field.specs.Stored.Fields.{field_as}
use Rattle.wc_parse.specs.Standard.Productions.{SaysFields}
use Rattle.wc_parse.specs.Standard.Meaning.{Syn}
use Rattle.wc_parse.specs.Standard.Wholes.{SaysText}
use Rattle.wc_parse.proofs.Tokens.Forms.{few-tokens}
use Rattle.wc_resolve_code.specs.declared.why.NameWhy.{NameWhy}
use Rattle.wc_resolve.specs.Standard.Denoted.{Names as Denote, FirstFault as FirstStored}
use Rattle.wc_meaning.specs.Stored.Placed.{ArePlaced}
use Rattle.wc_meaning.proofs.Joined.{stored-means, stored-fault}
use Rattle.wc_meaning.proofs.Codes.Placing.{text-placed}
use Rattle.wc_read_text.specs.Standard.Texts.{Txt}
use Rattle.wc_read_text.specs.Standard.Faults.{byte_of, IsNameFault}

pub in-order : (text : List ℕ) (ts : List Lexeme) → Lexes text ts → InOrder 0 ts
in-order text ts p = InOrder-Lexed p.lexed p.short (omega arith) 0 (omega arith)

-- the longest text has fewer tokens than 2^32, so all that instructions name is found at its places
placed : (text : List ℕ) (ts : List Lexeme) (fields : List Field) → Lexes text ts → SaysFields ts fields
    → ArePlaced fields
placed text ts fields p s = text-placed ts fields (few-tokens ts (in-order text ts p)) s

pub as-stored : (ts : List Lexeme) (fields : List Field) → SaysFields ts fields → Syn ts (map field_as fields)
as-stored ts fields s = record { written = fields; says = s; stored = refl }

-- ---- the module

-- the text says fields as they are stored, which denote the module
pub record IsStoredText (text : List ℕ) (m : Module) : Type 0 where
  pub fields : List StoredField
  pub says : SaysText text fields
  pub names : Denote fields m

pub stored-text : (text : List ℕ) (m : Module) → IsStoredText text m → Txt text m
stored-text text m p =
    let w = p.says.says in record {
      tokens = p.says.tokens;
      fields = w.written;
      lexes = p.says.lexes;
      says = w.says;
      means = stored-means w.written m (placed text p.says.tokens w.written p.says.lexes w.says)
          (subst (λ fs. Denote fs m) w.stored p.names);
    }

-- ---- the first fault of the names

-- the text says fields as they are stored, and this is the first fault of their names
pub record IsStoredFault (text : List ℕ) (token at : ℕ) (why : NameWhy) : Type 0 where
  pub fields : List StoredField
  pub says : SaysText text fields
  pub first : FirstStored fields token why
  pub place : at ≡ byte_of text says.tokens token

pub stored-named : (text : List ℕ) (token at : ℕ) (why : NameWhy) → IsStoredFault text token at why
    → IsNameFault text token at why
stored-named text token at why p =
    let w = p.says.says in record {
      tokens = p.says.tokens;
      fields = w.written;
      lexes = p.says.lexes;
      says = w.says;
      first = stored-fault w.written token why (placed text p.says.tokens w.written p.says.lexes w.says)
          (subst (λ fs. FirstStored fs token why) w.stored p.first);
      place = p.place;
    }
