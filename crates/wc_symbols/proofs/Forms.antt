-- The tokens of a text have the forms of their kinds.
use Rattle.std.proofs.Common.{ℕ, zero, suc, ◌<◌, List, [], ◌∷◌, length, get_or, arith}
use Rattle.wc_tokens.specs.declared.token.Token.{Token}
use Rattle.wc_tokens.specs.Standard.Lexemes.{HasForm}
use Rattle.wc_tokens.specs.Standard.Tokens.{InOrder, lexemes_of}

pub form-at : (from : ℕ) (ts : List Token) (i : ℕ) (d : Token) → InOrder from (lexemes_of ts) → i < length ts
    → HasForm (get_or ts i d).kind (get_or ts i d).text.now
form-at from [] i d o l = absurd (omega arith)
form-at from (t ∷ ts) zero d o l = o.0.form
form-at from (t ∷ ts) (suc i) d o l = form-at t.stop ts i d o.1 (omega arith)
