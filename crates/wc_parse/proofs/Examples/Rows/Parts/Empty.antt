-- Texts without fields.
use Rattle.std.proofs.Common.{List, [], ◌∷◌, refl, codes, lit≤}
use Rattle.wc_tokens.specs.Standard.Lexemes.{is_idchar}
use Rattle.wc_syntax.specs.Standard.Deriving.{then, left, right, none, rule}
use Rattle.wc_parse_field.specs.Standard.Productions.Fields.{AreFields}
use Rattle.wc_parse.proofs.Examples.Rows.Lexed.Tokens.{Placed, near}
use Rattle.wc_parse.proofs.Examples.Rows.Lexed.Reading.{Reads, reads}
use Rattle.wc_parse.proofs.Examples.Rows.Lexed.Words.{lp, rp, module_word}
use Rattle.wc_parse.proofs.Examples.Rows.Lexed.Grammar.{skip, absent}

-- the empty text
nothing : Reads [] []
nothing = reads [] refl (lit≤ tt) (rule (right none)) AreFields.none

-- `(module)`
abbrev module_alone_tokens : List Placed
module_alone_tokens = near lp ∷ near module_word ∷ near rp ∷ []

module_alone : Reads (codes "(module)") []
unfolding is_idchar
module_alone = reads module_alone_tokens refl (lit≤ tt)
    (rule (left (then skip (then skip (then absent (then none skip)))))) AreFields.none
