use Rattle.std.proofs.Common.{[], ◌∷◌, codes, refl, arith}
use Rattle.wc_tokens.specs.Standard.Lexemes.{is_idchar}
use Rattle.wc_print.specs.Standard.Printed.{opening, closing, word, next, after}
use Rattle.wc_print.proofs.Writing.Putting.{chain, literal, text}
use Rattle.wc_print.proofs.Writing.Paging.{one-written}
use Rattle.wc_print.proofs.typed_lines.write_type_use.Goals as goal

pub returns-clause-put : goal.returns-clause-put
unfolding is_idchar
returns-clause-put c =
    chain
    (text (after opening ∷ next (word (codes "type")) ∷ []) (tt, (refl, tt)) refl c.write_row-begin.ensures.bytes)
    (chain c.write_number-end.ensures.put
    (literal (next closing ∷ []) (tt, tt) (one-written _ _ 41 (omega arith))))
