use Rattle.std.proofs.Common.{[], ◌∷◌, refl, codes}
use Rattle.wc_tokens.specs.Standard.Lexemes.{is_idchar}
use Rattle.wc_print.specs.Standard.Printed.{opening, closing, word, next, after}
use Rattle.wc_print.proofs.Writing.Going.{literal, chain}
use Rattle.wc_print.proofs.segments.put_place.Goals as goal

pub returns : goal.returns
unfolding is_idchar
returns g c =
    chain
    (literal (after opening ∷ next (word (codes "offset")) ∷ []) (tt, (refl, tt)) c.put.ensures)
    (chain c.put_inline.ensures
    (literal (next closing ∷ []) (tt, tt) c.put-2.ensures))
