use Rattle.std.proofs.Common.{[], ◌∷◌, refl, codes}
use Rattle.wc_tokens.specs.Standard.Lexemes.{is_idchar}
use Rattle.wc_print.specs.Standard.Printed.{opening, closing, word, next, below}
use Rattle.wc_print.proofs.Writing.Going.{literal, chain}
use Rattle.wc_print.proofs.segments.ElemField.put.Goals as goal

pub returns : goal.returns
unfolding is_idchar
returns g c =
    chain
    (literal (below 2 opening ∷ next (word (codes "elem")) ∷ []) (tt, (refl, tt)) c.put.ensures)
    (chain c.put_number.ensures
    (chain c.put_place.ensures
    (chain (rw c.as_slice.ensures at c.put_indices.ensures)
    (literal (next closing ∷ []) (tt, tt) c.put-2.ensures))))
