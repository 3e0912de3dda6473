use Rattle.std.proofs.Common.{[], ◌∷◌, refl, codes}
use Rattle.wc_tokens.specs.Standard.Lexemes.{is_idchar}
use Rattle.wc_print.specs.Standard.Printed.{opening, closing, word, next, after, below}
use Rattle.wc_print.proofs.Writing.Going.{literal, chain}
use Rattle.wc_print.proofs.types.FuncTypeField.put.Goals as goal

pub returns : goal.returns
unfolding is_idchar
returns g c =
    chain
    (literal (below 2 opening ∷ next (word (codes "type")) ∷ after opening ∷ next (word (codes "func")) ∷ [])
    (tt, (refl, (tt, (refl, tt)))) c.put.ensures)
    (chain (rw c.as_slice.ensures at c.put_values.ensures (codes "param") refl refl)
    (chain (rw c.as_slice-2.ensures at c.put_values-2.ensures (codes "result") refl refl)
    (literal (next closing ∷ next closing ∷ []) (tt, (tt, tt)) c.put-2.ensures)))
