use Rattle.std.proofs.Common.{[], ◌∷◌, refl, codes}
use Rattle.wc_tokens.specs.Standard.Lexemes.{is_idchar}
use Rattle.wc_print.specs.Standard.Printed.{opening, closing, word, next, after}
use Rattle.wc_print.proofs.Writing.Going.{literal, chain}
use Rattle.wc_print.proofs.externals.put_desc.Goals as goal

pub returns-in-Func : goal.returns-in-Func
unfolding is_idchar
returns-in-Func g c =
    rw c.in-Func.is
    (chain
    (literal (after opening ∷ next (word (codes "func")) ∷ []) (tt, (refl, tt)) c.put.ensures)
    (chain c.put_type_use.ensures
    (literal (next closing ∷ []) (tt, tt) c.put-in-Func.ensures)))

pub returns-in-Table : goal.returns-in-Table
unfolding is_idchar
returns-in-Table g c =
    rw c.in-Table.is
    (chain
    (literal (after opening ∷ next (word (codes "table")) ∷ []) (tt, (refl, tt)) c.put-in-Table.ensures)
    (chain c.put_limits.ensures
    (literal (after (word (codes "funcref")) ∷ next closing ∷ []) (refl, (tt, tt)) c.put-in-Table-2.ensures)))

pub returns-in-Memory : goal.returns-in-Memory
unfolding is_idchar
returns-in-Memory g c =
    rw c.in-Memory.is
    (chain
    (literal (after opening ∷ next (word (codes "memory")) ∷ []) (tt, (refl, tt)) c.put-in-Memory.ensures)
    (chain c.put_limits-in-Memory.ensures
    (literal (next closing ∷ []) (tt, tt) c.put-in-Memory-2.ensures)))

pub returns-in-Global : goal.returns-in-Global
unfolding is_idchar
returns-in-Global g c =
    rw c.in-Global.is
    (chain
    (literal (after opening ∷ next (word (codes "global")) ∷ []) (tt, (refl, tt)) c.put-in-Global.ensures)
    (chain c.put_global_type.ensures
    (literal (next closing ∷ []) (tt, tt) c.put-in-Global-2.ensures)))
