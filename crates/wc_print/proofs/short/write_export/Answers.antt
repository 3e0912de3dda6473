use Rattle.std.proofs.Common.{[], ◌∷◌, codes, refl}
use Rattle.wc_tokens.specs.Standard.Lexemes.{is_idchar}
use Rattle.wc_print.specs.Standard.Printed.{opening, closing, word, next, after, below}
use Rattle.wc_print.proofs.Writing.Putting.{chain, literal}
use Rattle.wc_print.proofs.short.write_export.Goals as goal

pub returns-clause-put : goal.returns-clause-put
unfolding is_idchar
returns-clause-put c =
    chain (literal (below 2 opening ∷ next (word (codes "export")) ∷ []) (tt, (refl, tt)) c.write-head.ensures.bytes)
    (chain c.write_name-first.ensures.put
    (chain (literal (after opening ∷ next (word (codes "func")) ∷ []) (tt, (refl, tt)) c.write-desc.ensures.bytes)
    (chain c.write_index-number.ensures.put
    (literal (next closing ∷ next closing ∷ []) (tt, (tt, tt)) c.write.ensures.bytes))))
