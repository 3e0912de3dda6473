use Rattle.std.proofs.Common.{[], ◌∷◌, codes, refl}
use Rattle.wc_tokens.specs.Standard.Lexemes.{is_idchar}
use Rattle.wc_print.specs.Standard.Printed.{opening, word, next, below}
use Rattle.wc_print.proofs.Writing.Going.{chain, literal, none-behind, on-page}
use Rattle.wc_print.proofs.heads.begin_func.Goals as goal

pub returns-clause-put : goal.returns-clause-put
unfolding is_idchar
returns-clause-put g c =
    none-behind
    (chain (literal (below 2 opening ∷ next (word (codes "func")) ∷ []) (
      tt,
      (refl, tt),
    ) c.put.ensures) c.put_type_use.ensures)

pub returns-then-index-lt-LIMIT-clause-put : goal.returns-then-index-lt-LIMIT-clause-put
returns-then-index-lt-LIMIT-clause-put g c = on-page _ c.write_head.ensures.put
