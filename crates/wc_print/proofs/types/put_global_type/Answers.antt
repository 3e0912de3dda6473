use Rattle.std.proofs.Common.{[], ◌∷◌, refl, codes}
use Rattle.wc_tokens.specs.Standard.Lexemes.{is_idchar}
use Rattle.wc_print.specs.Standard.Printed.{opening, closing, word, next, after}
use Rattle.wc_print.proofs.Writing.Going.{literal, chain}
use Rattle.wc_print.proofs.Writing.Values.{is-true}
use Rattle.wc_print.proofs.types.put_global_type.Goals as goal

pub returns : goal.returns
unfolding is_idchar
returns g c =
    rw (is-true c.args.ty.mutable c.if-not-ty.false)
    (chain
    (literal (after opening ∷ next (word (codes "mut")) ∷ []) (tt, (refl, tt)) c.put.ensures)
    (chain c.put_value_type-2.ensures
    (literal (next closing ∷ []) (tt, tt) c.put-2.ensures)))
