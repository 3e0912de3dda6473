use Rattle.std.proofs.Common.{[], ◌∷◌, refl, sym, ◌∙◌, codes}
use Rattle.wc_tokens.specs.Standard.Lexemes.{is_idchar}
use Rattle.wc_print.specs.Standard.Printed.{opening, closing, word, next, below}
use Rattle.wc_print.proofs.Writing.Going.{literal, chain}
use Rattle.wc_print.proofs.externals.put_import.Goals as goal

pub returns : goal.returns
unfolding is_idchar
returns g c =
    chain
    (literal (below 2 opening ∷ next (word (codes "import")) ∷ []) (tt, (refl, tt)) c.put.ensures)
    (chain (rw (c.as_bytes-module.ensures.value ∙ c.module.ensures.bytes) at c.put_string.ensures)
    (chain (rw (c.as_bytes-name.ensures.value ∙ c.name.ensures.bytes) at c.put_string-2.ensures)
    (chain (rw c.desc-2.ensures at c.put_desc.ensures)
    (literal (next closing ∷ []) (tt, tt) c.put-2.ensures))))

pub returns-then-is_short_import : goal.returns-then-is_short_import
returns-then-is_short_import g c =
    rw (sym c.desc.ensures ∙ c.in-Func.is)
    (rw (
      c.as_bytes-module.ensures.value ∙ c.module.ensures.bytes,
      c.as_bytes-name.ensures.value ∙ c.name.ensures.bytes,
    ) at c.put_short_import.ensures)
