use Rattle.std.proofs.Common.{[], ◌∷◌, refl, sym, ◌∙◌, codes}
use Rattle.wc_tokens.specs.Standard.Lexemes.{is_idchar}
use Rattle.wc_print.specs.Standard.Printed.{opening, closing, word, next, after, below}
use Rattle.wc_print.specs.Standard.Layout.{kind_word}
use Rattle.wc_print.proofs.Reading.Naming.{kind-word}
use Rattle.wc_print.proofs.Writing.Going.{literal, text, chain}
use Rattle.wc_print.proofs.externals.put_export.Goals as goal

pub returns : goal.returns
unfolding is_idchar
returns g c =
    let kind = c.args.export.now.kind in
    chain
    (literal (below 2 opening ∷ next (word (codes "export")) ∷ []) (tt, (refl, tt)) c.put.ensures)
    (chain (rw (c.as_bytes-name.ensures.value ∙ c.name.ensures.bytes) at c.put_string.ensures)
    (chain
    (text (after opening ∷ next (word (kind_word kind)) ∷ []) (tt, (kind-word kind, tt))
    (c.as_bytes.ensures.value ∙ (rw c.kind-kind.ensures at c.kind_text.ensures)) c.put-2.ensures)
    (chain (rw c.index-index.ensures at c.put_number.ensures)
    (literal (next closing ∷ next closing ∷ []) (tt, (tt, tt)) c.put-3.ensures))))

pub returns-then-is_short_export : goal.returns-then-is_short_export
returns-then-is_short_export g c =
    rw (sym c.kind-kind.ensures ∙ c.in-Func.is)
    (rw (c.as_bytes-name.ensures.value ∙ c.name.ensures.bytes, c.index-index.ensures) at c.put_short_export.ensures)
