use Rattle.std.proofs.Common.{◌∙◌, sym, ap, ◌==◌}
use Rattle.std.specs.List.{list_any}
use Rattle.wc_symbols.proofs.Spelling.StringLemmas.{plain-string}
use Rattle.wc_symbols.proofs.string_values.plain_part.Goals as goal

pub returns : goal.returns
returns c =
    let plain = ap (list_any (λ y. y == 92)) (sym c.as_bytes.ensures.value) ∙ sym c.contains.ensures.value
    ∙ c.if-contains.false in
    plain-string c.args.text.now c.requires.0 c.in_ok-part.part.now c.saturating_sub.result plain c.requires.1
    c.saturating_sub.ensures c.in_ok-part.ensures.cases.0
