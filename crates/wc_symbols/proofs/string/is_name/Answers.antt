use Rattle.std.proofs.Common.{refl, sym, ◌∙◌, ap, ◌==◌}
use Rattle.std.specs.List.{list_any}
use Rattle.wc_symbols.proofs.Spelling.StringLemmas.{plain-name}
use Rattle.wc_symbols.proofs.string.is_name.Goals as goal

pub returns-then-not-contains : goal.returns-then-not-contains
returns-then-not-contains c = λ bytes s. (
  (λ _. plain-name c.args.text.now bytes c.utf8.text (ap (list_any (λ y. y == 92)) (sym c.as_bytes.ensures.value)
      ∙ sym c.contains.ensures.value ∙ c.if-not-contains.true) s),
  (λ _. refl),
)
