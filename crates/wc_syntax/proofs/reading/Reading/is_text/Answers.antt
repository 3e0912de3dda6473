use Rattle.std.proofs.Common.{subst, sym, ◌∙◌}
use Rattle.wc_syntax.specs.Standard.Reading.{IsRead, Standing}
use Rattle.wc_syntax.proofs.Parser.Parses.{ended, not-ended}
use Rattle.wc_syntax.proofs.reading.Reading.is_text.Goals as goal

pub returns-clause-text : goal.returns-clause-text
returns-clause-text c limit ks es r h =
    ended limit ks es _ (subst (λ (s : Standing). IsRead limit ks es s) (sym c.self.view_is) r) (sym c.is_end.ensures
    ∙ h)

pub returns-clause-fault : goal.returns-clause-fault
returns-clause-fault c limit ks es r h =
    not-ended limit ks es _ (subst (λ (s : Standing).
    IsRead limit ks es s) (sym c.self.view_is) r) (sym c.is_end.ensures ∙ h)
