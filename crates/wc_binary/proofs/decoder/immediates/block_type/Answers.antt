use Rattle.std.proofs.Common.{◌≡◌, ◌∷◌, false, refl, rules}
use Rattle.std.proofs.lemmas.Result.{err_from_is_err_and}
use Rattle.wc_binary.specs.Reading.Reading.{read, signed_at}
use Rattle.wc_binary.specs.Standard.Instructions.{is_short, block_type}
use Rattle.wc_binary.proofs.reading.Behind.{leads-fail, byte-leads, first-fails}
use Rattle.wc_binary.proofs.decoder.immediates.block_type.Goals as goal

pub returns-in_err-index : goal.returns-in_err-index
unfolding block_type
returns-in_err-index g c =
    let p = err_from_is_err_and c.from_residual-in_err-index.result c.from_residual-in_err-index.ensures.1 in
    let whole : is_short c.in_ok-first.first ≡ false = search rules in
    let at = (g.S.Source.input c.args.source.now).place in
    let found = rw c.place-at.ensures at c.in_err-index.ensures.gives in
    rw (p.1, p.2) (leads-fail _ _ _ _ (λ x. read block_type at x)
    (byte-leads _ _ c.in_ok-first.first c.in_ok-first.ensures (λ x. read block_type at x)) c.in_err-index.field-0.0
    (first-fails _ _ (λ x. signed_at 33 at (c.in_ok-first.first ∷ x)) (λ x.
    read block_type at (c.in_ok-first.first ∷ x))
    (λ x f q. rw (whole, q) refl) c.in_err-index.field-0.0 found))
