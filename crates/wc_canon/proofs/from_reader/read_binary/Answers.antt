use Rattle.wc_binary.specs.Standard.Module.{Bin}
use Rattle.wc_binary.specs.Standard.Decoding.{Decodes, DecodesNear, DecodesCut}
use Rattle.std.proofs.Common.{Err}
use Rattle.wc_canon.proofs.Streams.{of-all, begins-as, binary-judged, binary-refused, near-decoded}
use Rattle.wc_canon.proofs.FailedReads.{cut-decoded}
use Rattle.wc_canon.proofs.from_reader.read_binary.Goals as goal

pub returns-in_err-decode_from-clause-judges : goal.returns-in_err-decode_from-clause-judges
returns-in_err-decode_from-clause-judges g c = λ x all.
    binary-refused x _ _ (begins-as x _ _ _ c.requires.some c.requires.is_binary all)
    (of-all x _ _ (λ u. Decodes u (Err c.in_err-decode_from.field-0.0)) all c.in_err-decode_from.ensures.decodes)
    c.from_residual.ensures.1

pub returns-clause-judges : goal.returns-clause-judges
returns-clause-judges g c = λ x all.
    binary-judged x _ (begins-as x _ _ _ c.requires.some c.requires.is_binary all)
    (of-all x _ _ (λ u. Bin u c.in_ok-decode_from.field-0) all c.in_ok-decode_from.ensures.decodes)

pub returns-in_err-decode_from-clause-near : goal.returns-in_err-decode_from-clause-near
returns-in_err-decode_from-clause-near g c = λ x all.
    near-decoded x _ _ _
    (of-all x _ _ (λ u. DecodesNear _ u (Err c.in_err-decode_from.field-0.0)) all c.in_err-decode_from.ensures.near)
    c.from_residual.ensures.1

pub returns-in_err-decode_from-clause-cut : goal.returns-in_err-decode_from-clause-cut
returns-in_err-decode_from-clause-cut g c = λ x all.
    cut-decoded x _ _ (begins-as x _ _ _ c.requires.some c.requires.is_binary all)
    (of-all x _ _ (λ u. DecodesCut u (Err c.in_err-decode_from.field-0.0)) all c.in_err-decode_from.ensures.cut)
    c.from_residual.ensures.1
