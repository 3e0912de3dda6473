use Rattle.std.proofs.Common.{[], Some, refl}
use Rattle.wc_canon.proofs.Streams.{text-judged, text-refused, near-read}
use Rattle.wc_canon.proofs.from_reader.read_nothing.Goals as goal

pub returns-in_err-read-clause-judges : goal.returns-in_err-read-clause-judges
returns-in_err-read-clause-judges c =
    text-refused (Some []) [] _ _ refl refl c.in_err-read.ensures.fault c.from_residual.ensures.1

pub returns-clause-judges : goal.returns-clause-judges
returns-clause-judges c = text-judged (Some []) [] _ refl refl c.in_ok-read.ensures.ok

pub returns-in_err-read-clause-near : goal.returns-in_err-read-clause-near
returns-in_err-read-clause-near c = near-read (Some []) 0 _ _ refl c.from_residual.ensures.1
