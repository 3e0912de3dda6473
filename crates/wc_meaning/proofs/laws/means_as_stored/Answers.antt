use Rattle.wc_meaning.proofs.Joined.{means-stored, stored-means}
use Rattle.wc_meaning.proofs.laws.means_as_stored.Goals as goal

pub returns : goal.returns
returns c = λ fields m p. (means-stored fields m p, stored-means fields m p)
