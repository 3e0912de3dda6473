use Rattle.std.proofs.Common.{◌∙◌}
use Rattle.wc_spaces.proofs.Listing.{pushed}
use Rattle.wc_spaces.proofs.types.Types.add.Goals as goal

pub returns-clause-types : goal.returns-clause-types
returns-clause-types c = λ ts w.
    pushed ts _ _ c.args.key _ w (c.len-place.ensures
    ∙ c.args.self.now.keys.ok.0) c.in_ok-push.ensures.items c.in_ok-add.ensures.ok
