use Rattle.std.proofs.Common.{rules}
use Rattle.wc_binary.proofs.source.feed.FeedSource.next.Goals as goal

-- written out, so that a wrong body is refused by this search alone
pub returns-in-Err : goal.returns-in-Err
returns-in-Err g c = search rules
