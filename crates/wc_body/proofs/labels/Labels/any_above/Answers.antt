use Rattle.std.proofs.Common.{nat_lt, refl, rules}
use Rattle.std.proofs.lemmas.Iterator.Consumers.{YieldsList-from_first}
use Rattle.std.proofs.lemmas.Iterator.Search.{any_from_yields_List}
use borrow.Author.Tests.{tests}
use Rattle.wc_body.proofs.labels.Labels.any_above.Goals as goal

pub returns : goal.returns
returns c =
    any_from_yields_List (λ n. nat_lt c.args.enclosing n) _ _ _ c.any.ensures.ran
    (YieldsList-from_first (λ n. n) (λ labels. labels) c.args.self refl) (λ x b q k. search (rules, tests))
