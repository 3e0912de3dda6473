use Rattle.std.proofs.lemmas.List.{take_rest}
use Rattle.wc_tokens.specs.Standard.Gaps.{none}
use Rattle.wc_tokens.proofs.Lexing.SpaceLaws.{Gaps-past}
use Rattle.wc_tokens.proofs.heads.behind_blanks.Goals as goal

pub front_between-requires-clause-gaps : goal.front_between-requires-clause-gaps
front_between-requires-clause-gaps c = none

pub front_between-requires-2-clause-gaps : goal.front_between-requires-2-clause-gaps
front_between-requires-2-clause-gaps c =
    let text = c.args.text.now in
    Gaps-past text _ c.min-few.result c.count_blanks.result (take_rest text c.min-few.result)
    (c.in_default.ensures {u = tt}) c.count_blanks.ensures.within c.count_blanks.ensures.blanks
