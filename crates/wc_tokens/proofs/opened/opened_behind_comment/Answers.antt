use Rattle.wc_tokens.proofs.Lexing.OpenedLaws.{opened-behind}
use Rattle.wc_tokens.proofs.opened.opened_behind_comment.Goals as goal

pub returns : goal.returns
returns c =
    opened-behind c.args.word.now (c.in_ok-behind_comment.ensures {u = tt}) c.opened_behind_blanks.result
    c.opened_behind_blanks.ensures
