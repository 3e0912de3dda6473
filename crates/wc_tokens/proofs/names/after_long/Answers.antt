use Rattle.wc_tokens.proofs.Lexing.NameLaws.{idchar-from}
use Rattle.wc_tokens.proofs.names.after_long.Goals as goal

pub after_run_from-requires-clause-idchars : goal.after_run_from-requires-clause-idchars
after_run_from-requires-clause-idchars c k to =
    idchar-from _ (c.type_inv.text k).fits (c.count_before.ensures.none k to)
