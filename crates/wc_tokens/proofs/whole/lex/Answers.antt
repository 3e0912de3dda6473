use Rattle.wc_tokens.proofs.Lexing.RunLaws.{lex-only, lex-only-fault}
use Rattle.wc_tokens.proofs.whole.lex.Goals as goal

pub returns-clause-only : goal.returns-clause-only
returns-clause-only c =
    lex-only c.args.text.now c.tokens_or_fault.result c.tokens_or_fault.ensures.tokens c.tokens_or_fault.ensures.fault

pub returns-clause-only_fault : goal.returns-clause-only_fault
returns-clause-only_fault c =
    lex-only-fault c.args.text.now c.tokens_or_fault.result c.tokens_or_fault.ensures.tokens
    c.tokens_or_fault.ensures.fault
