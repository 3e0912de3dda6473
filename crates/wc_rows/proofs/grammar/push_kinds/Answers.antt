use Rattle.wc_symbols.proofs.Forms.{form-at}
use Rattle.wc_rows.proofs.grammar.push_kinds.Goals as goal

pub symbol_of-requires : goal.symbol_of-requires
symbol_of-requires c =
    form-at 0 c.args.tokens.now c.loop-token.token-index _ c.requires c.loop-token-test.true
