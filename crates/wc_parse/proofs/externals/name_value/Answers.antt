use Rattle.wc_parse.proofs.Tokens.Seen.{is-name}
use Rattle.wc_parse.proofs.externals.name_value.Goals as goal

pub returns-in-Name-clause-name : goal.returns-in-Name-clause-name
returns-in-Name-clause-name c = is-name (c.symbol_of_string-symbol.ensures _ c.in_ok-value.ensures) c.in-Name.is
