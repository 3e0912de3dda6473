use Rattle.wc_symbols.proofs.Spelling.StringLemmas.{string-name, string-text}
use Rattle.wc_symbols.proofs.string.string.Goals as goal

pub returns-then-is_name : goal.returns-then-is_name
returns-then-is_name c =
    string-name c.args.text.now c.requires.0 _ _ c.requires.1 (c.is_name.ensures c.requires.0 c.requires.1)
    c.if-is_name.true
    c.bare.ensures

pub returns-else-is_name : goal.returns-else-is_name
returns-else-is_name c =
    string-text c.args.text.now c.requires.0 _ _ c.requires.1 (c.is_name.ensures c.requires.0 c.requires.1)
    c.if-is_name.false
    c.bare-else-is_name.ensures
