-- The grammar: what each rule says.
use Rattle.wc_syntax.specs.Standard.Phrases.{Phrase, Nonterminal, text, modulefield, offset, instr, foldedinstr, export}
use Rattle.wc_syntax.specs.Standard.Phrases.{local, typeuse, param, result}
use Rattle.wc_syntax.specs.Standard.Types.{param_body, result_body, local_body, typeuse_body}
use Rattle.wc_syntax.specs.Standard.Instructions.{instr_body, foldedinstr_body}
use Rattle.wc_syntax.specs.Standard.Fields.{export_body, offset_body, modulefield_body, text_body}

-- the right-hand side of each production (Core 1.0, 6.4 to 6.6)
abbrev pub body : Nonterminal → Phrase
body (text d) = text_body d
body (modulefield d) = modulefield_body d
body (offset d) = offset_body d
body (instr d) = instr_body d
body (foldedinstr d) = foldedinstr_body d
body export = export_body
body local = local_body
body typeuse = typeuse_body
body param = param_body
body result = result_body
