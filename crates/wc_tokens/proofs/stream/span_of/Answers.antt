use Rattle.std.proofs.Common.{◌∙◌}
use Rattle.wc_tokens.proofs.Lexing.SpanLaws.{part-utf8, part-whole}
use Rattle.wc_tokens.proofs.stream.span_of.Goals as goal

pub from_utf8_unchecked-requires : goal.from_utf8_unchecked-requires
from_utf8_unchecked-requires c =
    part-utf8 c.args.text.now c.requires.0 c.args.here.now c.args.rest.now c.utf8.text c.requires.1

pub returns-clause-text : goal.returns-clause-text
returns-clause-text c = λ kind stands.
    c.from_utf8_unchecked.ensures ∙ part-whole c.args.text.now kind c.args.here.now c.args.rest.now stands
