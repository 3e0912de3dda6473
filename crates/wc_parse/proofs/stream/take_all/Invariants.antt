use Rattle.std.proofs.Common.{length}
use Rattle.wc_parse.proofs.Tokens.Streams.{IsStream}
use Rattle.wc_parse.proofs.stream.take_all.Given as goal

abbrev pub invariant-loop-token : goal.invariant-loop-token
invariant-loop-token l = IsStream l.text l.at l.lexer l.reading l.draft

abbrev pub decreases-loop-token : goal.decreases-loop-token
decreases-loop-token l = length l.lexer.rest
