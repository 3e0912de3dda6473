use Rattle.std.proofs.Common.{◌≤◌, length, IsUtf8}
use Rattle.wc_tokens.specs.Standard.Lexemes.{longest}
use Rattle.wc_tokens.specs.Standard.Tokens.{lexemes_of}
use Rattle.wc_tokens.proofs.Lexing.StreamLaws.{IsKept}
use Rattle.wc_tokens.proofs.whole.tokens_or_fault.Given as goal

abbrev pub invariant-loop-items : goal.invariant-loop-items
invariant-loop-items l = record {
  kept : IsKept l.text l.lexer (lexemes_of l.items.items);
  short : length l.text ≤ longest;
  utf8 : IsUtf8 l.text;
}

abbrev pub decreases-loop-items : goal.decreases-loop-items
decreases-loop-items l = length l.lexer.rest
