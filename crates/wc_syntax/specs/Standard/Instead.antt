-- Reasons with what stands beside them, as the code has them.
use Rattle.std.specs.Prelude.{List, map, Option, Some, None}
use Rattle.wc_syntax.specs.declared.kind.Kind.{Kind}
use Rattle.wc_syntax.specs.declared.why.SynWhy.{SynWhy}
use Rattle.wc_syntax.specs.declared.reason.Instead.{Instead}
use Rattle.wc_syntax.specs.Standard.Phrases.{Terminal, word, mark}

-- a kind, or where none is given the mark: the name of any instruction
abbrev pub terminal_or_mark : Option Kind → Terminal
terminal_or_mark (Some k) = word k
terminal_or_mark None = mark

-- each reason with the terminal that may stand in the token's place where it holds
abbrev pub wrongs : List Instead → List (SynWhy × Terminal)
wrongs ws = map (λ w. (w.why, terminal_or_mark w.other)) ws
