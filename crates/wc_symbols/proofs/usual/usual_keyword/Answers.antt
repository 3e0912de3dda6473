use Rattle.std.proofs.Common.{List, ℕ, Option, Some, None, MatchOption, IfSome}
use Rattle.wc_syntax.specs.declared.kind.Kind.{Kind}
use Rattle.wc_symbols.specs.Standard.Names.{KeywordIs, keyword_is}
use Rattle.wc_symbols.specs.Standard.Symbols.{bare}
use Rattle.wc_symbols.specs.Standard.Words.{WordIs, known, name}
use Rattle.wc_symbols.proofs.usual.usual_keyword.Goals as goal

says : (word : List ℕ) (found : Option Kind)
    → MatchOption found ((k : Kind) → ¬ (KeywordIs word (bare k))) (λ k. KeywordIs word (bare k))
    → IfSome found (λ kind. WordIs word (bare kind))
says word None h = tt
says word (Some kind) h = known (name (keyword_is h))

pub returns : goal.returns
returns c = says _ _ c.keyword_kind.ensures
