use Rattle.std.proofs.Common.{List, ℕ, Option, Some, None, MatchOption, IfSome}
use Rattle.wc_ops.specs.declared.val_type.ValType.{ValType as ValueType}
use Rattle.wc_syntax.specs.declared.kind.Kind.TheVariants as kind
use Rattle.wc_symbols.specs.declared.symbol.Value.TheVariants.{ValType}
use Rattle.wc_symbols.specs.Standard.Names.{KeywordIs, keyword_is}
use Rattle.wc_symbols.specs.Standard.Symbols.{valued}
use Rattle.wc_symbols.specs.Standard.Words.{WordIs, known, name}
use Rattle.wc_symbols.proofs.usual.usual_type.Goals as goal

says : (word : List ℕ) (found : Option ValueType)
    → MatchOption found ((t : ValueType) → ¬ (KeywordIs word (valued kind.ValType (ValType t))))
    (λ t. KeywordIs word (valued kind.ValType (ValType t)))
    → IfSome found (λ ty. WordIs word (valued kind.ValType (ValType ty)))
says word None h = tt
says word (Some ty) h = known (name (keyword_is h))

pub returns : goal.returns
returns c = says _ _ c.type_named.ensures
