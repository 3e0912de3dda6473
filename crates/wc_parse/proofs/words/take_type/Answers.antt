use Rattle.std.proofs.Common.{subst, OnOk}
use Rattle.wc_tokens.specs.Standard.Tokens.{lexeme_of}
use Rattle.wc_body.specs.Standard.Nested.{nesting_limit}
use Rattle.wc_syntax.specs.Standard.Reading.{Standing}
use Rattle.wc_parse.specs.Kept.SaidSoFar.{SaysMore}
use Rattle.wc_parse.proofs.Saying.Said.{said-count}
use Rattle.wc_syntax.specs.declared.kind.Kind.TheVariants as kind
use Rattle.wc_parse.proofs.Saying.Usual.{said-word-of, type-is-word}
use Rattle.wc_parse.proofs.words.take_type.Goals as goal

pub returns-in-Some-clause-said : goal.returns-in-Some-clause-said
returns-in-Some-clause-said c = λ ts rest w e.
    said-word-of w _ rest _ kind.ValType c.in-Some.role _ _ e c.requires.kind c.requires.symbol c.requires.ty
    (c.in-Some.ensures.read nesting_limit c.args.at w.kinds w.es w.read (said-count w _ rest e))
    (type-is-word c.args.reading.now.place c.in-Some.role _ _ _ c.in-Some.ensures.exact c.in_ok-keep.ensures)

pub returns-clause-said : goal.returns-clause-said
returns-clause-said c =
    subst
    (λ (s : Standing). OnOk c.take_any.result
    (SaysMore (lexeme_of c.args.token.now) c.args.at s c.args.draft.now c.take_any.new.reading c.take_any.new.draft))
    (c.take_type.ensures.stays c.in_default.is) c.take_any.ensures.said
