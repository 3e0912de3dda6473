use Rattle.std.proofs.Common.{subst, OnOk}
use Rattle.wc_tokens.specs.Standard.Tokens.{lexeme_of}
use Rattle.wc_body.specs.Standard.Nested.{nesting_limit}
use Rattle.wc_syntax.specs.Standard.Reading.{Standing}
use Rattle.wc_syntax.specs.declared.role.Role.TheVariants as role
use Rattle.wc_parse.specs.Kept.SaidSoFar.{SaysMore}
use Rattle.wc_parse.proofs.Saying.Said.{said-count}
use Rattle.wc_parse.proofs.Saying.Usual.{said-word}
use Rattle.wc_parse.proofs.words.take_signed.Goals as goal

pub returns-then-take_literal-clause-said : goal.returns-then-take_literal-clause-said
returns-then-take_literal-clause-said c = λ ts rest w e.
    said-word w _ rest _ role.Literal _ _ e c.requires.kind c.requires.symbol
    (c.take_literal.ensures.read c.if-take_literal.true nesting_limit c.args.at w.kinds w.es w.read
    (said-count w _ rest e))
    c.in_ok-keep.ensures

pub returns-clause-said : goal.returns-clause-said
returns-clause-said c =
    subst
    (λ (s : Standing). OnOk c.take_any.result
    (SaysMore (lexeme_of c.args.token.now) c.args.at s c.args.draft.now c.take_any.new.reading c.take_any.new.draft))
    (c.take_literal.ensures.stays c.if-take_literal.false) c.take_any.ensures.said
