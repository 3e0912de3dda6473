use Rattle.std.proofs.Common.{sym, subst, ◌∙◌, OnOk}
use Rattle.wc_tokens.specs.Standard.Tokens.{lexeme_of}
use Rattle.wc_body.specs.Standard.Nested.{nesting_limit}
use Rattle.wc_syntax.specs.Standard.Reading.{Standing, IsRead}
use Rattle.wc_syntax.specs.declared.role.Role.TheVariants as role
use Rattle.wc_parse.specs.Kept.SaidSoFar.{SaysMore}
use Rattle.wc_parse.proofs.Saying.Said.{said-count}
use Rattle.wc_parse.proofs.Saying.Usual.{said-word}
use Rattle.wc_parse.proofs.words.take_number.Goals as goal

pub returns-then-take_index-clause-said : goal.returns-then-take_index-clause-said
returns-then-take_index-clause-said c = λ ts rest w e.
    said-word w _ rest _ role.Index _ _ e c.requires.kind c.requires.symbol
    (c.take_index.ensures.read c.if-take_index.true nesting_limit c.args.at w.kinds w.es w.read (said-count w _ rest e))
    c.in_ok-keep.ensures

pub returns-then-take_literal-clause-said : goal.returns-then-take_literal-clause-said
returns-then-take_literal-clause-said c = λ ts rest w e.
    said-word w _ rest _ role.Literal _ _ e c.requires.kind c.requires.symbol
    (c.take_literal.ensures.read c.if-take_literal.true nesting_limit c.args.at w.kinds w.es
    (subst (λ (s : Standing). IsRead nesting_limit w.kinds w.es s)
    (sym (c.take_index.ensures.stays c.if-take_index.false)) w.read)
    (said-count w _ rest e))
    c.in_ok-keep-2.ensures

pub returns-then-take_type_index-clause-said : goal.returns-then-take_type_index-clause-said
returns-then-take_type_index-clause-said c = λ ts rest w e.
    said-word w _ rest _ role.TypeIndex _ _ e c.requires.kind c.requires.symbol
    (c.take_type_index.ensures.read c.if-take_type_index.true nesting_limit c.args.at w.kinds w.es
    (subst (λ (s : Standing). IsRead nesting_limit w.kinds w.es s)
    (sym (c.take_literal.ensures.stays c.if-take_literal.false
    ∙ c.take_index.ensures.stays c.if-take_index.false)) w.read)
    (said-count w _ rest e))
    c.in_ok-keep-3.ensures

pub returns-clause-said : goal.returns-clause-said
returns-clause-said c =
    subst
    (λ (s : Standing). OnOk c.take_any.result
    (SaysMore (lexeme_of c.args.token.now) c.args.at s c.args.draft.now c.take_any.new.reading c.take_any.new.draft))
    (c.take_type_index.ensures.stays c.if-take_type_index.false ∙ c.take_literal.ensures.stays c.if-take_literal.false
    ∙ c.take_index.ensures.stays c.if-take_index.false) c.take_any.ensures.said
