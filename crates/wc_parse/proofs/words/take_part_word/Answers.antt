use Rattle.std.proofs.Common.{sym, subst, ◌∙◌, OnOk}
use Rattle.wc_tokens.specs.Standard.Tokens.{lexeme_of}
use Rattle.wc_body.specs.Standard.Nested.{nesting_limit}
use Rattle.wc_syntax.specs.Standard.Reading.{Standing, IsRead}
use Rattle.wc_parse.specs.Kept.SaidSoFar.{SaysMore}
use Rattle.wc_parse.proofs.Saying.Said.{said-count, said-dropped}
use Rattle.wc_parse.proofs.words.take_part_word.Goals as goal

pub returns-then-take_part_word-clause-said : goal.returns-then-take_part_word-clause-said
returns-then-take_part_word-clause-said c = λ ts rest w e.
    said-dropped w _ rest _ _ e c.requires.symbol
    (c.take_part_word.ensures.read c.if-take_part_word.true nesting_limit c.args.at w.kinds w.es w.read
    (said-count w _ rest e))

pub returns-then-take_first_word-clause-said : goal.returns-then-take_first_word-clause-said
returns-then-take_first_word-clause-said c = λ ts rest w e.
    said-dropped w _ rest _ _ e c.requires.symbol
    (c.take_first_word.ensures.read c.if-take_first_word.true nesting_limit c.args.at w.kinds w.es
    (subst (λ (s : Standing). IsRead nesting_limit w.kinds w.es s)
    (sym (c.take_part_word.ensures.stays c.if-take_part_word.false)) w.read)
    (said-count w _ rest e))

pub returns-clause-said : goal.returns-clause-said
returns-clause-said c =
    subst
    (λ (s : Standing). OnOk c.take_any.result
    (SaysMore (lexeme_of c.args.token.now) c.args.at s c.args.draft.now c.take_any.new.reading c.take_any.new.draft))
    (c.take_first_word.ensures.stays c.if-take_first_word.false
    ∙ c.take_part_word.ensures.stays c.if-take_part_word.false) c.take_any.ensures.said
