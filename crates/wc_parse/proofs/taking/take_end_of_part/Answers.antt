use Rattle.std.proofs.Common.{sym, subst, ◌∙◌}
use Rattle.wc_tokens.specs.Standard.Tokens.{lexeme_of}
use Rattle.wc_body.specs.Standard.Nested.{nesting_limit}
use Rattle.wc_syntax.specs.Standard.Reading.{Standing, IsRead}
use Rattle.wc_syntax.specs.declared.role.Role.TheVariants as role
use Rattle.wc_parse.specs.Kept.SaidSoFar.{SaysMore}
use Rattle.wc_parse.proofs.Saying.Said.{said-count}
use Rattle.wc_parse.proofs.Saying.Usual.{said-end, said-kept-end}
use Rattle.wc_parse.proofs.taking.take_end_of_part.Goals as goal

pub returns-then-take_part_end-clause-said : goal.returns-then-take_part_end-clause-said
returns-then-take_part_end-clause-said c = λ ts rest w e.
    said-end w _ rest _ _ e c.requires.kind c.requires.symbol
    (c.take_part_end.ensures.read c.if-take_part_end.true nesting_limit c.args.at w.kinds w.es w.read
    (said-count w _ rest e))

pub returns-then-take_field_end-clause-said : goal.returns-then-take_field_end-clause-said
returns-then-take_field_end-clause-said c = λ ts rest w e.
    said-kept-end w _ rest _ role.FieldEnd _ _ e c.requires.kind c.requires.symbol
    (c.take_field_end.ensures.read c.if-take_field_end.true nesting_limit c.args.at w.kinds w.es
    (subst (λ (s : Standing). IsRead nesting_limit w.kinds w.es s)
    (sym (c.take_part_end.ensures.stays c.if-take_part_end.false)) w.read)
    (said-count w _ rest e))
    c.in_ok-take_kept.ensures

pub returns-clause-said : goal.returns-clause-said
returns-clause-said c =
    subst
    (λ (s : Standing).
    SaysMore (lexeme_of c.args.token.now) c.args.at s c.args.draft.now c.take_any.new.reading c.take_any.new.draft)
    (c.take_field_end.ensures.stays c.if-take_field_end.false
    ∙ c.take_part_end.ensures.stays c.if-take_part_end.false) c.in_ok-take_any.ensures.said
