use Rattle.std.proofs.Common.{subst, OnOk}
use Rattle.wc_tokens.specs.Standard.Tokens.{lexeme_of}
use Rattle.wc_body.specs.Standard.Nested.{nesting_limit}
use Rattle.wc_syntax.specs.Standard.Reading.{Standing}
use Rattle.wc_syntax.specs.declared.role.Role.TheVariants as role
use Rattle.wc_parse.specs.Kept.SaidSoFar.{SaysMore}
use Rattle.wc_parse.proofs.Saying.Said.{said-count}
use Rattle.wc_parse.proofs.Saying.Usual.{close-token, said-kept-end}
use Rattle.wc_parse.proofs.taking.take_close.Goals as goal

pub returns-then-take_held_end-clause-said : goal.returns-then-take_held_end-clause-said
returns-then-take_held_end-clause-said c = λ ts rest w e.
    said-kept-end w _ rest _ role.HeldEnd _ _ e c.requires.kind
    (close-token _ _ _ c.requires.kind c.bare-symbol.ensures)
    (c.take_held_end.ensures.read c.if-take_held_end.true nesting_limit c.args.at w.kinds w.es w.read
    (said-count w _ rest e))
    c.in_ok-keep.ensures

pub returns-clause-said : goal.returns-clause-said
returns-clause-said c =
    subst
    (λ (s : Standing). OnOk c.take_end_of_part.result
    (SaysMore (lexeme_of c.args.token.now) c.args.at s c.args.draft.now c.take_end_of_part.new.reading
    c.take_end_of_part.new.draft))
    (c.take_held_end.ensures.stays c.if-take_held_end.false) c.take_end_of_part.ensures.said

pub take_end_of_part-requires-clause-symbol : goal.take_end_of_part-requires-clause-symbol
take_end_of_part-requires-clause-symbol c = close-token _ _ _ c.requires.kind c.bare-symbol.ensures
