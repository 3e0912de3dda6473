use Rattle.std.proofs.Common.{List, sym, subst, ◌∙◌}
use Rattle.wc_body.specs.Standard.Nested.{nesting_limit}
use Rattle.wc_surface.specs.declared.field.Field.{Field}
use Rattle.wc_parse.specs.Standard.Meaning.{Syn}
use Rattle.wc_parse.proofs.Saying.Said.{said-whole, said-unended}
use Rattle.wc_parse.proofs.Tokens.Forms.{few-tokens}
use Rattle.wc_parse.proofs.Sizing.Few.{fewer-than-bytes}
use Rattle.wc_parse.proofs.Saying.Joined.{folds-say}
use Rattle.wc_parse.proofs.ending.ended.Goals as goal

pub new-requires : goal.new-requires
new-requires c =
    let w = c.requires.1 in
    rw c.take_fields.ensures (fewer-than-bytes c.requires.0 _ w.in_order
    (said-whole w.said w.all
    (c.is_text.ensures.text nesting_limit w.said.kinds w.said.es w.said.read c.if-is_text.true)))

pub returns-then-is_text-clause-ok : goal.returns-then-is_text-clause-ok
returns-then-is_text-clause-ok c = λ ts w.
    subst (λ (fields : List Field). Syn ts fields) (sym (c.new.ensures ∙ c.take_fields.ensures))
    (folds-say ts _ (few-tokens ts w.in_order) (said-whole w.said w.all
    (c.is_text.ensures.text nesting_limit w.said.kinds w.said.es w.said.read c.if-is_text.true)))

pub returns-else-is_text-clause-fault : goal.returns-else-is_text-clause-fault
returns-else-is_text-clause-fault c = λ ts w.
    said-unended w.said w.all
    (c.is_text.ensures.fault nesting_limit w.said.kinds w.said.es w.said.read c.if-is_text.false)
