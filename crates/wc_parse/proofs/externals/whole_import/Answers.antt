use Rattle.std.proofs.Common.{◌+◌, subst}
use Rattle.wc_tokens.specs.Standard.Streams.{Unread}
use Rattle.wc_parse.specs.Kept.Passing.{IsTyped}
use Rattle.wc_parse.proofs.Saying.Externals.{import-says, named-import-says}
use Rattle.wc_parse.proofs.externals.whole_import.Goals as goal

pub returns-in_default-identifier-clause-says : goal.returns-in_default-identifier-clause-says
returns-in_default-identifier-clause-says c =
    import-says c.args.at _ _ c.in-Some-typed.ty c.in_ok-field.field (rw c.in-Some.is at c.in_ok-module.ensures)
    (subst (λ (u : Unread). IsTyped u (c.args.at + 6) c.in-Some-typed.ty c.typed.new.ahead)
    (c.identifier.ensures.none c.in_default-identifier.is) c.in-Some-typed.ensures)
    c.in_ok-field.ensures

pub returns-clause-says : goal.returns-clause-says
returns-clause-says c =
    let found = c.in-Some-identifier.ensures.found in
    named-import-says c.args.at _ _ c.in-Some-identifier.id c.in-Some-typed-2.ty c.in_ok-field-2.field
    (rw c.in-Some.is at c.in_ok-module.ensures) found.0 found.1 c.in-Some-typed-2.ensures c.in_ok-field-2.ensures
