use Rattle.wc_resolve.proofs.Answering.{named, refused}
use Rattle.wc_resolve.proofs.resolving.resolve_fields.Goals as goal

pub returns-clause-module : goal.returns-clause-module
returns-clause-module c =
    named c.args.surface.now c.fields-fields.result.now c.referenced.result c.fields-fields.ensures.fields
    c.in_ok-declared.ensures.sound c.referenced.ensures.module c.referenced.ensures.none

pub returns-clause-fault : goal.returns-clause-fault
returns-clause-fault c =
    refused c.args.surface.now c.fields-fields.result.now c.referenced.result c.fields-fields.ensures.fields
    c.in_ok-declared.ensures.sound c.referenced.ensures.fault
