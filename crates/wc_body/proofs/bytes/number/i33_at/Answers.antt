use Rattle.wc_body.proofs.Packing.Integers.{signed-same, signed-holds}
use Rattle.wc_body.proofs.bytes.number.i33_at.Goals as goal

pub returns-clause-found : goal.returns-clause-found
returns-clause-found c = signed-same 33 c.args.bytes.now c.signed_at.result c.signed_at.ensures

pub returns-clause-holds : goal.returns-clause-holds
returns-clause-holds c = signed-holds 33 c.args.bytes.now c.signed_at.result c.signed_at.ensures
