use Rattle.wc_parse.proofs.stream.fields_or_refusal.Goals as goal

pub ended-requires : goal.ended-requires
ended-requires c = (c.in-Ok.ensures.ok.tokens, c.in-Ok.ensures.ok.all)

pub returns-in-Ok-ended-clause-ok : goal.returns-in-Ok-ended-clause-ok
returns-in-Ok-ended-clause-ok c =
    let w = c.in-Ok.ensures.ok in
    record { tokens = w.tokens; lexes = w.lexes; says = c.in-Ok-ended.ensures.ok w.tokens w.all }

pub returns-clause-fault : goal.returns-clause-fault
returns-clause-fault c =
    let w = c.in-Ok.ensures.ok in
    w.refused c.in-Err-ended.fault c.refused.result (c.in-Err-ended.ensures.fault w.tokens w.all) c.refused.ensures
