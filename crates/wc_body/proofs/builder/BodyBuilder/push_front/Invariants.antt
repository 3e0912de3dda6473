use Rattle.std.proofs.Common.{◌≡◌, false, length}
use Rattle.wc_body.proofs.Drafts.Runs.FrontRun.{Fronted}
use Rattle.wc_body.proofs.builder.BodyBuilder.push_front.Given as goal

abbrev pub invariant-entries : goal.invariant-entries
invariant-entries l =
    Fronted l.initial.self-inside.bytes.items l.fn.self l.fitting l.rest l.self-inside.parts.items l.self-inside.needs
    × (l.self-inside.bytes ≡ l.initial.self-inside.bytes) × (l.self-inside.after_else ≡ false)

abbrev pub decreases-entries : goal.decreases-entries
decreases-entries l = length l.rest
