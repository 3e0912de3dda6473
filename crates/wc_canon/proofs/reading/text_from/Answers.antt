use Rattle.wc_ast.specs.declared.module.Module.{Module}
use Rattle.wc_device.specs.Standard.Device.{device_inner}
use Rattle.wc_print.specs.Standard.Layout.{layout}
use Rattle.wc_print.specs.Standard.Printed.{text}
use Rattle.wc_canon.specs.declared.running.Job.TheVariants.{Text}
use Rattle.wc_canon.specs.Standard.Run.{IsOutputOf}
use Rattle.wc_canon.specs.declared.fault.Refusal.TheVariants.{Memory}
use Rattle.wc_canon.proofs.Again.{told-alike}
use Rattle.wc_canon.proofs.Streams.{judges-error, near-memory}
use Rattle.wc_canon.proofs.FailedReads.{cut-refused, refused-fails-at, refused-reads-at}
use Rattle.wc_canon.proofs.reading.text_from.Goals as goal

pub returns-in_err-module-clause-judges : goal.returns-in_err-module-clause-judges
returns-in_err-module-clause-judges g c =
    judges-error {V = Module} (λ m. IsOutputOf Text (g.R.Read.remaining (device_inner c.args.r.now)) (text (layout m)))
    _ _ _ _
    c.in_err-module.ensures.judges c.from_residual.ensures.1

pub returns-clause-judges : goal.returns-clause-judges
returns-clause-judges g c = rw c.in_ok-text_of.ensures.layout c.in_ok-module.ensures.judges

pub returns-clause-back : goal.returns-clause-back
returns-clause-back g c = λ short.
    told-alike _ _ _ c.in_ok-module.ensures.judges c.in_ok-text_of.ensures.layout short

-- of the printing memory alone is told
pub returns-in_err-text_of-clause-near : goal.returns-in_err-text_of-clause-near
returns-in_err-text_of-clause-near g c = near-memory _ _ _ c.from_residual-in_err-text_of.ensures.1

pub returns-in_err-text_of-clause-read_at : goal.returns-in_err-text_of-clause-read_at
returns-in_err-text_of-clause-read_at g c = refused-reads-at _ Memory _ c.from_residual-in_err-text_of.ensures.1

pub returns-in_err-text_of-clause-first_failure : goal.returns-in_err-text_of-clause-first_failure
returns-in_err-text_of-clause-first_failure g c = refused-fails-at _ Memory _ c.from_residual-in_err-text_of.ensures.1

pub returns-in_err-text_of-clause-cut : goal.returns-in_err-text_of-clause-cut
returns-in_err-text_of-clause-cut g c = cut-refused _ Memory _ c.from_residual-in_err-text_of.ensures.1
