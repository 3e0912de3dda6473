-- What was put into an outlet.
use Rattle.std.specs.Prelude.{◌≡◌, ℕ, List, Option}
use Rattle.wc_device.specs.Standard.Device.{device_inner, has_failed}
use Rattle.wc_print.specs.declared.outlet.Outlet.{Outlet}
use Rattle.wc_print.specs.Writing.Flows.{FlowsUnless, OnlyWrites}

-- these bytes were put since the outlet was as first, and the writer is the same
pub record HasSent {W : Type 0} (contents : W → Option (List ℕ)) (first now : Outlet W) (said : List ℕ) : Type 0 where
  pub same : now.device.ghost_name ≡ first.device.ghost_name
  pub flows : FlowsUnless (has_failed now.device.now) (contents (device_inner first.device.now))
      (contents (device_inner now.device.now)) now.sent now.waiting.now.items said
  pub calls : OnlyWrites first.device.now now.device.now now.sent
