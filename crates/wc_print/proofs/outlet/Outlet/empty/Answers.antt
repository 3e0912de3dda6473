use Rattle.std.proofs.Common.{rules}
use Rattle.wc_print.proofs.outlet.Outlet.empty.Goals as goal

pub returns-clause-says : goal.returns-clause-says
returns-clause-says g c = record {
  all = λ first said h. record {
    same = search rules;
    flows = search rules;
    calls = c.send_behind-self.ensures.calls first.device.now h.calls;
  };
}
