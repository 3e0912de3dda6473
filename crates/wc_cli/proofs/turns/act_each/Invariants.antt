use Rattle.std.proofs.Common.{◌≡◌, ◌<◌, take, false}
use Rattle.wc_device.specs.Standard.Device.{has_failed}
use Rattle.wc_cli.specs.Standard.Turns.{ActsEach}
use Rattle.wc_cli.proofs.turns.act_each.Given as goal

abbrev pub invariant-loop-line : goal.invariant-loop-line
invariant-loop-line g l = record {
  turns : ActsEach g.O.Opens.gives g.O.Opens.takes g.R.Read.remaining g.W.Write.contents g.E.Write.contents l.fn.opens
      l.fn.w l.fn.e (take l.line-index l.lines) l.status l.opens l.w l.e;
  goes_on : 0 < l.line-index → has_failed l.w ≡ false;
}
