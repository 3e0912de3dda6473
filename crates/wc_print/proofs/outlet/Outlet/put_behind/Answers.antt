use Rattle.std.proofs.Common.{◌≡◌, [], refl, rules}
use Rattle.wc_print.proofs.Writing.Flowing.{emptied, more-put}
use Rattle.wc_print.proofs.outlet.Outlet.put_behind.Goals as goal

pub returns-then-not-keep : goal.returns-then-not-keep
returns-then-not-keep g c = record {
  all = λ first said h.
      let has = c.empty.ensures.says.all first said h in
      let put = more-put _ _ _ _ [] _ _ said (emptied _ first _ said c.empty.ensures.none has) refl in
      let sent = c.send_behind-self.ensures.flows _ _ put in
      let none : c.keep.new.waiting.items ≡ [] = search rules in
      record {
        same = search rules;
        flows = rw none sent;
        calls = c.send_behind-self.ensures.calls first.device.now has.calls;
      };
}
