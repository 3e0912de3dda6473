use Rattle.std.proofs.Common.{refl}
use Rattle.std.proofs.lemmas.Map.Text.{btree_map_updates_str}
use Rattle.std.specs.BTreeMap.{get}
use Rattle.std.specs.Ordering.{nat_cmp}
use Rattle.wc_spaces.proofs.Numbers.{among}
use Rattle.wc_spaces.proofs.places.Places.put_among.Goals as goal

pub returns-in-Ok-clause-ok : goal.returns-in-Ok-clause-ok
returns-in-Ok-clause-ok c = λ f q.
    among (get nat_cmp c.args.self.now.firsts) c.args.text.now q _ f _ _ _ refl
    (btree_map_updates_str c.args.text.now c.args.self.now.others c.insert.new.self _ c.in-Ok.ensures.updates q)
