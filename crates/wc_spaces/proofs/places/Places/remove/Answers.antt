use Rattle.std.proofs.Common.{refl, sym, ap, ◌∙◌}
use Rattle.std.proofs.lemmas.Map.Text.{btree_map_updates_str}
use Rattle.std.specs.BTreeMap.{get}
use Rattle.std.specs.Ordering.{nat_cmp}
use Rattle.wc_spaces.specs.Kept.Places.{number_in}
use Rattle.wc_spaces.proofs.Numbers.{removed, among, free-some, apart-none, apart-some}
use Rattle.wc_spaces.proofs.places.Places.remove.Goals as goal

pub returns-in-None : goal.returns-in-None
returns-in-None c = λ q.
    among (get nat_cmp c.args.self.now.firsts) c.args.text.now q _
    (apart-none _ _
    (ap (get nat_cmp c.args.self.now.firsts) (sym c.number_of-number.ensures) ∙ sym c.in-None.ensures.value))
    _ _ _ refl
    (btree_map_updates_str c.args.text.now c.args.self.now.others c.remove.new.self _ c.remove.ensures.updates q)

pub returns-then-eq : goal.returns-then-eq
returns-then-eq c = λ q.
    removed (get nat_cmp c.args.self.now.firsts) c.args.text.now q _ _ c.number_of-number.ensures
    (free-some _ _ c.in-Some.first.now (sym c.in-Some.ensures.value) (sym c.eq.ensures ∙ c.if-eq.true))
    _ _ (c.remove-then-eq.ensures.updates.0 (number_in q))
    (btree_map_updates_str c.args.text.now c.args.self.now.others c.remove.new.self _ c.remove.ensures.updates q)

pub returns-else-eq : goal.returns-else-eq
returns-else-eq c = λ q.
    among (get nat_cmp c.args.self.now.firsts) c.args.text.now q _
    (apart-some _ _ c.in-Some.first.now
    (ap (get nat_cmp c.args.self.now.firsts) (sym c.number_of-number.ensures) ∙ sym c.in-Some.ensures.value)
    (sym c.eq.ensures ∙ c.if-eq.false))
    _ _ _ refl
    (btree_map_updates_str c.args.text.now c.args.self.now.others c.remove.new.self _ c.remove.ensures.updates q)
