-- What all bodies need, and what each of them does.
use Rattle.std.proofs.Common.{◌≡◌, ℕ, ◌<◌, ◌≤◌, Bool, true, false, ◌||◌, List, [], ◌∷◌, map, max}
use Rattle.std.proofs.Common.{inl, inr, refl, arith}
use Rattle.std.specs.Int.{bit_at}
use Rattle.std.proofs.lemmas.Bool.{cases_lt}
use Rattle.std.specs.List.{AllByRecursion}
use Rattle.wc_body.specs.declared.needs.Needs.{Needs}
use Rattle.wc_body.specs.Standard.Needed.{needs_of, own_of, joined, with_bodies}
use Rattle.wc_ast.specs.declared.func.Func.{Func}
use Rattle.wc_check.specs.declared.context.Context.{Context}
use Rattle.wc_check.specs.declared.bodies.Known.{Known}
use Rattle.wc_check.specs.Judging.Enough.{HasRoom, AreSettable, AreMarkedSettable, HasCommon, IsKnown, first_asked}
use Rattle.wc_check.specs.Judging.Enough.{HasOwn}
use Rattle.wc_check.specs.Standard.InstructionRules.{is_constant_at}
use Rattle.wc_check.proofs.Walks.IsEnough.{IsEnough}
use Rattle.wc_check.proofs.Walks.BitLemmas.{bit-one, bit-other}
use Rattle.wc_check.proofs.Walks.EnoughLemmas.{neither}

-- those are not constant that may be set
settable-by : (c : Context) (low : Bool) (needs : Needs)
    → (low ≡ true → AreMarkedSettable c.globals needs.set_below_64)
    → AreSettable c.globals (first_asked low needs.lowest_set_global) needs.set_globals
    → (n : ℕ) → needs.lowest_set_global ≤ n → n < needs.set_globals → (n < 64 → bit_at needs.set_below_64 n ≡ 1)
    → is_constant_at c.globals n ≡ false
settable-by c false needs known run n least most marked = run n least most
settable-by c true needs known run n least most marked = elim (cases_lt n 64) [
  | inl lt ↦ known refl n (marked lt)
  | inr le ↦ run n (omega (arith, least, le)) most
]

-- both together are all
pub enough-by : (c : Context) (known : Known) (locals : ℕ) (needs : Needs) → known.has_common ≡ true
    → IsKnown c known needs → HasOwn c known.low_settable locals (own_of needs) → IsEnough c locals needs
enough-by c known locals needs all h own = let common : HasCommon c needs = h.common all in record {
  rooms = record {
    types = common.types;
    funcs = common.funcs;
    globals = common.globals;
    set_globals = own.rooms.set_globals;
    locals = own.rooms.locals;
    table = common.table;
    memory = common.memory;
    outer_label = common.outer_label;
    over_aligned = common.over_aligned;
  };
  settable = settable-by c known.low_settable needs h.settable own.settable;
}

room-one : (count a b : ℕ) → HasRoom count (max a b) → HasRoom count a
room-one count a b room = (omega (arith, room.0, room.1), omega (arith, room.0, room.1))

room-other : (count a b : ℕ) → HasRoom count (max a b) → HasRoom count b
room-other count a b room = (omega (arith, room.0, room.1), omega (arith, room.0, room.1))

or-other : (a b : Bool) → b ≡ true → (a || b) ≡ true
or-other true b e = refl
or-other false b e = e

-- what both need is there for either
one : (c : Context) (s t : Needs) → HasCommon c (joined s t) → HasCommon c s
one c s t h = record {
  types = room-one c.types s.types t.types h.types;
  funcs = room-one c.funcs s.funcs t.funcs h.funcs;
  globals = room-one _ s.globals t.globals h.globals;
  table = λ e. h.table (rw e refl);
  memory = λ e. h.memory (rw e refl);
  outer_label = (neither s.outer_label t.outer_label h.outer_label).0;
  over_aligned = (neither s.over_aligned t.over_aligned h.over_aligned).0;
}

other : (c : Context) (s t : Needs) → HasCommon c (joined s t) → HasCommon c t
other c s t h = record {
  types = room-other c.types s.types t.types h.types;
  funcs = room-other c.funcs s.funcs t.funcs h.funcs;
  globals = room-other _ s.globals t.globals h.globals;
  table = λ e. h.table (or-other s.table t.table e);
  memory = λ e. h.memory (or-other s.memory t.memory e);
  outer_label = (neither s.outer_label t.outer_label h.outer_label).1;
  over_aligned = (neither s.over_aligned t.over_aligned h.over_aligned).1;
}

-- what is known of both is known of either
known-one : (c : Context) (known : Known) (s t : Needs) → IsKnown c known (joined s t) → IsKnown c known s
known-one c known s t h = record {
  common = λ e. one c s t (h.common e);
  settable = λ e n set. h.settable e n (bit-one s.set_below_64 t.set_below_64 n set);
}

known-other : (c : Context) (known : Known) (s t : Needs) → IsKnown c known (joined s t) → IsKnown c known t
known-other c known s t h = record {
  common = λ e. other c s t (h.common e);
  settable = λ e n set. h.settable e n (bit-other s.set_below_64 t.set_below_64 n set);
}

-- what is known of all functions is known of each
both-each : (c : Context) (known : Known) (s : Needs) (fs : List Func)
    → IsKnown c known (with_bodies s (map (λ f. f.body) fs))
    → IsKnown c known s × AllByRecursion (λ f. IsKnown c known (needs_of f.body)) fs
both-each c known s [] h = (h, tt)
both-each c known s (f ∷ fs) h =
    let rest = both-each c known (joined s (needs_of f.body)) fs h in
    (known-one c known s (needs_of f.body) rest.0, (known-other c known s (needs_of f.body) rest.0, rest.1))

pub known-each : (c : Context) (known : Known) (s : Needs) (fs : List Func)
    → IsKnown c known (with_bodies s (map (λ f. f.body) fs))
    → AllByRecursion (λ f. IsKnown c known (needs_of f.body)) fs
known-each c known s fs h = (both-each c known s fs h).1
