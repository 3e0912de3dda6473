-- The canonical bytes of the locals that a function declares.
use Rattle.std.proofs.Common.{◌≡◌, ℕ, zero, suc, ◌+◌, ◌<◌, ◌≤◌, List, [], ◌∷◌, ◌++◌, length, arith}
use Rattle.std.proofs.Common.{Option, Some, None, Result, Ok, Err, inl, inr, refl, sym, ap, subst}
use Rattle.std.specs.List.{AllByRecursion, flat_map}
use Rattle.std.proofs.lemmas.List.{append-nil, length-append}
use Rattle.std.proofs.lemmas.Bool.{cases_lt, lt-ltb, le-ltb}
use Rattle.wc_leb128.specs.Writing.Bytes.{unsigned_bytes}
use Rattle.wc_leb128.proofs.Writing.Lengths.{length-unsigned_bytes-mono}
use Rattle.wc_ast.specs.declared.locals.Group.{Group}
use Rattle.wc_ast.specs.Standard.LocalGroups.{locals_limit, written_out, IsGrouped}
use Rattle.wc_binary.specs.declared.fault.BinWhy.{BinWhy}
use Rattle.wc_binary.specs.declared.fault.EncFault.{EncFault}
use Rattle.wc_binary.specs.declared.fault.EncFault.TheVariants.{Oversize, Memory}
use Rattle.wc_binary.specs.Standard.Style.{Style, canonical}
use Rattle.wc_binary.specs.Standard.Phrase.{Phrase, gives, judged, ◌>>=◌, SpellsBy}
use Rattle.wc_binary.specs.Standard.Values.{u32}
use Rattle.wc_binary.specs.Standard.Types.{value_type}
use Rattle.wc_binary.specs.Standard.Locals.{locals_fault, group, groups, locals}
use Rattle.wc_body.specs.Standard.ValueBytes.{vector_bytes, value_type_bytes, FitsVector}
use Rattle.wc_binary.specs.Writing.Values.{Anything}
use Rattle.wc_binary.specs.Writing.Locals.{group_of, merged, group_bytes, locals_bytes, FitsLocals}
use Rattle.wc_binary.specs.Writing.Writes.{Writes, Measures}
use Rattle.wc_binary.proofs.spelling.Judging.{Judges, HasBytes}
use Rattle.wc_binary.proofs.spelling.Phrases.{of, writes-as, u32-writes, then-writes, seen-writes}
use Rattle.wc_binary.proofs.spelling.Types.{value_type-writes}
use Rattle.wc_binary.proofs.spelling.code.MergedGroups.{counted, length-written_out, counted-merged, length-merged}
use Rattle.wc_binary.proofs.spelling.code.MergedGroups.{written_out-merged, grouped-merged, merged-grouped}
use Rattle.wc_binary.proofs.spelling.code.MergedGroups.{size, length-group_bytes, beaten}

-- ---- one group

-- so many more are no more than may be
abbrev HasRoom : ℕ → ℕ → Type 0
HasRoom total n = total + n ≤ locals_limit

abbrev no_fault : Option (ℕ × BinWhy)
no_fault = None

no-fault : (total n : ℕ) → HasRoom total n → locals_fault total n ≡ None
no-fault total n le = rw (le-ltb locals_limit (total + n) le) refl

has-room : (total n : ℕ) → locals_fault total n ≡ no_fault → HasRoom total n
has-room total n h =
    elim (cases_lt locals_limit (total + n)) [
      | inl lt ↦ let f = rw (lt-ltb locals_limit (total + n) lt) at h in absurd cc
      | inr le ↦ le
    ]

count-writes : (total : ℕ) → HasBytes (of (judged u32 (locals_fault total))) (HasRoom total) unsigned_bytes
count-writes total = record {
  written = λ n h. (u32-writes.written n (omega arith), no-fault total n h);
  told = λ s V j b n h. let t = u32-writes.told s V j b n h.0 in (has-room total n h.1, t.1);
}

abbrev FitsGroup : ℕ → Group → Type 0
FitsGroup total g = HasRoom total g.count

abbrev group_fits : ℕ → Group → Type 0
group_fits total g = HasRoom total g.count × (Anything g.value_type × (g ≡ group_of g.count g.value_type))

type-writes : (n : ℕ) → HasBytes (of (value_type >>= λ t. gives (group_of n t)))
    (λ g. Anything g.value_type × (g ≡ group_of n g.value_type)) (λ g. value_type_bytes g.value_type)
type-writes n =
    seen-writes value_type Anything value_type_bytes value_type-writes (group_of n) (λ g. g.value_type) (λ t. refl)

group-writes : (total : ℕ) → HasBytes (of (group total)) (FitsGroup total) group_bytes
unfolding group
group-writes total =
    writes-as (of (group total)) (group_fits total) (FitsGroup total) group_bytes group_bytes
    (then-writes (judged u32 (locals_fault total)) (λ n. value_type >>= λ t. gives (group_of n t))
    (HasRoom total) unsigned_bytes
    (λ n g. Anything g.value_type × (g ≡ group_of n g.value_type))
    (λ n g. value_type_bytes g.value_type)
    (λ g. g.count)
    (count-writes total)
    type-writes
    (λ s n b v h. sym (ap (λ (x : Group). x.count) h.5.1)))
    (λ g h. h.0) (λ g h. (h, (tt, refl))) (λ g. refl)

-- ---- the canonical bytes spell the groups

groups-written : (gs : List Group) (total : ℕ) → total + counted gs ≤ locals_limit
    → SpellsBy canonical (groups (length gs) total) (flat_map group_bytes gs) gs
groups-written [] total h = (refl, refl)
groups-written (g ∷ gs) total h =
    let bytes = flat_map group_bytes gs in
    let first = (group-writes total).written g (omega arith) in
    let rest = groups-written gs (total + g.count) (omega arith) in
    (group_bytes g, bytes, g, refl, first, (bytes, [], gs, sym (append-nil bytes), rest, (refl, refl)))

-- a count, and so many groups
abbrev vector_of_groups : Phrase (List Group)
vector_of_groups = u32 >>= λ n. groups n 0

vector-written : (gs : List Group) → length gs ≤ locals_limit → counted gs ≤ locals_limit
    → SpellsBy canonical vector_of_groups (vector_bytes group_bytes gs) gs
vector-written gs few all =
    let n = length gs in
    let count = u32-writes.written n (omega arith) in
    (unsigned_bytes n, flat_map group_bytes gs, n, refl, count, groups-written gs 0 (omega arith))

-- fewer bytes for groups that are fewer and smaller
shorter-vector : (gs r : List Group) → length r ≤ length gs → size r < size gs
    → length (vector_bytes group_bytes r) < length (vector_bytes group_bytes gs)
shorter-vector gs r few less = omega (
  arith,
  length-unsigned_bytes-mono (length r) (length gs) few,
  length-append (unsigned_bytes (length gs)) (flat_map group_bytes gs),
  length-append (unsigned_bytes (length r)) (flat_map group_bytes r),
  length-group_bytes gs,
  length-group_bytes r,
)

-- ---- what a style says of any bytes that spell them

module _ (s : Style) (V : List ℕ → List ℕ → Type 0) (j : Judges s V) where
  record Told (n total : ℕ) (b : List ℕ) (gs : List Group) : Type 0 where
    many : n ≡ length gs
    room : total + counted gs ≤ locals_limit
    verdict : V b (flat_map group_bytes gs)

  groups-told : (n total : ℕ) (b : List ℕ) (gs : List Group) → total ≤ locals_limit
      → SpellsBy s (groups n total) b gs → Told n total b gs
  groups-told zero total b gs le h =
      let none = h.1 in
      rw (none, h.0) (record { many = refl; room = omega arith; verdict = j.same [] })
  groups-told (suc n) total b gs le h =
      let first = (group-writes total).told s V j h.0 h.2 h.4 in
      let k = h.5 in
      let rest = groups-told n (total + (h.2).count) k.0 k.2 first.0 k.4 in
      let e : gs ≡ h.2 ∷ k.2 = k.5.1 in
      let bytes : b ≡ h.0 ++ k.0 = rw (h.3, k.3, k.5.0, append-nil) refl in
      rw (e, bytes) (record {
        many = ap suc rest.many;
        room = omega (arith, rest.room);
        verdict = j.join h.0 k.0 (group_bytes h.2) (flat_map group_bytes k.2) first.1 rest.verdict;
      })

  vector-told : (b : List ℕ) (gs : List Group) → SpellsBy s vector_of_groups b gs
      → (counted gs ≤ locals_limit) × V b (vector_bytes group_bytes gs)
  vector-told b gs h =
      let n = u32-writes.told s V j h.0 h.2 h.4 in
      let t = groups-told h.2 0 h.1 gs (omega arith) h.5 in
      let long = t.many in
      let whole = j.join h.0 h.1 (unsigned_bytes h.2) (flat_map group_bytes gs) n.1 t.verdict in
      (omega (arith, t.room), rw h.3 (rw long at whole))

  -- groups that aren't merged take more bytes than the merged ones
  merged-told : (b : List ℕ) (gs : List Group) → s.Neat (IsGrouped gs) → V b (vector_bytes group_bytes gs)
      → V b (locals_bytes (written_out gs))
  merged-told b gs neat told =
      let r = merged (written_out gs) in
      let k = beaten gs in
      elim k.small [
        | inl e ↦ subst (λ (x : List Group). V b (vector_bytes group_bytes x)) e told
        | inr less ↦
            let long = j.longer b (vector_bytes group_bytes gs) told in
            let shorter = shorter-vector gs r k.few less.1 in
            j.liberty (IsGrouped gs) b (vector_bytes group_bytes r) neat less.0 (omega arith)
      ]

pub locals-writes : HasBytes (of locals) FitsLocals locals_bytes
unfolding locals
locals-writes = record {
  written = λ ts h.
      let gs = merged ts in
      let bytes = locals_bytes ts in
      let spelled = vector-written gs (omega (arith, length-merged ts)) (omega (arith, counted-merged ts)) in
      let ts-is = sym (written_out-merged ts) in
      (bytes, [], gs, sym (append-nil bytes), (spelled, grouped-merged ts), (refl, ts-is));
  told = λ s V j b ts h.
      let gs = h.2 in
      let t = vector-told s V j h.0 gs h.4.0 in
      let ts-is : ts ≡ written_out gs = h.5.1 in
      let bytes : b ≡ h.0 = rw (h.3, h.5.0, append-nil) refl in
      rw (ts-is, bytes) (omega (arith, t.0, length-written_out gs), merged-told s V j h.0 gs h.4.1 t.1);
}

-- ---- the groups as they are kept, which are merged

anything : (gs : List Group) → AllByRecursion Anything gs
anything [] = tt
anything (g ∷ gs) = (tt, anything gs)

grouped-few : (gs : List Group) → IsGrouped gs → length gs ≤ length (written_out gs)
grouped-few gs h = omega (arith, length-merged (written_out gs), ap length (merged-grouped gs h))

-- what writing the groups answers is what writing the locals answers
module _ (gs : List Group) (grouped : IsGrouped gs) (within : length (written_out gs) ≤ locals_limit) where
  pub locals-written : (old new : List ℕ) (r : Result (Unit {0}) EncFault)
      → Writes (FitsVector Anything gs) old new (vector_bytes group_bytes gs) r
      → Writes (FitsLocals (written_out gs)) old new (locals_bytes (written_out gs)) r
  locals-written old new (Ok u) h = let is = merged-grouped gs grouped in (within, rw is h.1)
  locals-written old new (Err Oversize) h = λ f. h (omega (arith, grouped-few gs grouped), anything gs)
  locals-written old new (Err Memory) h = tt

  -- and so is what counting their bytes answers
  pub locals-counted : (r : Option ℕ)
      → Measures (FitsVector Anything gs) (length (vector_bytes group_bytes gs)) r
      → Measures (FitsLocals (written_out gs)) (length (locals_bytes (written_out gs))) r
  locals-counted (Some n) h = let is = merged-grouped gs grouped in (within, rw is h.1)
  locals-counted None h = λ f. h (omega (arith, grouped-few gs grouped), anything gs)
