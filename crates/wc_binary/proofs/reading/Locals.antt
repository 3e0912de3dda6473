-- Reading groups of locals one after the other, as a loop does.
use Rattle.std.proofs.Common.{◌≡◌, ℕ, suc, ◌-◌, ◌+◌, ◌<◌, ◌≤◌, List, [], ◌∷◌, ◌++◌, replicate, length, arith}
use Rattle.std.proofs.Common.{Result, Ok, Err, refl, sym, ◌∙◌, append_assoc}
use Rattle.std.proofs.lemmas.List.{length-append, length-replicate, append-nil}
use Rattle.wc_ops.specs.declared.val_type.ValType.{ValType}
use Rattle.wc_ast.specs.declared.locals.Group.{Group}
use Rattle.std.proofs.lemmas.Bool.{le-ltb}
use Rattle.wc_ast.specs.Standard.LocalGroups.{written_out, locals_limit}
use Rattle.wc_binary.specs.declared.fault.BinFault.{BinFault}
use Rattle.wc_binary.specs.Standard.Phrase.{Halt, judged}
use Rattle.wc_binary.specs.Reading.Reading.{Got, got, ◌and_then◌, read}
use Rattle.wc_binary.specs.Reading.Source.{Input, Fails, Gave}
use Rattle.wc_binary.specs.Standard.Values.{u32}
use Rattle.wc_binary.specs.Standard.Locals.{group, groups, locals, locals_fault}
use Rattle.wc_binary.specs.Standard.Types.{value_type}
use Rattle.wc_binary.proofs.reading.ahead.Fronts.{bytes_to, within-before, phrase-to}
use Rattle.wc_binary.proofs.reading.Going.{GoesOn-trans}
use Rattle.wc_binary.proofs.reading.Behind.{Leads, leads-fail, leads-done, first-fails, first-of, behind-fails}

-- what reading locals gives
abbrev pub Locals : Type 0
Locals = Result (Got (List ValType)) Halt

-- the locals that were read, and those of the groups that are still read
abbrev pub with_locals : List ValType → Result (Got (List Group)) Halt → Locals
with_locals ts r = r and_then λ g. got (ts ++ written_out g.value) g.place g.left

-- so many groups, behind so many locals
abbrev pub groups_at : ℕ → ℕ → Input → List ℕ → Result (Got (List Group)) Halt
groups_at n total i x = read (groups n total) i.place x

-- one more group
abbrev behind : List ValType → Group → List ValType
behind ts g = ts ++ replicate g.count g.value_type

regroup : (ts : List ValType) (g : Group) (r : Result (Got (List Group)) Halt)
    → with_locals ts (r and_then λ gs. got (g ∷ gs.value) gs.place gs.left) ≡ with_locals (behind ts g) r
regroup ts g (Ok gs) = rw (append_assoc ts (replicate g.count g.value_type) (written_out gs.value)) refl
regroup ts g (Err f) = refl

pub locals-begin : (old mid : Input) (n : ℕ) → Gave old mid (Ok n) (λ x. read u32 old.place x)
    → Leads old mid (λ x. with_locals [] (groups_at n 0 mid x)) (λ x. read locals old.place x)
unfolding locals
locals-begin old mid n h = record {
  going = h.0;
  same = λ w. let s = h.1 w in (s.0, λ c le. let e = phrase-to u32 old mid n s.1 c le in rw e refl);
}

-- a fault in the count of groups
pub locals-count-fails : (old new : Input) (e : BinFault) → Fails old new e (λ x. read u32 old.place x)
    → Fails old new e (λ x. read locals old.place x)
unfolding locals
locals-count-fails old new e h =
    first-fails old new (λ x. read u32 old.place x) (λ x. read locals old.place x) (λ x f q. rw q refl) e h

module _ (ts : List ValType) (count i : ℕ) (old mid : Input) (total : List ℕ → Locals)
    (so_far : Leads old mid (λ x. with_locals ts (groups_at (count - i) (length ts) mid x)) total) (more : i < count)
  where
    pub groups-more : (g : Group) (new : Input) → Gave mid new (Ok g) (λ x. read (group (length ts)) mid.place x)
        → Leads old new (λ x. with_locals (behind ts g) (groups_at (count - (i + 1)) (length (behind ts g)) new x)) total
    groups-more g new h =
        let left = count - (i + 1) in
        let one-less : count - i ≡ suc left = omega arith in
        let long = length-append ts (replicate g.count g.value_type) in
        let longer : length (behind ts g) ≡ length ts + g.count =
        omega (arith, long, length-replicate g.count g.value_type) in
        record {
          going = GoesOn-trans old mid new so_far.going h.0;
          same = λ w.
              let s = so_far.same w in
              let e = h.1 s.0 in (
                e.0,
                λ c le.
                    let read_to = phrase-to (group (length ts)) mid new g e.1 c le in
                    let rest = groups_at left (length ts + g.count) new (bytes_to c new) in
                    let one : with_locals ts (groups_at (count - i) (length ts) mid (bytes_to c mid))
                    ≡ with_locals (behind ts g) rest = rw (one-less, read_to) (regroup ts g rest) in
                    rw longer (sym one ∙ s.1 c (within-before mid.place new.place c h.0.forward le)),
              );
        }

    pub groups-fail : (new : Input) (e : BinFault) → Fails mid new e (λ x. read (group (length ts)) mid.place x)
        → Fails old new e total
    groups-fail new e h =
        let one-less : count - i ≡ suc (count - (i + 1)) = omega arith in
        leads-fail old mid new (λ x. with_locals ts (groups_at (count - i) (length ts) mid x)) total so_far e
        (first-fails mid new (λ x. read (group (length ts)) mid.place x)
        (λ x. with_locals ts (groups_at (count - i) (length ts) mid x)) (λ x f q. rw (one-less, q) refl) e h)

-- all groups were read
pub groups-done : (ts : List ValType) (count i : ℕ) (old now : Input) (total : List ℕ → Locals)
    → Leads old now (λ x. with_locals ts (groups_at (count - i) (length ts) now x)) total → count ≤ i
    → Gave old now (Ok ts) total
groups-done ts count i old now total so_far le =
    let none : count - i ≡ 0 = omega arith in
    leads-done old now (λ x. with_locals ts (groups_at (count - i) (length ts) now x)) total so_far ts
    (λ x. rw none (rw append-nil refl))

-- a fault in the type of a group
pub group-fails : (total n : ℕ) (old mid new : Input) → Gave old mid (Ok n) (λ x. read u32 old.place x)
    → total + n ≤ locals_limit → (e : BinFault) → Fails mid new e (λ x. read value_type mid.place x)
    → Fails old new e (λ x. read (group total) old.place x)
unfolding group
group-fails total n old mid new h le e f =
    let fits = le-ltb locals_limit (total + n) le in
    behind-fails (judged u32 (locals_fault total)) _ old mid new n
    (h.0, λ w. let s = h.1 w in (s.0, rw (s.1, fits) refl)) e
    (first-of mid new (λ x. read value_type mid.place x) _ e f)
