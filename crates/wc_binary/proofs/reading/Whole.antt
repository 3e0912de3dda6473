-- From the readers' answers to the relations of whole modules.
use Rattle.std.proofs.Common.{◌≡◌, ◌≢◌, ℕ, ◌+◌, ◌-◌, ◌≤◌, List, [], ◌∷◌, ◌++◌, length, take, Some, None, Ok, Err, inl}
use Rattle.std.proofs.Common.{inr, sym, ap, subst, ◌∙◌, arith}
use Rattle.std.specs.Prelude.{IsTrue}
use Rattle.std.proofs.lemmas.List.{length-append}
use Rattle.wc_ast.specs.declared.module.Module.{Module}
use Rattle.wc_binary.specs.declared.parts.Parts.{Parts}
use Rattle.wc_binary.specs.declared.section.Section.{Section}
use Rattle.wc_binary.specs.declared.section.SectionKind.{SectionKind}
use Rattle.wc_binary.specs.declared.fault.BinFault.{BinFault}
use Rattle.wc_binary.specs.declared.fault.BinFault.TheVariants.{Bad, Read, Memory}
use Rattle.wc_binary.specs.declared.fault.BinWhy.{BinWhy}
use Rattle.wc_binary.specs.declared.fault.BinWhy.TheVariants.{End, Counts}
use Rattle.wc_binary.specs.Standard.Style.{free}
use Rattle.wc_binary.specs.Standard.Phrase.{halt, Spells}
use Rattle.wc_binary.specs.Reading.Reading.{read}
use Rattle.wc_binary.specs.Reading.Source.{Input, up_to, GoesOn, NextGives, Fails, Gave}
use Rattle.wc_binary.specs.Standard.Sections.{id_of, content, after, put}
use Rattle.wc_binary.specs.Standard.Module.{preamble, parts_of, FirstFault}
use Rattle.wc_binary.specs.Standard.Decoding.{IsCutShort}
use Rattle.wc_binary.specs.Reading.Modules.{CutsSections, SectionsGive, ModuleGives}
use Rattle.wc_binary.proofs.reading.ahead.Fronts.{front, bytes-split}
use Rattle.wc_binary.proofs.reading.Going.{GoesOn-trans, GoesOn-stops, Stopped-behind, ReadFailed-behind}
use Rattle.wc_binary.proofs.phrases.Laws.{read-told}
use Rattle.wc_binary.proofs.sections.Order.{rises-bin}
use Rattle.wc_binary.proofs.sections.Total.{whole-or-counts}
use Rattle.wc_binary.proofs.sections.Walk.{Found, found-all, id-stops, content-stops, one-more}

-- what a loop over the sections has found
pub record Finds (old now : Input) (last : ℕ) (m : Parts) : Type 0 where
  pub going : GoesOn old now
  pub bytes : IsTrue old.known → IsTrue now.known × Found old.place old.left now.place now.left last m

-- the same of the bytes up to a place behind them
found-to : (o : ℕ) (x : List ℕ) (p : ℕ) (y : List ℕ) (last : ℕ) (m : Parts) → Found o x p y last m → (at : ℕ) → p ≤ at
    → Found o (take (at - o) x) p (take (at - p) y) last m
found-to o x p y last m f at le = record {
  before = f.before;
  read_so_far = f.read_so_far;
  split = ap (λ l. take (at - o) l) f.split ∙ front f.read_so_far y o at p f.place le;
  place = f.place;
  spelled = f.spelled;
  last_is = f.last_is;
  parts_are = f.parts_are;
}

-- a failed read
pub finds-fails : (old now next : Input) (last : ℕ) (m : Parts) → Finds old now last m → (e : BinFault)
    → NextGives now next (Err e) → SectionsGive old next (Err e)
finds-fails old now next last m found (Bad at why) h = absurd h
finds-fails old now next last m found (Read at) h = (
  ReadFailed-behind old now next at found.going h.0,
  λ w.
      let f = found-to old.place old.left now.place now.left last m (found.bytes w).1 at h.0.forward in
      let all = subst (λ y. Found old.place (up_to at old) now.place y last m) h.1 f in
      let a = found-all old.place (up_to at old) now.place last m all in
      inl (a.0, a.1, h.2 ∙ a.3),
)
finds-fails old now next last m found Memory h = absurd h

module _ (old now next : Input) (last : ℕ) (m : Parts) (found : Finds old now last m) where
  pub finds-all : NextGives now next (Ok None) → SectionsGive old next (Ok m)
  finds-all n = (
    Stopped-behind old now next found.going n.0,
    λ w.
        let f = found.bytes w in
        let e = n.2 f.0 in
        let ended = e.1 in
        let a = found-all old.place old.left now.place last m (rw ended at f.1) in
        (a.0, a.1, a.2, n.1 ∙ a.3),
    n.3,
  )

  module _ (b : ℕ) (n : NextGives now next (Ok (Some b))) where
    pub finds-no-id : (r : BinWhy) → id_of last b ≡ Err r → SectionsGive old next (Err (Bad now.place r))
    finds-no-id r i = (
      GoesOn-stops old next (GoesOn-trans old now next found.going n.0),
      λ w.
          let f = found.bytes w in
          let place = n.1 in
          rw place (id-stops old.place old.left now.place now.left last m b next.left (n.2 f.0).1 f.1 r i),
    )

    pub content-fails : (id : SectionKind) → id_of last b ≡ Ok id → (end : Input) (e : BinFault)
        → Fails next end e (λ x. read (content id) next.place x) → SectionsGive old end (Err e)
    content-fails id i end Memory h = Stopped-behind old next end (GoesOn-trans old now next found.going n.0) h
    content-fails id i end (Read at) h = (
      ReadFailed-behind old next end at (GoesOn-trans old now next found.going n.0) h.0,
      λ w.
          let s = found.bytes w in
          let k = n.2 s.0 in
          let near : now.place ≤ at = omega (arith, n.0.forward, h.0.forward) in
          let f = found-to old.place old.left now.place now.left last m s.1 at near in
          let here = bytes-split now next (b ∷ []) k.1 n.1 (Some at) h.0.forward in
          let g = ap (λ q. read (content id) q (up_to at next)) (sym n.1) ∙ h.1 k.0 in
          inr (content-stops old.place (up_to at old) now.place (up_to at now) last m b (up_to at next) here f id i
          (halt at End at) g),
    )
    content-fails id i end (Bad at why) h = (
      Stopped-behind old next end (GoesOn-trans old now next found.going n.0) h.0,
      λ w.
          let f = found.bytes w in
          let k = n.2 f.0 in
          let place = n.1 in
          content-stops old.place old.left now.place now.left last m b next.left k.1 f.1 id i (halt at why end.place)
          (rw place at (h.1 k.0)),
    )

    pub finds-more : (id : SectionKind) → id_of last b ≡ Ok id → (s : Section) (end : Input)
        → Gave next end (Ok s) (λ x. read (content id) next.place x) → Finds old end (after last s) (put m s)
    finds-more id i s end h = record {
      going = GoesOn-trans old next end (GoesOn-trans old now next found.going n.0) h.0;
      bytes = λ w.
          let f = found.bytes w in
          let k = n.2 f.0 in
          let c = h.1 k.0 in
          let place = n.1 in (
            c.0,
            one-more old.place old.left now.place now.left last m b next.left k.1 f.1 id i s end.place end.left
                (rw place at c.1),
          );
    }

-- from the first byte on
from-start : (at : ℕ) (i : Input) → i.place ≡ 0 → up_to at i ≡ take at i.left
from-start at i z = let all : at - i.place ≡ at = omega arith in ap (λ n. take n i.left) all

pub preamble-fails : (old end : Input) → old.place ≡ 0 → (e : BinFault)
    → Fails old end e (λ x. read preamble old.place x) → ModuleGives old end (Err e)
preamble-fails old end z Memory h = h
preamble-fails old end z (Read at) h = (
  h.0,
  λ w.
      let x = take at old.left in
      let k : read preamble 0 x ≡ Err (halt at End at) =
      ap (λ q. read preamble q x) (sym z) ∙ ap (λ y. read preamble old.place y) (sym (from-start at old z)) ∙ h.1 w in
      let t = rw k at (read-told {A = Unit {0}} preamble 0 x) in
      inr (inl (at, inl t)),
)
preamble-fails old end z (Bad at why) h =
    (h.0, λ w. let k = rw z at (h.1 w) in inl (rw k at (read-told {A = Unit {0}} preamble 0 old.left)))

-- the preamble, and behind it sections to the end, or up to a missing byte
cut-short : (x a b : List ℕ) (at : ℕ) → x ≡ a ++ b → Spells preamble a tt → CutsSections (length a) b at
    → IsCutShort x at
cut-short x a b at split head (inr stops) = inr (inl (at, inr (a, b, split, head, inl stops)))
cut-short x a b at split head (inl whole) =
    let long : length x ≡ length a + length b = ap length split ∙ length-append a b in
    elim (whole-or-counts x a b split head whole.0 whole.1) [
      | inl m ↦ inl (m.0, m.1, whole.2 ∙ sym long)
      | inr counts ↦ inr (inr (subst (λ (q : ℕ). FirstFault x q Counts) (sym whole.2) counts))
    ]

module _ (old mid end : Input) (z : old.place ≡ 0) (u : Unit {0})
    (h : Gave old mid (Ok u) (λ x. read preamble old.place x)) where
  -- the preamble, and what is left behind it
  preamble-read : IsTrue old.known
      → IsTrue mid.known × ((a : List ℕ) × (old.left ≡ a ++ mid.left) × Spells preamble a tt × (mid.place ≡ length a))
  preamble-read w =
      let s = h.1 w in
      let e = rw z at s.1 in
      let t = rw e at (read-told {A = Unit {0}} preamble 0 old.left) in
      (s.0, (t.0, t.1, t.2, omega (arith, t.3)))

  pub sections-fail : (e : BinFault) → SectionsGive mid end (Err e) → ModuleGives old end (Err e)
  sections-fail Memory k = Stopped-behind old mid end h.0 k
  sections-fail (Read at) k = (
    ReadFailed-behind old mid end at h.0 k.0,
    λ w.
        let t = preamble-read w in
        let behind : mid.place ≡ old.place + length t.1.0 = omega (arith, t.1.3, z) in
        let split = bytes-split old mid t.1.0 t.1.1 behind (Some at) k.0.forward in
        let cut = subst (λ q. CutsSections q (up_to at mid) at) t.1.3 (k.1 t.0) in
        cut-short (take at old.left) t.1.0 (up_to at mid) at (sym (from-start at old z) ∙ split) t.1.2 cut,
  )
  sections-fail (Bad at why) k = (
    Stopped-behind old mid end h.0 k.0,
    λ w.
        let t = preamble-read w in
        let place = t.1.3 in
        inr (t.1.0, mid.left, t.1.1, t.1.2, inl (rw place at (k.1 t.0))),
  )

  module _ (p : Parts) (k : SectionsGive mid end (Ok p)) where
    pub counts-fail : length p.func_types ≢ length p.codes → ModuleGives old end (Err (Bad end.place Counts))
    counts-fail ne = (
      Stopped-behind old mid end h.0 k.0,
      λ w.
          let t = preamble-read w in
          let c = k.1 t.0 in
          let is = c.2 in
          let there : length t.1.0 + length mid.left ≡ end.place = omega (arith, t.1.3, c.3) in
          inr (t.1.0, mid.left, t.1.1, t.1.2, inr (c.0, c.1, rw is ne, ap (λ (q : ℕ). halt q Counts q) (sym there))),
    )

    pub module-whole : (m : Module) → parts_of m ≡ p → ModuleGives old end (Ok m)
    module-whole m is = (
      Stopped-behind old mid end h.0 k.0,
      λ w.
          let t = preamble-read w in
          let c = k.1 t.0 in
          let split : length old.left ≡ length t.1.0 + length mid.left =
          ap length t.1.1 ∙ length-append t.1.0 mid.left in (
            rises-bin free old.left m (t.1.0, mid.left, c.0, t.1.1, t.1.2, c.1, c.2 ∙ sym is),
            omega (arith, t.1.3, c.3, split),
          ),
      k.2,
    )
