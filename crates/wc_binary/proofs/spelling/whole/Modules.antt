-- Whole modules: their canonical bytes, and that all others are longer.
use Rattle.std.proofs.Common.{◌≡◌, ℕ, ◌≤◌, List, [], ◌∷◌, ◌++◌, length, refl, sym, ap, ◌∙◌, eq-eqb}
use Rattle.wc_ast.specs.declared.module.Module.{Module}
use Rattle.wc_binary.specs.declared.fault.BinWhy.{BinWhy}
use Rattle.wc_binary.specs.declared.fault.BinWhy.TheVariants.{Magic, Version}
use Rattle.wc_binary.specs.Standard.Style.{Style, free, canonical}
use Rattle.wc_binary.specs.Standard.Phrase.{SpellsBy}
use Rattle.wc_binary.specs.Standard.Values.{exactly}
use Rattle.wc_binary.specs.Standard.Module.{preamble, parts_of, BinBy, Bin, Canon, IsOrLonger, IsShortestOf}
use Rattle.wc_binary.specs.Writing.Sections.{sections_bytes}
use Rattle.wc_binary.proofs.spelling.whole.ModuleBytes.{preamble_bytes, module_bytes, FitsModule}
use Rattle.wc_binary.proofs.spelling.Judging.{Judges, exact, no_shorter}
use Rattle.wc_binary.proofs.spelling.Phrases.{only-is}
use Rattle.wc_binary.proofs.spelling.whole.Chain.{sections-told, sections-written}

exactly-told : (s : Style) (bytes : List ℕ) (why : BinWhy) (b : List ℕ) (u : Unit {0})
    → SpellsBy s (exactly bytes why) b u → b ≡ bytes
exactly-told s [] why b u h = h.0
exactly-told s (x ∷ bytes) why b u h =
    let rest = exactly-told s bytes why h.1 u h.5 in
    let head : h.4.0 ≡ x = only-is x why h.4.0 h.2 h.4.2 in
    h.3 ∙ ap (λ (z : List ℕ). z ++ h.1) (h.4.1 ∙ ap (λ (z : ℕ). z ∷ []) head) ∙ ap (λ (z : List ℕ). x ∷ z) rest

preamble-told : (s : Style) (b : List ℕ) → SpellsBy s preamble b tt → b ≡ preamble_bytes
unfolding preamble
preamble-told s b h =
    let first = exactly-told s (0x00 ∷ 0x61 ∷ 0x73 ∷ 0x6D ∷ []) Magic h.0 h.2 h.4 in
    let second = exactly-told s (0x01 ∷ 0x00 ∷ 0x00 ∷ 0x00 ∷ []) Version h.1 tt h.5 in
    h.3 ∙ ap (λ (z : List ℕ). z ++ h.1) first ∙ ap (λ (z : List ℕ). (0x00 ∷ 0x61 ∷ 0x73 ∷ 0x6D ∷ []) ++ z) second

pub module-told : (s : Style) (V : List ℕ → List ℕ → Type 0) → Judges s V → (b : List ℕ) (m : Module) → BinBy s b m
    → FitsModule m × V b (module_bytes m)
module-told s V j b m h =
    let t = sections-told s V j (parts_of m) h.1 h.4 in
    let front = preamble-told s h.0 h.3 in
    let split = h.2 in (
      t.0,
      rw (split, front) (j.join preamble_bytes h.1 preamble_bytes (sections_bytes (parts_of m))
          (j.same preamble_bytes) t.1),
    )

-- ---- the canonical bytes are canonical

exactly-spelled : (bytes : List ℕ) (why : BinWhy) → SpellsBy canonical (exactly bytes why) bytes tt
exactly-spelled [] why = (refl, refl)
exactly-spelled (b ∷ bytes) why =
    (b ∷ [], bytes, tt, refl, (b, refl, rw (eq-eqb b b refl) refl), exactly-spelled bytes why)

preamble-spelled : SpellsBy canonical preamble preamble_bytes tt
unfolding preamble
preamble-spelled = (
  0x00 ∷ 0x61 ∷ 0x73 ∷ 0x6D ∷ [],
  0x01 ∷ 0x00 ∷ 0x00 ∷ 0x00 ∷ [],
  tt,
  refl,
  exactly-spelled (0x00 ∷ 0x61 ∷ 0x73 ∷ 0x6D ∷ []) Magic,
  exactly-spelled (0x01 ∷ 0x00 ∷ 0x00 ∷ 0x00 ∷ []) Version,
)

pub canon-written : (m : Module) → FitsModule m → Canon (module_bytes m) m
canon-written m fits =
    (preamble_bytes, sections_bytes (parts_of m), refl, preamble-spelled, sections-written (parts_of m) fits)

-- ---- the laws

pub canon-only : (b : List ℕ) (m : Module) → Canon b m → FitsModule m × (b ≡ module_bytes m)
canon-only b m h = module-told canonical (λ c b. c ≡ b) exact b m h

pub bin-longer : (b : List ℕ) (m : Module) → Bin b m → FitsModule m × IsOrLonger b (module_bytes m)
bin-longer b m h = module-told free IsOrLonger no_shorter b m h

pub shortest-and-only : (b : List ℕ) (m : Module) → Canon b m → IsShortestOf b m
shortest-and-only b m h = λ c k. let e = (canon-only b m h).1 in rw e (bin-longer c m k).1

pub bin-canon : (x : List ℕ) (m : Module) → Bin x m → (b : List ℕ) × Canon b m × (length b ≤ length x)
bin-canon x m h =
    let k = bin-longer x m h in (module_bytes m, canon-written m k.0, no_shorter.longer x (module_bytes m) k.1)

pub one-canonical : (b c : List ℕ) (m : Module) → Canon b m → Canon c m → b ≡ c
one-canonical b c m h k = (canon-only b m h).1 ∙ sym (canon-only c m k).1
