-- How the encoder's answers follow.
use Rattle.std.proofs.Common.{◌≡◌, ℕ, zero, suc, ◌<◌, List, [], ◌∷◌, ◌++◌, length, get_or, Result, Ok, Err, refl}
use Rattle.std.proofs.Common.{sym, ap, subst, ◌∙◌, append_assoc, arith}
use Rattle.std.proofs.lemmas.List.{append-nil}
use Rattle.std.specs.List.{AllByRecursion, flat_map}
use Rattle.wc_ast.specs.declared.module.Module.{Module}
use Rattle.wc_binary.specs.declared.fault.EncFault.{EncFault}
use Rattle.wc_binary.specs.declared.fault.EncFault.TheVariants.{Oversize, Memory}
use Rattle.wc_binary.specs.Standard.Module.{parts_of, Canon, IsShortestOf}
use Rattle.wc_body.specs.Standard.ValueBytes.{FitsVector}
use Rattle.wc_binary.specs.Writing.Sections.{held_bytes, FitsHeld, bytes_from, FitsFrom, sections_bytes}
use Rattle.wc_binary.proofs.spelling.whole.ModuleBytes.{module_bytes}
use Rattle.wc_binary.specs.Writing.Sections.{FitsSections}
use Rattle.wc_binary.proofs.spelling.whole.ModuleBytes.{FitsModule}
use Rattle.wc_binary.specs.declared.parts.Parts.{Parts}
use Rattle.wc_binary.specs.declared.section.SectionKind.{SectionKind}
use Rattle.wc_binary.specs.Standard.Sections.{held_by}
use Rattle.wc_binary.specs.Standard.Encoding.{EncodesModule}
use Rattle.wc_binary.specs.Writing.Writes.{Writes}
use Rattle.wc_binary.proofs.spelling.whole.Modules.{canon-written, shortest-and-only, bin-longer}

-- where a part doesn't fit, nothing that has it does
pub part-fails : (F G : Type 0) → (G → F) → (mid new bytes old last whole : List ℕ) (e : EncFault)
    → Writes F mid new bytes (Err e) → Writes G old last whole (Err e)
part-fails F G part mid new bytes old last whole Oversize h = λ f. h (part f)
part-fails F G part mid new bytes old last whole Memory h = tt

pub fits-at : {A : Type 0} (Fits : A → Type 0) (vs : List A) (i : ℕ) (d : A) → i < length vs → AllByRecursion Fits vs
    → Fits (get_or vs i d)
fits-at Fits [] i d lt h = absurd (omega arith)
fits-at Fits (v ∷ vs) zero d lt h = h.0
fits-at Fits (v ∷ vs) (suc i) d lt h = fits-at Fits vs i d (omega arith) h.1

-- an item that is there is the same, whatever stands for one that isn't
pub get_or-any : {A : Type 0} (vs : List A) (i : ℕ) (d e : A) → i < length vs → get_or vs i d ≡ get_or vs i e
get_or-any [] i d e lt = absurd (omega arith)
get_or-any (v ∷ vs) zero d e lt = refl
get_or-any (v ∷ vs) (suc i) d e lt = get_or-any vs i d e (omega arith)

-- where an item doesn't fit, no vector that has it does
pub item-fails : {A : Type 0} (Fits : A → Type 0) (items : List A) (i : ℕ) (v : A) → v ≡ get_or items i v
    → i < length items → (mid new bytes old last whole : List ℕ) (e : EncFault)
    → Writes (Fits v) mid new bytes (Err e) → Writes (FitsVector Fits items) old last whole (Err e)
item-fails Fits items i v is lt mid new bytes old last whole e h =
    part-fails (Fits v) (FitsVector Fits items)
    (λ f. subst Fits (sym is) (fits-at Fits items i v lt f.1)) mid new bytes old last whole e h

pub module-fails : (m : Module) (old new : List ℕ) (e : EncFault)
    → Writes (FitsSections (parts_of m)) old new (sections_bytes (parts_of m)) (Err e) → EncodesModule m (Err e)
module-fails m old new Oversize h = λ b k. h (bin-longer b m k).0
module-fails m old new Memory h = tt

pub module-written : (m : Module) → FitsModule m → (b : List ℕ) → b ≡ module_bytes m → Canon b m × IsShortestOf b m
module-written m fits b is =
    let c : Canon b m = rw is (canon-written m fits) in
    (c, shortest-and-only b m c)

-- ---- sections one after the other

-- one that fits and was written, and then what is behind it
pub section-before : (F G : Type 0) (old mid new bytes rest : List ℕ) (r : Result (Unit {0}) EncFault)
    → F × (mid ≡ old ++ bytes) → Writes G mid new rest r → Writes (F × G) old new (bytes ++ rest) r
section-before F G old mid new bytes rest (Ok u) h k =
    ((h.0, k.0), k.1 ∙ ap (λ (x : List ℕ). x ++ rest) h.1 ∙ append_assoc old bytes rest)
section-before F G old mid new bytes rest (Err Oversize) h k = λ f. k f.1
section-before F G old mid new bytes rest (Err Memory) h k = tt

-- the same of sections in their order
module _ (p : Parts) (k : SectionKind) where
  pub held-before : (ks : List SectionKind) (old mid new : List ℕ) (r : Result (Unit {0}) EncFault)
      → FitsHeld k (held_by k p) × (mid ≡ old ++ held_bytes k (held_by k p))
      → Writes (FitsFrom p ks) mid new (bytes_from p ks) r
      → Writes (FitsFrom p (k ∷ ks)) old new (bytes_from p (k ∷ ks)) r
  held-before ks old mid new r h rest =
      section-before (FitsHeld k (held_by k p)) (FitsFrom p ks) old mid new (held_bytes k (held_by k p))
      (bytes_from p ks) r h rest

pub section-last : (F : Type 0) (old new bytes : List ℕ) (r : Result (Unit {0}) EncFault) → Writes F old new bytes r
    → Writes (F × Unit {0}) old new (bytes ++ []) r
section-last F old new bytes (Ok u) k = ((k.0, tt), k.1 ∙ ap (λ (x : List ℕ). old ++ x) (sym (append-nil bytes)))
section-last F old new bytes (Err Oversize) k = λ f. k f.0
section-last F old new bytes (Err Memory) k = tt

-- ---- items one after the other, by those that were had and those that are left

pub all-left : {A : Type 0} (ys rest items : List A) → ys ++ rest ≡ items → rest ≡ [] → ys ≡ items
all-left ys rest items is none = sym (append-nil ys) ∙ ap (λ r. ys ++ r) (sym none) ∙ is

flat-more : {A : Type 0} (w : A → List ℕ) (ys : List A) (v : A) → flat_map w (ys ++ v ∷ []) ≡ flat_map w ys ++ w v
flat-more w [] v = append-nil (w v)
flat-more w (y ∷ ys) v =
    ap (λ (x : List ℕ). w y ++ x) (flat-more w ys v) ∙ sym (append_assoc (w y) (flat_map w ys) (w v))

pub all-more : {A : Type 0} (Fits : A → Type 0) (ys : List A) (v : A) → AllByRecursion Fits ys → Fits v
    → AllByRecursion Fits (ys ++ v ∷ [])
all-more Fits [] v h f = (f, tt)
all-more Fits (y ∷ ys) v h f = (h.0, all-more Fits ys v h.1 f)

all-of : {A : Type 0} (Fits : A → Type 0) (ys : List A) (v : A) (rest : List A) → AllByRecursion Fits (ys ++ v ∷ rest)
    → Fits v
all-of Fits [] v rest h = h.0
all-of Fits (y ∷ ys) v rest h = all-of Fits ys v rest h.1

-- the next one was written
pub next-put : {A : Type 0} (w : A → List ℕ) (ys : List A) (v : A) (old mid new u : List ℕ)
    → mid ≡ old ++ (u ++ flat_map w ys) → new ≡ mid ++ w v → new ≡ old ++ (u ++ flat_map w (ys ++ v ∷ []))
next-put w ys v old mid new u before is =
    rw (flat-more w ys v)
    (is ∙ ap (λ (x : List ℕ). x ++ w v) before ∙ append_assoc old (u ++ flat_map w ys) (w v)
    ∙ ap (λ (x : List ℕ). old ++ x) (append_assoc u (flat_map w ys) (w v)))

-- where the next one doesn't fit, no vector that has it does
pub next-fails : {A : Type 0} (Fits : A → Type 0) (items ys : List A) (v : A) (rest : List A) → ys ++ v ∷ rest ≡ items
    → (mid new bytes old last whole : List ℕ) (e : EncFault)
    → Writes (Fits v) mid new bytes (Err e) → Writes (FitsVector Fits items) old last whole (Err e)
next-fails Fits items ys v rest is mid new bytes old last whole e h =
    part-fails (Fits v) (FitsVector Fits items) (λ f.
    all-of Fits ys v rest (rw is f.1)) mid new bytes old last whole e h

-- where it has no size, neither has such a vector
pub next-unmeasured : {A : Type 0} (Fits : A → Type 0) (items ys : List A) (v : A) (rest : List A)
    → ys ++ v ∷ rest ≡ items → (Fits v → ⊥) → FitsVector Fits items → ⊥
next-unmeasured Fits items ys v rest is h f = h (all-of Fits ys v rest (rw is f.1))
