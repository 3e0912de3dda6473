-- Sections one after the other.
use Rattle.std.proofs.Common.{◌≡◌, ℕ, ◌+◌, ◌<◌, List, [], ◌∷◌, ◌++◌, length, Ok, Err, inl, inr, refl, sym, ap, ◌∙◌}
use Rattle.std.proofs.Common.{append_assoc, arith}
use Rattle.std.proofs.lemmas.List.{length-append, append-nil}
use Rattle.wc_binary.specs.declared.fault.BinWhy.{BinWhy}
use Rattle.wc_binary.specs.Standard.Phrase.{Halt, halt, Spells}
use Rattle.wc_binary.specs.Reading.Reading.{got, read}
use Rattle.wc_binary.specs.declared.parts.Parts.{Parts}
use Rattle.wc_binary.specs.declared.section.Section.{Section}
use Rattle.wc_binary.specs.declared.section.SectionKind.{SectionKind}
use Rattle.wc_binary.specs.Standard.Style.{free}
use Rattle.wc_binary.specs.Standard.Sections.{id_of, content, after, nothing, put}
use Rattle.wc_binary.specs.Standard.Module.{reached, AreSections, StopsSections, put_all}
use Rattle.wc_binary.proofs.phrases.Laws.{read-told}

pub sections-snoc : (last : ℕ) (ss : List Section) (a : List ℕ) (x : ℕ) (id : SectionKind) (c : List ℕ) (s : Section)
    → AreSections free last ss a → id_of (reached last ss) x ≡ Ok id → Spells (content id) c s
    → AreSections free last (ss ++ s ∷ []) (a ++ x ∷ c)
sections-snoc last [] a x id c s h e k =
    (x, id, c, [], rw h (ap (λ (y : List ℕ). x ∷ y) (sym (append-nil c))), e, k, tt, refl)
sections-snoc last (t ∷ ss) a x id c s h e k = (
  h.0,
  h.1,
  h.2,
  h.3 ++ x ∷ c,
  rw h.4 (ap (λ (y : List ℕ). h.0 ∷ y) (append_assoc h.2 h.3 (x ∷ c))),
  h.5,
  h.6,
  tt,
  sections-snoc (after last t) ss h.3 x id c s h.8 e k,
)

pub reached-snoc : (last : ℕ) (ss : List Section) (s : Section)
    → reached last (ss ++ s ∷ []) ≡ after (reached last ss) s
reached-snoc last [] s = refl
reached-snoc last (t ∷ ss) s = reached-snoc (after last t) ss s

pub put_all-snoc : (m : Parts) (ss : List Section) (s : Section) → put_all m (ss ++ s ∷ []) ≡ put (put_all m ss) s
put_all-snoc m [] s = refl
put_all-snoc m (t ∷ ss) s = put_all-snoc (put m t) ss s

-- what a loop over the sections has found
pub record Found (o : ℕ) (x : List ℕ) (p : ℕ) (y : List ℕ) (last : ℕ) (m : Parts) : Type 0 where
  pub before : List Section
  pub read_so_far : List ℕ
  pub split : x ≡ read_so_far ++ y
  pub place : p ≡ o + length read_so_far
  pub spelled : AreSections free 0 before read_so_far
  pub last_is : last ≡ reached 0 before
  pub parts_are : m ≡ put_all nothing before

module _ (o : ℕ) (x : List ℕ) (p : ℕ) (y : List ℕ) (last : ℕ) (m : Parts) (b : ℕ) (z : List ℕ) (here : y ≡ b ∷ z) where
  pub id-stops : Found o x p y last m → (r : BinWhy) → id_of last b ≡ Err r → StopsSections 0 o x (halt p r (p + 1))
  id-stops f r e = (
    f.before,
    f.read_so_far,
    z,
    b,
    f.split ∙ ap (λ (w : List ℕ). f.read_so_far ++ w) here,
    f.spelled,
    inl (r, rw f.last_is at e, ap (λ (q : ℕ). halt q r (q + 1)) f.place),
  )

  pub content-stops : Found o x p y last m → (id : SectionKind) → id_of last b ≡ Ok id → (e : Halt)
      → read (content id) (p + 1) z ≡ Err e → StopsSections 0 o x e
  content-stops f id i e h =
      let t = rw h at (read-told {A = Section} (content id) (p + 1) z) in
      let k = f.place in (
        f.before,
        f.read_so_far,
        z,
        b,
        f.split ∙ ap (λ (w : List ℕ). f.read_so_far ++ w) here,
        f.spelled,
        inr (id, rw f.last_is at i, rw k at t),
      )

  pub one-more : Found o x p y last m → (id : SectionKind) → id_of last b ≡ Ok id → (s : Section) (q : ℕ) (w : List ℕ)
      → read (content id) (p + 1) z ≡ got s q w
      → Found o x q w (after last s) (put m s)
  one-more f id i s q w h =
      let t = rw h at (read-told {A = Section} (content id) (p + 1) z) in
      let k = f.place in
      record {
        before = f.before ++ s ∷ [];
        read_so_far = f.read_so_far ++ b ∷ t.0;
        split =
            f.split ∙ ap (λ (v : List ℕ). f.read_so_far ++ v) (here ∙ ap (λ (v : List ℕ). b ∷ v) t.1)
            ∙ sym (append_assoc f.read_so_far (b ∷ t.0) w);
        place = omega (arith, t.3, length-append f.read_so_far (b ∷ t.0));
        spelled = sections-snoc 0 f.before f.read_so_far b id t.0 s f.spelled (rw f.last_is at i) t.2;
        last_is = ap (λ (v : ℕ). after v s) f.last_is ∙ sym (reached-snoc 0 f.before s);
        parts_are = ap (λ (v : Parts). put v s) f.parts_are ∙ sym (put_all-snoc nothing f.before s);
      }

  pub shorter : (id : SectionKind) (s : Section) (q : ℕ) (w : List ℕ) → read (content id) (p + 1) z ≡ got s q w
      → length w < length y
  shorter id s q w h =
      let t = rw h at (read-told {A = Section} (content id) (p + 1) z) in
      omega (arith, ap length here, ap length t.1, length-append t.0 w)

pub found-all : (o : ℕ) (x : List ℕ) (p : ℕ) (last : ℕ) (m : Parts) → Found o x p [] last m
    → (ss : List Section) × AreSections free 0 ss x × (put_all nothing ss ≡ m) × (p ≡ o + length x)
found-all o x p last m f =
    let whole : x ≡ f.read_so_far = f.split ∙ append-nil f.read_so_far in
    (f.before, rw whole f.spelled, sym f.parts_are, omega (arith, f.place, ap length whole))
