-- Rows of entries as rows of bytes: one more entry, and the first of them.
use Rattle.std.proofs.Common.{◌≡◌, ℕ, suc, ◌-◌, ◌<◌, ◌≤◌, Bool, true, false, List, [], ◌∷◌, ◌++◌, length, set}
use Rattle.std.proofs.Common.{Option, Some, None, refl, sym, ap, subst, ◌∙◌, append_assoc, arith}
use Rattle.std.proofs.lemmas.List.{append-nil, length-append}
use Rattle.std.specs.List.{AllByRecursion}
use Rattle.wc_body.specs.declared.instr.BlockType.{BlockType}
use Rattle.wc_body.specs.declared.instr.Instr.{Instr}
use Rattle.wc_body.specs.declared.entry.Kind.TheVariants.{Block, Loop, If}
use Rattle.wc_body.specs.declared.entry.Entry.{Entry}
use Rattle.wc_body.specs.declared.entry.Entry.TheVariants.{Plain, Begin, Else, End}
use Rattle.wc_body.specs.Standard.Nested.{Mark}
use Rattle.wc_body.specs.Standard.Draft.{is_otherwise, ended}
use Rattle.wc_body.specs.Standard.Entries.{mark, marks}
use Rattle.wc_body.specs.Writing.EntryBytes.{entry_bytes, FitsEntry}
use Rattle.wc_body.specs.Reading.Fronts.{entry_front}
use Rattle.wc_body.specs.Reading.Unpacked.{packed, unpacked, IsPacked}
use Rattle.wc_body.specs.Drafting.PackedBody.{ends_with_else, with_end}
use Rattle.wc_body.proofs.Packing.Unpacking.{entry-found, has-byte, unpacked-packed}

-- the bytes of entries that fit are theirs
pub record Packs (x : List ℕ) (es : List Entry) : Type 0 where
  pub is : unpacked x ≡ es
  pub packed : IsPacked x

pub packs : (x : List ℕ) (es : List Entry) → AllByRecursion FitsEntry es → x ≡ packed es → Packs x es
packs x es f e =
    let is : unpacked x ≡ es = ap unpacked e ∙ unpacked-packed es f in
    record {
      is = is;
      packed = record { same = ap packed is ∙ sym e; fits = subst (AllByRecursion FitsEntry) (sym is) f };
    }

pub packs-none : Packs [] []
packs-none = packs [] [] tt refl

-- ---- the first entry

empty-front : entry_front [] ≡ None
unfolding entry_front
empty-front = refl

-- the entry and the bytes that follow it
abbrev there : Entry → List ℕ → Option (Entry × List ℕ)
there e y = Some (e, y)

same-there : (d e : Entry) (x y : List ℕ) → there d x ≡ there e y → (d ≡ e) × (x ≡ y)
same-there d e x y h =
    let pairs : (d, x) ≡ (e, y) = cc in
    (ap (λ (p : Entry × List ℕ). p.0) pairs, ap (λ (p : Entry × List ℕ). p.1) pairs)

pub front-first : (x : List ℕ) → IsPacked x → (e : Entry) (y : List ℕ) → entry_front x ≡ Some (e, y)
    → (unpacked x ≡ e ∷ unpacked y) × IsPacked y
front-first x p e y h = go (unpacked x) refl p.same p.fits
  where
    go : (es : List Entry) → unpacked x ≡ es → packed es ≡ x → AllByRecursion FitsEntry es
        → (unpacked x ≡ e ∷ unpacked y) × IsPacked y
    go [] u same fits =
        absurd (let no : None ≡ there e y = sym empty-front ∙ ap entry_front same ∙ h in cc)
    go (d ∷ ds) u same fits =
        let k = same-there d e (packed ds) y (sym (entry-found d (packed ds) fits.0) ∙ ap entry_front same ∙ h) in
        let rest = packs y ds fits.1 (sym k.1) in
        (u ∙ rw (k.0, rest.is) refl, rest.packed)

pub front-none : (x : List ℕ) → IsPacked x → entry_front x ≡ None → unpacked x ≡ []
front-none x p h = go (unpacked x) refl p.same p.fits
  where
    go : (es : List Entry) → unpacked x ≡ es → packed es ≡ x → AllByRecursion FitsEntry es → unpacked x ≡ []
    go [] u same fits = u
    go (d ∷ ds) u same fits =
        absurd (let no : there d (packed ds) ≡ None =
        sym (entry-found d (packed ds) fits.0) ∙ ap entry_front same ∙ h in cc)

-- ---- one more entry

pub packed-append : (es fs : List Entry) → packed (es ++ fs) ≡ packed es ++ packed fs
packed-append [] fs = refl
packed-append (e ∷ es) fs = ap (λ (z : List ℕ). entry_bytes e ++ z) (packed-append es fs)
    ∙ sym (append_assoc (entry_bytes e) (packed es) (packed fs))

pub fits-append : (es : List Entry) (e : Entry) → AllByRecursion FitsEntry es → FitsEntry e
    → AllByRecursion FitsEntry (es ++ e ∷ [])
fits-append [] e all f = (f, tt)
fits-append (d ∷ es) e all f = (all.0, fits-append es e all.1 f)

pub packs-more : (x : List ℕ) → IsPacked x → (e : Entry) → FitsEntry e → (new : List ℕ) → new ≡ x ++ entry_bytes e
    → Packs new (unpacked x ++ e ∷ [])
packs-more x p e f new is =
    packs new (unpacked x ++ e ∷ []) (fits-append (unpacked x) e p.fits f)
    (is ∙ ap (λ (z : List ℕ). z ++ entry_bytes e) (sym p.same)
    ∙ ap (λ (z : List ℕ). packed (unpacked x) ++ z) (sym (append-nil (entry_bytes e)))
    ∙ sym (packed-append (unpacked x) (e ∷ [])))

pub ends-more : (es : List Entry) (e : Entry) → ends_with_else (es ++ e ∷ []) ≡ is_otherwise (mark e)
ends-more [] e = refl
ends-more (d ∷ []) e = refl
ends-more (d ∷ c ∷ es) e = ends-more (c ∷ es) e

-- ---- an end mark, which may take the place of an else mark

-- the entries with an end in the place of the last
abbrev turned_end : List Entry → List Entry
turned_end [] = []
turned_end (e ∷ []) = End ∷ []
turned_end (e ∷ f ∷ es) = e ∷ turned_end (f ∷ es)

-- marks of instructions
abbrev Marks : Type 0
Marks = List (Mark Instr BlockType)

turned-marks : (es : List Entry) → ends_with_else es ≡ true → marks (turned_end es) ≡ ended (marks es)
turned-marks [] h = absurd cc
turned-marks (e ∷ []) h = rw h refl
turned-marks (e ∷ f ∷ es) h = ap (λ (ms : Marks). mark e ∷ ms) (turned-marks (f ∷ es) h)

ended-marks : (es : List Entry) → ends_with_else es ≡ false → marks (es ++ End ∷ []) ≡ ended (marks es)
ended-marks [] h = refl
ended-marks (e ∷ []) h = rw h refl
ended-marks (e ∷ f ∷ es) h = ap (λ (ms : Marks). mark e ∷ ms) (ended-marks (f ∷ es) h)

turned-fits : (es : List Entry) → AllByRecursion FitsEntry es → AllByRecursion FitsEntry (turned_end es)
turned-fits [] all = tt
turned-fits (e ∷ []) all = (tt, tt)
turned-fits (e ∷ f ∷ es) all = (all.0, turned-fits (f ∷ es) all.1)

else-byte : (e : Entry) → is_otherwise (mark e) ≡ true → entry_bytes e ≡ 0x05 ∷ []
else-byte (Plain i) h = absurd cc
else-byte (Begin Block t) h = absurd cc
else-byte (Begin Loop t) h = absurd cc
else-byte (Begin If t) h = absurd cc
else-byte Else h = refl
else-byte End h = absurd cc

set-behind : (a b : List ℕ) (v : ℕ) → 1 ≤ length b → set (a ++ b) (length (a ++ b) - 1) v ≡ a ++ set b (length b - 1) v
set-behind [] b v h = refl
set-behind (c ∷ a) b v h =
    let k : suc (length (a ++ b)) - 1 ≡ suc (length (a ++ b) - 1) = omega (arith, length-append a b) in
    rw k (ap (λ (z : List ℕ). c ∷ z) (set-behind a b v h))

some-bytes : (e : Entry) (es : List Entry) → 1 ≤ length (packed (e ∷ es))
some-bytes e es = omega (arith, has-byte e, length-append (entry_bytes e) (packed es))

turned-bytes : (es : List Entry) → ends_with_else es ≡ true
    → packed (turned_end es) ≡ set (packed es) (length (packed es) - 1) 0x0B
turned-bytes [] h = absurd cc
turned-bytes (e ∷ []) h = rw (else-byte e h) refl
turned-bytes (e ∷ f ∷ es) h =
    ap (λ (z : List ℕ). entry_bytes e ++ z) (turned-bytes (f ∷ es) h)
    ∙ sym (set-behind (entry_bytes e) (packed (f ∷ es)) 0x0B (some-bytes f es))

-- the bytes with an end mark behind them
pub record Ended (x new : List ℕ) : Type 0 where
  pub packed : IsPacked new
  pub marks : marks (unpacked new) ≡ ended (marks (unpacked x))
  pub last : ends_with_else (unpacked new) ≡ false

turned-last : (es : List Entry) → ends_with_else es ≡ true → ends_with_else (turned_end es) ≡ false
turned-last [] h = absurd cc
turned-last (e ∷ []) h = refl
turned-last (e ∷ f ∷ []) h = refl
turned-last (e ∷ f ∷ g ∷ es) h = turned-last (f ∷ g ∷ es) h

pub packs-end : (x : List ℕ) → IsPacked x → (after_else : Bool) → after_else ≡ ends_with_else (unpacked x)
    → (new : List ℕ) → new ≡ with_end after_else x → Ended x new
packs-end x p false e new is =
    let k = packs-more x p End tt new is in
    record {
      packed = k.packed;
      marks = ap (λ (es : List Entry). marks es) k.is ∙ ended-marks (unpacked x) (sym e);
      last = ap ends_with_else k.is ∙ ends-more (unpacked x) End;
    }
packs-end x p true e new is =
    let bytes : new ≡ packed (turned_end (unpacked x)) =
    is ∙ ap (λ (z : List ℕ). set z (length z - 1) 0x0B) (sym p.same) ∙ sym (turned-bytes (unpacked x) (sym e)) in
    let k = packs new (turned_end (unpacked x)) (turned-fits (unpacked x) p.fits) bytes in
    record {
      packed = k.packed;
      marks = ap (λ (es : List Entry). marks es) k.is ∙ turned-marks (unpacked x) (sym e);
      last = ap ends_with_else k.is ∙ turned-last (unpacked x) (sym e);
    }

-- bytes end with an else mark only where there are some
pub else-last : (x : List ℕ) → IsPacked x → ends_with_else (unpacked x) ≡ true → 0 < length x
else-last x p h = go (unpacked x) p.same h
  where
    go : (es : List Entry) → packed es ≡ x → ends_with_else es ≡ true → 0 < length x
    go [] same h = absurd cc
    go (e ∷ es) same h = omega (arith, some-bytes e es, ap length same)
