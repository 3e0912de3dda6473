-- Entries that bytes begin with, one after the other, and what a builder keeps of them.
use Rattle.std.proofs.Common.{◌≡◌, ℕ, zero, suc, ◌+◌, ◌-◌, ◌<◌, ◌≤◌, true, false, List, [], ◌∷◌, ◌++◌, length, take}
use Rattle.std.proofs.Common.{refl, sym, ap, ◌∙◌, append_assoc, arith}
use Rattle.std.proofs.lemmas.List.{append-nil, map-append, take-append-le, take-take, length-append, length-take}
use Rattle.std.proofs.Math.Seq.{take-length}
use Rattle.std.specs.List.{AllByRecursion}
use Rattle.wc_body.specs.declared.instr.BlockType.{BlockType}
use Rattle.wc_body.specs.declared.instr.Instr.{Instr}
use Rattle.wc_body.specs.declared.entry.Kind.{Kind}
use Rattle.wc_body.specs.declared.entry.Kind.TheVariants.{Block, Loop, If}
use Rattle.wc_body.specs.declared.entry.Entry.{Entry}
use Rattle.wc_body.specs.declared.entry.Entry.TheVariants.{Plain, Begin, Else, End}
use Rattle.wc_body.specs.declared.builder.Part.{Part}
use Rattle.wc_body.specs.declared.needs.Needs.{Needs}
use Rattle.wc_body.specs.Standard.Nested.{Mark, nesting_limit}
use Rattle.wc_body.specs.Standard.Draft.{Draft, step, steps, may_come, begins, is_open}
use Rattle.wc_body.specs.Standard.Entries.{mark, marks, begin_of, drafted}
use Rattle.wc_body.specs.Standard.Needed.{nothing, with_mark}
use Rattle.wc_body.specs.Writing.EntryBytes.{entry_bytes, FitsEntry}
use Rattle.wc_body.specs.Reading.Unpacked.{packed, unpacked}
use Rattle.wc_body.specs.Drafting.OpenParts.{part_of, part_in}
use Rattle.wc_body.specs.Drafting.PackedBody.{IsStarted}
use Rattle.wc_body.specs.Drafting.AtFront.{NotesInstr, NotesMany, NotesRun, Opens, Notes}
use Rattle.wc_body.specs.Drafting.AtFront.{NotesManyMarks, NotesUsual}
use Rattle.wc_body.specs.Drafting.FrontEntries.{AllStand, AddsFront}
use Rattle.wc_body.proofs.Packing.PackedLemmas.{packed-append, fits-append}
use Rattle.wc_body.proofs.Packing.Unpacking.{has-byte}
use Rattle.wc_body.proofs.Drafts.DraftLaws.{steps-append}
use Rattle.wc_body.proofs.Drafts.BuildingLemmas.{depth-is, open_where}
use Rattle.wc_body.proofs.Drafts.BuilderLemmas.{Pushed, started-push, end-pushed, begin-stays, begin-parts, begin-last}

-- ---- one more entry

-- the entry may come next, and opens none beyond the limit
abbrev Stands : Draft Instr BlockType → Entry → Type 0
Stands d e = (begins (mark e) ≡ true → length d.around < nesting_limit) × (may_come d (mark e) ≡ true)

stand-append : (d : Draft Instr BlockType) (es : List Entry) (e : Entry) → AllStand d es → Stands (steps d (marks es)) e
    → AllStand d (es ++ e ∷ [])
stand-append d [] e all s = (s.0, s.1, tt)
stand-append d (f ∷ es) e all s = (all.0, all.1, stand-append (step d (mark f)) es e all.2 s)

begin-comes : (d : Draft Instr BlockType) (kind : Kind) (t : BlockType) → may_come d (begin_of kind t) ≡ true
begin-comes d Block t = refl
begin-comes d Loop t = refl
begin-comes d If t = refl

module _ (x : List ℕ) (old new : List Part) (s : Needs) (st : IsStarted x old false s) (y : List ℕ) where
  -- what is built so far
  abbrev so_far : Draft Instr BlockType
  so_far = drafted (unpacked x)

  abbrev IsBehind : Entry → Type 0
  IsBehind e = Pushed x e y new false (with_mark s (length old) (mark e)) × Stands so_far e

  pushed-front : (e : Entry) → FitsEntry e → Opens e old new → y ≡ x ++ entry_bytes e → IsBehind e
  pushed-front (Plain i) f o is = (
    started-push x old false s st (Plain i) f y new false is refl (λ e. absurd cc) (o ∙ st.building.stacked) refl,
    (λ e. absurd cc, refl),
  )
  pushed-front (Begin kind t) f o is =
      let room : length so_far.around < nesting_limit = omega (arith, o.0, depth-is part_in _ old st.building) in
      let parts =
      o.1 ∙ ap (λ (ps : List Part). ps ++ part_of kind ∷ []) st.building.stacked ∙ begin-parts so_far kind t in (
        started-push x old false s st (Begin kind t) f y new false is (begin-stays so_far kind t) (λ e. room) parts
            (begin-last kind t),
        (λ e. room, begin-comes so_far kind t),
      )
  pushed-front Else f o is = absurd o
  pushed-front End f o is =
      let some = depth-is part_in _ old st.building in
      let open_ : is_open so_far.around ≡ true = open_where _ (omega (arith, some, o.1)) in
      (rw o.2 (end-pushed x old false s st y o.0 is open_ o.1), (λ e. absurd cc, open_))

-- ---- a run of entries

-- the bytes begin with entries that stand behind the draft, and this is kept of them behind the bytes x
pub record Fronted (x : List ℕ) (d : Draft Instr BlockType) (bytes rest : List ℕ) (parts : List Part) (needs : Needs)
    : Type 0 where
  pub es : List Entry
  pub split : bytes ≡ packed es ++ rest
  pub fits : AllByRecursion FitsEntry es
  pub stand : AllStand d es
  pub started : IsStarted (x ++ packed es) parts false needs
  pub built : drafted (unpacked (x ++ packed es)) ≡ steps d (marks es)

pub fronted-none : (x : List ℕ) (d : Draft Instr BlockType) (bytes : List ℕ) (parts : List Part) (needs : Needs)
    → IsStarted x parts false needs → drafted (unpacked x) ≡ d → Fronted x d bytes bytes parts needs
fronted-none x d bytes parts needs s is = record {
  es = [];
  split = refl;
  fits = tt;
  stand = tt;
  started = rw (append-nil x) s;
  built = rw (append-nil x) is;
}

pub fronted-more : (x : List ℕ) (d : Draft Instr BlockType) (bytes rest left : List ℕ) (old new : List Part)
    (s t : Needs)
    → Fronted x d bytes rest old s → Notes rest left s t old new → Fronted x d bytes left new t
fronted-more x d bytes rest left old new s t f h =
    let e = h.0 in
    let one = packed-append f.es (e ∷ []) ∙ ap (λ (q : List ℕ). packed f.es ++ q) (append-nil (entry_bytes e)) in
    let bytes_of = ap (λ (q : List ℕ). x ++ q) one ∙ sym (append_assoc x (packed f.es) (entry_bytes e)) in
    let p = pushed-front (x ++ packed f.es) old new s f.started (x ++ packed (f.es ++ e ∷ [])) e h.2 h.4 bytes_of in
    record {
      es = f.es ++ e ∷ [];
      split = f.split ∙ ap (λ (q : List ℕ). packed f.es ++ q) h.1
          ∙ sym (append_assoc (packed f.es) (entry_bytes e) left) ∙ ap (λ (q : List ℕ). q ++ left) (sym one);
      fits = fits-append f.es e f.fits h.2;
      stand = stand-append d f.es e f.stand (rw f.built at p.1);
      started = rw h.3 p.0.started;
      built =
          p.0.drafted ∙ ap (λ (q : Draft Instr BlockType). step q (mark e)) f.built
          ∙ sym (steps-append d (marks f.es) (mark e ∷ []))
          ∙ ap (λ (ms : List (Mark Instr BlockType)). steps d ms) (sym (map-append mark f.es (e ∷ [])));
    }

-- how many bytes follow, and how many there were
pub fronted-length : (x : List ℕ) (d : Draft Instr BlockType) (bytes rest : List ℕ) (parts : List Part) (needs : Needs)
    → (f : Fronted x d bytes rest parts needs) → length bytes ≡ length (packed f.es) + length rest
fronted-length x d bytes rest parts needs f = ap length f.split ∙ length-append (packed f.es) rest

-- those that were taken
pub fronted-taken : (x : List ℕ) (d : Draft Instr BlockType) (bytes rest : List ℕ) (parts : List Part) (needs : Needs)
    → (f : Fronted x d bytes rest parts needs) → take (length bytes - length rest) bytes ≡ packed f.es
fronted-taken x d bytes rest parts needs f =
    let count : length bytes - length rest ≡ length (packed f.es) =
    omega (arith, fronted-length x d bytes rest parts needs f) in
    rw (count, f.split) (take-append-le (length (packed f.es)) (packed f.es) rest (omega arith)
    ∙ take-length (packed f.es))

-- shorter by an entry
pub fronted-shorter : (rest left : List ℕ) (e : Entry) → rest ≡ entry_bytes e ++ left → length left < length rest
fronted-shorter rest left e is = omega (arith, ap length is, length-append (entry_bytes e) left, has-byte e)

-- ---- a run of instructions

-- one of them is an entry
pub instr-notes : (x rest : List ℕ) (s t : Needs) (parts : List Part) → NotesInstr (length parts) x rest s t
    → Notes x rest s t parts parts
instr-notes x rest s t parts h = (Plain h.0, h.1, h.2, h.3, refl)

-- so many more
many-more : (n : ℕ) (x : List ℕ) (d : Draft Instr BlockType) (bytes rest left : List ℕ) (parts : List Part)
    (s t : Needs)
    → Fronted x d bytes rest parts s → NotesMany n (length parts) rest left s t → Fronted x d bytes left parts t
many-more zero x d bytes rest left parts s t f h = rw (h.0, h.1) f
many-more (suc n) x d bytes rest left parts s t f (y, u, before, last) =
    fronted-more x d bytes y left parts parts u t (many-more n x d bytes rest y parts s u f before)
    (instr-notes y left u t parts last)

pub fronted-run : (x : List ℕ) (d : Draft Instr BlockType) (bytes rest left : List ℕ) (parts : List Part) (s t : Needs)
    → Fronted x d bytes rest parts s → NotesRun (length parts) rest left s t → Fronted x d bytes left parts t
fronted-run x d bytes rest left parts s t f h = many-more h.0 x d bytes rest left parts s t f h.1

-- no longer than before
many-shorter : (n k : ℕ) (rest left : List ℕ) (s t : Needs) → NotesMany n k rest left s t → length left ≤ length rest
many-shorter zero k rest left s t h = omega (arith, ap length h.0)
many-shorter (suc n) k rest left s t (y, u, before, last) =
    omega (arith, many-shorter n k rest y s u before, fronted-shorter y left (Plain last.0) last.1)

pub run-shorter : (k : ℕ) (rest left : List ℕ) (s t : Needs) → NotesRun k rest left s t → length left ≤ length rest
run-shorter k rest left s t h = many-shorter h.0 k rest left s t h.1

-- ---- a usual entry, and such as need no more

marks-more : (n : ℕ) (x : List ℕ) (d : Draft Instr BlockType) (bytes rest left : List ℕ) (old new : List Part)
    (s : Needs)
    → Fronted x d bytes rest old s → NotesManyMarks n rest left old new → Fronted x d bytes left new s
marks-more zero x d bytes rest left old new s f h = rw (h.0, h.1) f
marks-more (suc n) x d bytes rest left old new s f (y, parts, before, last) =
    fronted-more x d bytes y left parts new s s (marks-more n x d bytes rest y old parts s f before) (last s)

pub fronted-usual : (x : List ℕ) (d : Draft Instr BlockType) (bytes rest left : List ℕ) (old new : List Part)
    (s t : Needs)
    → Fronted x d bytes rest old s → NotesUsual rest left s t old new → Fronted x d bytes left new t
fronted-usual x d bytes rest left old new s t f (y, parts, first, more) =
    marks-more more.0 x d bytes y left parts new t (fronted-more x d bytes rest y old parts s t f first) more.1

marks-shorter : (n : ℕ) (rest left : List ℕ) (old new : List Part) → NotesManyMarks n rest left old new
    → length left ≤ length rest
marks-shorter zero rest left old new h = omega (arith, ap length h.0)
marks-shorter (suc n) rest left old new (y, parts, before, last) =
    let one = last nothing in
    omega (arith, marks-shorter n rest y old parts before, fronted-shorter y left one.0 one.1)

pub usual-shorter : (rest left : List ℕ) (old new : List Part) (s t : Needs) → NotesUsual rest left s t old new
    → length left < length rest
usual-shorter rest left old new s t (y, parts, first, more) =
    omega (arith, marks-shorter more.0 y left parts new more.1, fronted-shorter rest y first.0 first.1)

-- what is added of so many bytes at most
module _ (x : List ℕ) (d : Draft Instr BlockType) (bytes : List ℕ) (most : ℕ) (rest : List ℕ) (parts : List Part)
    (needs : Needs) (f : Fronted x d (take most bytes) rest parts needs)
  where
    abbrev count : ℕ
    count = length (take most bytes) - length rest

    taken : take count (take most bytes) ≡ packed f.es
    taken = fronted-taken x d (take most bytes) rest parts needs f

    pub fronted-room : length (take count (take most bytes)) ≤ most
    fronted-room = omega (arith, length-take count (take most bytes), length-take most bytes)

    pub fronted-kept : IsStarted (x ++ take count (take most bytes)) parts false needs
    fronted-kept = rw taken f.started

    pub fronted-added : AddsFront d (drafted (unpacked (x ++ take count (take most bytes)))) bytes count
    fronted-added =
        let few = length-take most bytes in (
          omega (arith, few),
          (
            f.es,
            sym (take-take count most bytes (omega (arith, few))) ∙ taken,
            f.fits,
            f.stand,
            rw taken f.built,
          ),
        )
