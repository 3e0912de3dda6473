-- One more entry of a body that is being built.
use Rattle.std.proofs.Common.{◌≡◌, ℕ, ◌<◌, ◌+◌, Bool, true, false, List, [], ◌∷◌, ◌++◌, length, set, take}
use Rattle.std.proofs.Common.{refl, sym, ap, subst, ◌∙◌, arith}
use Rattle.std.proofs.lemmas.List.{map-append}
use Rattle.std.specs.Prelude.{Result, Ok, Err, OnOk, IsErrOf}
use Rattle.wc_body.specs.declared.instr.BlockType.{BlockType}
use Rattle.wc_body.specs.declared.instr.Instr.{Instr}
use Rattle.wc_body.specs.declared.entry.Kind.{Kind}
use Rattle.wc_body.specs.declared.entry.Kind.TheVariants.{Block, Loop, If}
use Rattle.wc_body.specs.declared.entry.Entry.{Entry}
use Rattle.wc_body.specs.declared.entry.Entry.TheVariants.{Begin, Else, End}
use Rattle.wc_body.specs.declared.builder.Part.{Part}
use Rattle.wc_body.specs.declared.needs.Needs.{Needs}
use Rattle.wc_body.specs.declared.builder.Part.TheVariants.{Other}
use Rattle.wc_body.specs.declared.builder.BuildFault.{BuildFault}
use Rattle.wc_body.specs.declared.builder.BuildFault.TheVariants as BuildFaults
use Rattle.wc_body.specs.Standard.Nested.{nesting_limit, Code, empty, Mark, close}
use Rattle.wc_body.specs.Standard.Draft.{Frame, in_region, in_then, in_else, in_first_part, turned, Draft, whole, step}
use Rattle.wc_body.specs.Standard.Draft.{begins}
use Rattle.wc_body.specs.Drafting.Staying.{may_stay}
use Rattle.wc_body.specs.Standard.Draft.{may_come, is_otherwise, is_open, built, so_far, kept_with as more_marks}
use Rattle.wc_body.proofs.Drafts.DraftLaws.{steps-append}
use Rattle.wc_body.specs.Standard.Entries.{begin_of, mark, marks, drafted}
use Rattle.wc_body.specs.Drafting.Kept.{outermost, IsBuilding}
use Rattle.wc_body.specs.Drafting.OpenParts.{part_of, part_in}
use Rattle.wc_body.specs.Writing.EntryBytes.{opening_bytes, entry_bytes, FitsEntry}
use Rattle.wc_body.specs.Standard.InstructionBytes.{block_type_bytes, FitsBlockType}
use Rattle.wc_body.specs.Standard.Needed.{nothing, with_block, with_mark}
use Rattle.wc_body.specs.Drafting.NeededAlong.{needs_along}
use Rattle.wc_body.specs.Reading.Unpacked.{unpacked}
use Rattle.wc_body.specs.Drafting.PackedBody.{ends_with_else, with_end, IsStarted}
use Rattle.wc_body.proofs.Drafts.BuildingLemmas.{building-more, building-push, depth-is, ended-built, kept, HeadPart}
use Rattle.wc_body.proofs.Drafts.BuildingLemmas.{outermost-turned, outermost-closed}
use Rattle.wc_body.proofs.Drafts.NeedsLemmas.{needs-more, needs-ended}
use Rattle.wc_body.proofs.Packing.PackedLemmas.{packs-none, packs-more, ends-more, packs-end}

pub drafted-push : (es : List Entry) (e : Entry) → drafted (es ++ e ∷ []) ≡ step (drafted es) (mark e)
drafted-push es e = rw (map-append mark es (e ∷ [])) (steps-append (whole empty) (marks es) (mark e ∷ []))

entry-push : (es : List Entry) (stack : List Part) (e : Entry) (new : List Part)
    → IsBuilding part_in (marks es) stack → may_stay (drafted es) (mark e) ≡ true
    → (begins (mark e) ≡ true → length (drafted es).around < nesting_limit)
    → new ≡ outermost part_in (step (drafted es) (mark e)).around
    → IsBuilding part_in (marks (es ++ e ∷ [])) new
entry-push es stack e new b can room stacked = rw (map-append mark es (e ∷ []))
    (building-push part_in (marks es) stack (mark e) new b can room stacked)

-- nothing so far
pub drafted-none : drafted (unpacked []) ≡ whole empty
drafted-none = ap drafted packs-none.is

pub started-none : IsStarted [] [] false nothing
started-none = record {
  packed = packs-none.packed;
  building = rw packs-none.is none_open;
  last = ap ends_with_else (sym packs-none.is);
  needed = ap (λ (es : List Entry). needs_along nothing 0 (marks es)) (sym packs-none.is);
}
  where
    none_open : IsBuilding part_in (marks []) []
    none_open = record { each = tt; stacked = refl; within = omega arith; depth = omega arith }

-- what a builder keeps, and what it stands for, behind one more entry
pub record Pushed (x : List ℕ) (e : Entry) (new : List ℕ) (parts : List Part) (after_else : Bool) (needs : Needs)
    : Type 0 where
  pub started : IsStarted new parts after_else needs
  pub drafted : drafted (unpacked new) ≡ step (drafted (unpacked x)) (mark e)

pub started-push : (x : List ℕ) (old : List Part) (b : Bool) (n : Needs) → IsStarted x old b n → (e : Entry)
    → FitsEntry e → (new : List ℕ) (parts : List Part) (after_else : Bool) → new ≡ x ++ entry_bytes e
    → may_stay (drafted (unpacked x)) (mark e) ≡ true
    → (begins (mark e) ≡ true → length (drafted (unpacked x)).around < nesting_limit)
    → parts ≡ outermost part_in (step (drafted (unpacked x)) (mark e)).around → after_else ≡ is_otherwise (mark e)
    → Pushed x e new parts after_else (with_mark n (length old) (mark e))
started-push x old b n s e f new parts after_else is can room stacked last =
    let k = packs-more x s.packed e f new is in
    let building = entry-push (unpacked x) old e parts s.building can room stacked in
    record {
      started = record {
        packed = k.packed;
        building = subst (λ (es : List Entry). IsBuilding part_in (marks es) parts) (sym k.is) building;
        last = last ∙ sym (ends-more (unpacked x) e) ∙ ap ends_with_else (sym k.is);
        needed =
            ap (λ (m : Needs). with_mark m (length old) (mark e)) s.needed
            ∙ ap (λ (d : ℕ). with_mark (needs_along nothing 0 (marks (unpacked x))) d (mark e))
            (depth-is part_in (marks (unpacked x)) old s.building)
            ∙ sym (needs-more (marks (unpacked x)) (mark e))
            ∙ ap (λ (ms : List (Mark Instr BlockType)). needs_along nothing 0 ms)
            (sym (map-append mark (unpacked x) (e ∷ [])) ∙ ap marks (sym k.is));
      };
      drafted = ap drafted k.is ∙ drafted-push (unpacked x) e;
    }

-- and behind an end mark
pub started-end : (x : List ℕ) (old : List Part) (b : Bool) (n : Needs) → IsStarted x old b n → (new : List ℕ)
    (parts : List Part) → new ≡ with_end b x → is_open (drafted (unpacked x)).around ≡ true
    → parts ≡ outermost part_in (step (drafted (unpacked x)) close).around → Pushed x End new parts false n
started-end x old b n s new parts is open_ stacked =
    let k = packs-end x s.packed b s.last new is in
    let e = ended-built (marks (unpacked x)) s.building.each open_ in
    let same : built (marks (unpacked new)) ≡ step (drafted (unpacked x)) close =
    ap (λ (ms : List (Mark Instr BlockType)). built ms) k.marks ∙ e.same in
    record {
      started = record {
        packed = k.packed;
        building = building-more part_in (marks (unpacked x)) old (marks (unpacked new)) parts close s.building
            (rw k.marks e.each) same (λ e. absurd cc) stacked;
        last = sym k.last;
        needed =
            s.needed ∙ sym (needs-ended (marks (unpacked x)))
            ∙ ap (λ (ms : List (Mark Instr BlockType)). needs_along nothing 0 ms) (sym k.marks);
      };
      drafted = same;
    }

-- behind an else the innermost one is in no first part
pub head-other : (around : List (Frame Instr BlockType)) (last : Code Instr BlockType) → in_first_part around ≡ true
    → HeadPart part_in Other (turned around last).around
head-other [] last e = absurd cc
head-other (in_region before r h ∷ around) last e = absurd cc
head-other (in_then before h ∷ around) last e = refl
head-other (in_else before h first ∷ around) last e = absurd cc

pub begin-stays : (d : Draft Instr BlockType) (kind : Kind) (t : BlockType) → may_stay d (begin_of kind t) ≡ true
begin-stays d Block t = refl
begin-stays d Loop t = refl
begin-stays d If t = refl

pub begin-last : (kind : Kind) (t : BlockType) → false ≡ is_otherwise (begin_of kind t)
begin-last Block t = refl
begin-last Loop t = refl
begin-last If t = refl

pub begin-parts : (d : Draft Instr BlockType) (kind : Kind) (t : BlockType)
    → outermost part_in d.around ++ part_of kind ∷ [] ≡ outermost part_in (step d (begin_of kind t)).around
begin-parts d Block t = refl
begin-parts d Loop t = refl
begin-parts d If t = refl

-- ---- each kind of entry

pub begin-needs : (n : Needs) (k : ℕ) (kind : Kind) (t : BlockType) → with_block n t ≡ with_mark n k (begin_of kind t)
begin-needs n k Block t = refl
begin-needs n k Loop t = refl
begin-needs n k If t = refl

pub begin-pushed : (x : List ℕ) (old : List Part) (b : Bool) (n : Needs) → IsStarted x old b n → (kind : Kind)
    (t : BlockType) → FitsBlockType t → (new : List ℕ) (parts : List Part)
    → new ≡ x ++ (opening_bytes kind ++ block_type_bytes t)
    → length (drafted (unpacked x)).around < nesting_limit → parts ≡ old ++ part_of kind ∷ []
    → Pushed x (Begin kind t) new parts false (with_block n t)
begin-pushed x old b n s kind t f new parts is room stacked =
    let d = drafted (unpacked x) in
    rw (begin-needs n (length old) kind t)
    (started-push x old b n s (Begin kind t) f new parts false is (begin-stays d kind t) (λ _. room)
    (stacked ∙ ap (λ (ps : List Part). ps ++ part_of kind ∷ []) s.building.stacked ∙ begin-parts d kind t)
    (begin-last kind t))

pub else-pushed : (x : List ℕ) (old : List Part) (b : Bool) (n : Needs) → IsStarted x old b n → (new : List ℕ) (k : ℕ)
    → new ≡ x ++ 0x05 ∷ [] → in_first_part (drafted (unpacked x)).around ≡ true → k + 1 ≡ length old
    → Pushed x Else new (set old k Other) true n
else-pushed x old b n s new k is can last =
    let d = drafted (unpacked x) in
    started-push x old b n s Else tt new (set old k Other) true is can (λ e. absurd cc)
    (rw s.building.stacked (outermost-turned part_in d.around d.last Other k can (head-other d.around d.last can)
    (last ∙ ap (λ (ps : List Part). length ps) s.building.stacked)))
    refl

pub end-pushed : (x : List ℕ) (old : List Part) (b : Bool) (n : Needs) → IsStarted x old b n → (new : List ℕ) (k : ℕ)
    → new ≡ with_end b x → is_open (drafted (unpacked x)).around ≡ true → k + 1 ≡ length old
    → Pushed x End new (take k old) false n
end-pushed x old b n s new k is can last =
    let d = drafted (unpacked x) in
    started-end x old b n s new (take k old) is can
    (rw s.building.stacked (outermost-closed part_in d.around d.last k
    (last ∙ ap (λ (ps : List Part). length ps) s.building.stacked)))

module _ {P H : Type 0} where
  pub kept-where : (r : Result (Unit {0}) BuildFault) (old new : Draft P H) (m : Mark P H) → OnOk r (new ≡ step old m)
      → (may_come old m ≡ false → IsErrOf r BuildFaults.Mark) → OnOk r (so_far new ≡ more_marks (so_far old) m)
  kept-where (Err f) old new m ok mark_fault = tt
  kept-where (Ok t) old new m ok mark_fault = go (may_come old m) refl
    where
      go : (b : Bool) → may_come old m ≡ b → so_far new ≡ more_marks (so_far old) m
      go true e = rw ok (kept old m e)
      go false e = absurd (let k = mark_fault e in cc)
