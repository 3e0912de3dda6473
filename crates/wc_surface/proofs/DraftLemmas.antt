-- One more entry of instructions that are being built.
use Rattle.std.proofs.Common.{◌≡◌, ℕ, ◌<◌, ◌+◌, ◌-◌, Bool, true, false, List, [], ◌∷◌, ◌++◌, length, set, take}
use Rattle.std.proofs.Common.{refl, sym, ap, ◌∙◌, arith}
use Rattle.std.proofs.lemmas.List.{map-append}
use Rattle.wc_body.specs.declared.entry.Kind.{Kind}
use Rattle.wc_body.specs.declared.entry.Kind.TheVariants.{Block, Loop, If}
use Rattle.wc_body.specs.Standard.Nested.{nesting_limit, Code, empty, Mark, close}
use Rattle.wc_body.specs.Standard.Draft.{Frame, in_region, in_then, in_else, in_first_part, turned, Draft, whole, step}
use Rattle.wc_body.specs.Standard.Draft.{begins}
use Rattle.wc_body.specs.Standard.Draft.{is_otherwise, is_open, built, ended}
use Rattle.wc_body.specs.Drafting.Staying.{may_stay}
use Rattle.wc_body.specs.Drafting.Kept.{outermost, IsBuilding}
use Rattle.wc_body.proofs.Drafts.DraftLaws.{steps-append}
use Rattle.wc_body.proofs.Drafts.BuildingLemmas.{building-more, building-push, ended-built, HeadPart}
use Rattle.wc_body.proofs.Drafts.BuildingLemmas.{outermost-turned, outermost-closed}
use Rattle.wc_surface.specs.declared.instr.TextInstr.{TextInstr}
use Rattle.wc_surface.specs.declared.code.TextEntry.{TextEntry}
use Rattle.wc_surface.specs.declared.code.TextEntry.TheVariants.{Begin, Else, End}
use Rattle.wc_surface.specs.declared.code_builder.Part.{Part}
use Rattle.wc_surface.specs.declared.code_builder.Part.TheVariants.{Other}
use Rattle.wc_surface.specs.Standard.Marks.{begin_of, mark, marks, drafted}
use Rattle.wc_surface.specs.Kept.Building.{part_of, part_in, ends_with_else, with_end, IsStarted}

drafted-push : (es : List TextEntry) (e : TextEntry) → drafted (es ++ e ∷ []) ≡ step (drafted es) (mark e)
drafted-push es e = rw (map-append mark es (e ∷ [])) (steps-append (whole empty) (marks es) (mark e ∷ []))

ends-more : (es : List TextEntry) (e : TextEntry) → ends_with_else (es ++ e ∷ []) ≡ is_otherwise (mark e)
ends-more [] e = refl
ends-more (f ∷ []) e = refl
ends-more (f ∷ g ∷ es) e = ends-more (g ∷ es) e

pub started-none : IsStarted [] [] false
started-none = record { building = none_open; last = refl }
  where
    none_open : IsBuilding part_in (marks []) []
    none_open = record { each = tt; stacked = refl; within = omega arith; depth = omega arith }

-- what a builder keeps, and what it stands for, behind one more mark
pub record Pushed (es : List TextEntry) (m : Mark TextInstr ℕ) (new : List TextEntry) (parts : List Part)
    (after_else : Bool) : Type 0 where
  pub started : IsStarted new parts after_else
  pub drafted : drafted new ≡ step (drafted es) m

pub started-push : (es : List TextEntry) (old : List Part) (b : Bool) → IsStarted es old b → (e : TextEntry)
    → (new : List TextEntry) (parts : List Part) (after_else : Bool) → new ≡ es ++ e ∷ []
    → may_stay (drafted es) (mark e) ≡ true
    → (begins (mark e) ≡ true → length (drafted es).around < nesting_limit)
    → parts ≡ outermost part_in (step (drafted es) (mark e)).around → after_else ≡ is_otherwise (mark e)
    → Pushed es (mark e) new parts after_else
started-push es old b s e new parts after_else is can room stacked last =
    record {
      started = record {
        building = rw (is, map-append mark es (e ∷ []))
            (building-push part_in (marks es) old (mark e) parts s.building can room stacked);
        last = last ∙ sym (ends-more es e) ∙ ap ends_with_else (sym is);
      };
      drafted = ap drafted is ∙ drafted-push es e;
    }

-- the marks of entries with an end behind them
marks-end : (es : List TextEntry) (b : Bool) → b ≡ ends_with_else es → marks (with_end b es) ≡ ended (marks es)
marks-end es b e = go es b e
  where
    keeps : (f : TextEntry) (es : List TextEntry) → false ≡ ends_with_else (f ∷ es)
        → marks ((f ∷ es) ++ End ∷ []) ≡ ended (marks (f ∷ es))
    keeps f [] e = rw (sym e) refl
    keeps f (g ∷ es) e = ap (λ (ms : List (Mark TextInstr ℕ)). mark f ∷ ms) (keeps g es e)

    gives : (f : TextEntry) (es : List TextEntry) → true ≡ ends_with_else (f ∷ es)
        → marks (set (f ∷ es) (length es) End) ≡ ended (marks (f ∷ es))
    gives f [] e = rw (sym e) refl
    gives f (g ∷ es) e = ap (λ (ms : List (Mark TextInstr ℕ)). mark f ∷ ms) (gives g es e)

    go : (es : List TextEntry) (b : Bool) → b ≡ ends_with_else es → marks (with_end b es) ≡ ended (marks es)
    go [] true e = absurd cc
    go [] false e = refl
    go (f ∷ es) false e = keeps f es e
    go (f ∷ es) true e = let n : length (f ∷ es) - 1 ≡ length es = omega arith in rw n (gives f es e)

pub else-last : (es : List TextEntry) → ends_with_else es ≡ true → 0 < length es
else-last [] e = absurd cc
else-last (f ∷ es) e = omega arith

ends-not : (es : List TextEntry) (b : Bool) → b ≡ ends_with_else es → ends_with_else (with_end b es) ≡ false
ends-not es b e = go es b
  where
    last-set : (f : TextEntry) (es : List TextEntry) → ends_with_else (set (f ∷ es) (length es) End) ≡ false
    last-set f [] = refl
    last-set f (g ∷ []) = refl
    last-set f (g ∷ h ∷ es) = last-set g (h ∷ es)

    go : (es : List TextEntry) (b : Bool) → ends_with_else (with_end b es) ≡ false
    go es false = ends-more es End
    go [] true = refl
    go (f ∷ es) true = let n : length (f ∷ es) - 1 ≡ length es = omega arith in rw n (last-set f es)

head-other : {P H : Type 0} (around : List (Frame P H)) (last : Code P H) → in_first_part around ≡ true
    → HeadPart part_in Other (turned around last).around
head-other [] last e = absurd cc
head-other (in_region before r h ∷ around) last e = absurd cc
head-other (in_then before h ∷ around) last e = refl
head-other (in_else before h first ∷ around) last e = absurd cc

begin-stays : (d : Draft TextInstr ℕ) (kind : Kind) (h : ℕ) → may_stay d (begin_of kind h) ≡ true
begin-stays d Block h = refl
begin-stays d Loop h = refl
begin-stays d If h = refl

begin-last : (kind : Kind) (h : ℕ) → false ≡ is_otherwise (begin_of kind h)
begin-last Block h = refl
begin-last Loop h = refl
begin-last If h = refl

begin-parts : (d : Draft TextInstr ℕ) (kind : Kind) (h : ℕ)
    → outermost part_in d.around ++ part_of kind ∷ [] ≡ outermost part_in (step d (begin_of kind h)).around
begin-parts d Block h = refl
begin-parts d Loop h = refl
begin-parts d If h = refl

pub begin-pushed : (es : List TextEntry) (old : List Part) (b : Bool) → IsStarted es old b → (kind : Kind) (h : ℕ)
    (new : List TextEntry) (parts : List Part) → new ≡ es ++ Begin kind h ∷ []
    → length (drafted es).around < nesting_limit → parts ≡ old ++ part_of kind ∷ []
    → Pushed es (begin_of kind h) new parts false
begin-pushed es old b s kind h new parts is room stacked =
    started-push es old b s (Begin kind h) new parts false is (begin-stays (drafted es) kind h) (λ _. room)
    (stacked ∙ ap (λ (ps : List Part). ps ++ part_of kind ∷ []) s.building.stacked
    ∙ begin-parts (drafted es) kind h)
    (begin-last kind h)

pub else-pushed : (es : List TextEntry) (old : List Part) (b : Bool) → IsStarted es old b
    → (new : List TextEntry) (k : ℕ)
    → new ≡ es ++ Else ∷ [] → in_first_part (drafted es).around ≡ true → k + 1 ≡ length old
    → Pushed es (mark Else) new (set old k Other) true
else-pushed es old b s new k is can last =
    let d = drafted es in
    started-push es old b s Else new (set old k Other) true is can (λ e. absurd cc)
    (rw s.building.stacked (outermost-turned part_in d.around d.last Other k can (head-other d.around d.last can)
    (last ∙ ap (λ (ps : List Part). length ps) s.building.stacked)))
    refl

pub end-pushed : (es : List TextEntry) (old : List Part) (b : Bool) → IsStarted es old b
    → (new : List TextEntry) (k : ℕ)
    → new ≡ with_end b es → is_open (drafted es).around ≡ true → k + 1 ≡ length old
    → Pushed es close new (take k old) false
end-pushed es old b s new k is open_ last =
    let d = drafted es in
    let e = ended-built (marks es) s.building.each open_ in
    let ms : marks new ≡ ended (marks es) = ap marks is ∙ marks-end es b s.last in
    let same : drafted new ≡ step d close = ap (λ (ns : List (Mark TextInstr ℕ)). built ns) ms ∙ e.same in
    let stacked : take k old ≡ outermost part_in (step d close).around =
    rw s.building.stacked (outermost-closed part_in d.around d.last k
    (last ∙ ap (λ (ps : List Part). length ps) s.building.stacked)) in
    record {
      started = record {
        building = building-more part_in (marks es) old (marks new) (take k old) close s.building
            (rw ms e.each) same (λ e. absurd cc) stacked;
        last = sym (ends-not es b s.last) ∙ ap ends_with_else (sym is);
      };
      drafted = same;
    }
