-- One more mark of what is being built, and what a builder keeps then.
use Rattle.std.proofs.Common.{◌≡◌, ℕ, ◌+◌, ◌≤◌, ◌<◌, Bool, true, false, List, [], ◌∷◌, ◌++◌, length}
use Rattle.std.proofs.Common.{set, take, refl, sym, ap, ◌∙◌, arith}
use Rattle.std.proofs.lemmas.List.{length-append}
use Rattle.std.proofs.Math.Seq.{set-append_seam, take-append_seam}
use Rattle.wc_body.specs.Standard.Nested.{nesting_limit, Code, empty, op, region, choice, Mark, plain, begin, begin_if}
use Rattle.wc_body.specs.Standard.Nested.{otherwise, close, ◌⧺◌, flat}
use Rattle.wc_body.specs.Standard.Draft.{Frame, in_region, in_then, in_else, Draft, draft, whole, step, steps, built}
use Rattle.wc_body.specs.Standard.Draft.{closed, turned, may_come, begins, in_first_part, is_open, is_otherwise, ended}
use Rattle.wc_body.specs.Drafting.Staying.{may_stay, may_end, AllMayStay}
use Rattle.wc_body.specs.Standard.Draft.{open_marks, upto, so_far, kept_with}
use Rattle.wc_body.proofs.Drafts.DraftLaws.{steps-append, AllMayStay-append, AllMayStay-flat, step-reach, upto-built}
use Rattle.wc_body.specs.Stored.Rebuilt.{built_upto}
use Rattle.wc_body.specs.Drafting.Kept.{outermost, IsBuilding, IsWhole}

module _ {P H : Type 0} where
  turned-depth : (around : List (Frame P H)) (last : Code P H) (limit : ℕ) → length around ≤ limit
      → length (turned around last).around ≤ limit
  turned-depth [] last limit h = h
  turned-depth (in_region before r h ∷ around) last limit k = k
  turned-depth (in_then before h ∷ around) last limit k = k
  turned-depth (in_else before h first ∷ around) last limit k = k

  closed-depth : (around : List (Frame P H)) (last : Code P H) (limit : ℕ) → length around ≤ limit
      → length (closed around last).around ≤ limit
  closed-depth [] last limit h = h
  closed-depth (in_region before r h ∷ around) last limit k = omega arith
  closed-depth (in_then before h ∷ around) last limit k = omega arith
  closed-depth (in_else before h first ∷ around) last limit k = omega arith

  step-depth : (d : Draft P H) (m : Mark P H) (limit : ℕ) → length d.around ≤ limit
      → (begins m ≡ true → length d.around < limit) → length (step d m).around ≤ limit
  step-depth d (plain p) limit h room = h
  step-depth d (begin r g) limit h room = let lt : length d.around < limit = room refl in omega arith
  step-depth d (begin_if g) limit h room = let lt : length d.around < limit = room refl in omega arith
  step-depth d otherwise limit h room = turned-depth d.around d.last limit h
  step-depth d close limit h room = closed-depth d.around d.last limit h

pub open_where : {P H : Type 0} (around : List (Frame P H)) → 0 < length around → is_open around ≡ true
open_where [] h = absurd (omega arith)
open_where (f ∷ around) h = refl

-- is there an instruction
abbrev pub solid : {P H : Type 0} → Code P H → Bool
solid empty = false
solid (op p next) = true
solid (region r h inside next) = true
solid (choice h one two next) = true

module _ {P H : Type 0} where
  solid-append : (is js : Code P H) → solid js ≡ true → solid (is ⧺ js) ≡ true
  solid-append empty js h = h
  solid-append (op p next) js h = refl
  solid-append (region r g inside next) js h = refl
  solid-append (choice g one two next) js h = refl

  ends-solid : (around : List (Frame P H)) (last : Code P H) → is_open around ≡ true → solid last ≡ true
      → may_end around last ≡ true
  ends-solid [] last o s = o
  ends-solid (in_region before r h ∷ around) last o s = refl
  ends-solid (in_then before h ∷ around) last o s = refl
  ends-solid (in_else before h first ∷ around) empty o s = s
  ends-solid (in_else before h first ∷ around) (op p next) o s = refl
  ends-solid (in_else before h first ∷ around) (region r g inside next) o s = refl
  ends-solid (in_else before h first ∷ around) (choice g one two next) o s = refl

  closed-solid : (around : List (Frame P H)) (last : Code P H) → may_end around last ≡ true
      → solid (closed around last).last ≡ true
  closed-solid [] last e = absurd cc
  closed-solid (in_region before r h ∷ around) last e = solid-append before (region r h last empty) refl
  closed-solid (in_then before h ∷ around) last e = solid-append before (choice h last empty empty) refl
  closed-solid (in_else before h first ∷ around) last e = solid-append before (choice h first last empty) refl

  -- an end may come behind any mark but an else
  ends-step : (d : Draft P H) (m : Mark P H) → may_stay d m ≡ true → is_otherwise m ≡ false
      → is_open (step d m).around ≡ true → may_end (step d m).around (step d m).last ≡ true
  ends-step d (plain p) a i o = ends-solid d.around (d.last ⧺ op p empty) o (solid-append d.last (op p empty) refl)
  ends-step d (begin r h) a i o = refl
  ends-step d (begin_if h) a i o = refl
  ends-step d otherwise a i o = absurd cc
  ends-step d close a i o = ends-solid (closed d.around d.last).around (closed d.around d.last).last o
      (closed-solid d.around d.last a)

  turned-closed : (around : List (Frame P H)) (last : Code P H) → in_first_part around ≡ true
      → (may_end around last ≡ true) × (closed around last ≡ closed (turned around last).around
      (turned around last).last)
  turned-closed [] last e = absurd cc
  turned-closed (in_region before r h ∷ around) last e = absurd cc
  turned-closed (in_then before h ∷ around) last e = (refl, refl)
  turned-closed (in_else before h first ∷ around) last e = absurd cc

  -- these marks build the draft with its innermost one ended
  pub record Ends (d : Draft P H) (ms ns : List (Mark P H)) : Type 0 where
    pub each : AllMayStay d ns
    pub same : steps d ns ≡ step (steps d ms) close

  ended-one : (d : Draft P H) (m : Mark P H) → may_stay d m ≡ true → is_open (step d m).around ≡ true
      → Ends d (m ∷ []) (ended (m ∷ []))
  ended-one d (plain p) a o = record { each = (a, (ends-step d (plain p) a refl o, tt)); same = refl }
  ended-one d (begin r h) a o = record { each = (a, (ends-step d (begin r h) a refl o, tt)); same = refl }
  ended-one d (begin_if h) a o = record { each = (a, (ends-step d (begin_if h) a refl o, tt)); same = refl }
  ended-one d otherwise a o = let k = turned-closed d.around d.last a in record { each = (k.0, tt); same = k.1 }
  ended-one d close a o = record { each = (a, (ends-step d close a refl o, tt)); same = refl }

  ended-more : (d : Draft P H) (m : Mark P H) (ms : List (Mark P H)) → AllMayStay d (m ∷ ms)
      → is_open (steps d (m ∷ ms)).around ≡ true → Ends d (m ∷ ms) (ended (m ∷ ms))
  ended-more d m [] a o = ended-one d m a.0 o
  ended-more d m (n ∷ ms) a o = let k = ended-more (step d m) n ms a.1 o in
      record { each = (a.0, k.each); same = k.same }

  pub ended-built : (ms : List (Mark P H)) → AllMayStay (whole empty) ms → is_open (built ms).around ≡ true
      → Ends (whole empty) ms (ended ms)
  ended-built [] a o = absurd cc
  ended-built (m ∷ ms) a o = ended-more (whole empty) m ms a o

module _ {P H : Type 0} where
  AllMayStay-draft : (around : List (Frame P H)) (after : List (Mark P H)) → AllMayStay (draft around empty) after
      → AllMayStay (whole empty) (open_marks around after)
  AllMayStay-draft [] after k = k
  AllMayStay-draft (in_region before r h ∷ around) after k = AllMayStay-draft around (flat before (begin r h ∷ after))
      (AllMayStay-flat (draft around empty) before (begin r h ∷ after) (refl, k))
  AllMayStay-draft (in_then before h ∷ around) after k = AllMayStay-draft around (flat before (begin_if h ∷ after))
      (AllMayStay-flat (draft around empty) before (begin_if h ∷ after) (refl, k))
  AllMayStay-draft (in_else before h first ∷ around) after k =
      AllMayStay-draft around (flat before (begin_if h ∷ flat first (otherwise ∷ after)))
      (AllMayStay-flat (draft around empty) before (begin_if h ∷ flat first (otherwise ∷ after))
      (refl, AllMayStay-flat (draft (in_then before h ∷ around) empty) first (otherwise ∷ after) (refl, k)))

  AllMayStay-upto : (d : Draft P H) → AllMayStay (whole empty) (upto d [])
  AllMayStay-upto d = AllMayStay-draft d.around (flat d.last []) (AllMayStay-flat (draft d.around empty) d.last [] tt)

  added : (d : Draft P H) (m : Mark P H) → may_stay d m ≡ true → upto (step d m) [] ≡ upto d [] ++ m ∷ []
  added d m e =
      let b = built_upto d in
      let all : AllMayStay (whole empty) (upto d [] ++ m ∷ []) =
      AllMayStay-append (whole empty) (upto d []) (m ∷ []) (AllMayStay-upto d) (rw b e, tt) in
      let is : built (upto d [] ++ m ∷ []) ≡ step d m = steps-append (whole empty) (upto d []) (m ∷ [])
      ∙ ap (λ (x : Draft P H). step x m) b in
      ap (λ (x : Draft P H). upto x []) (sym is) ∙ upto-built (upto d [] ++ m ∷ []) all

  pub kept : (d : Draft P H) (m : Mark P H) → may_come d m ≡ true → so_far (step d m) ≡ kept_with (so_far d) m
  kept d (plain p) e = added d (plain p) refl
  kept d (begin r h) e = added d (begin r h) refl
  kept d (begin_if h) e = added d (begin_if h) refl
  kept d otherwise e = added d otherwise e
  kept d close e =
      let b = built_upto d in
      let k = ended-built (upto d []) (AllMayStay-upto d) (rw b e) in
      let is : built (ended (upto d [])) ≡ step d close = k.same ∙ ap (λ (x : Draft P H). step x close) b in
      ap (λ (x : Draft P H). upto x []) (sym is) ∙ upto-built (ended (upto d [])) k.each

pub first_part_open : {P H : Type 0} (around : List (Frame P H)) → in_first_part around ≡ true → 0 < length around
first_part_open [] e = absurd cc
first_part_open (f ∷ around) e = omega arith

-- ---- what a builder keeps
module _ {P H X : Type 0} (part : Frame P H → X) where
  pub length-outermost : (around : List (Frame P H)) → length (outermost part around) ≡ length around
  length-outermost [] = refl
  length-outermost (frame ∷ around) = rw length-append (omega (arith, length-outermost around))

  pub depth-is : (ms : List (Mark P H)) (stack : List X) → IsBuilding part ms stack
      → length stack ≡ length (built ms).around
  depth-is ms stack b = ap (λ (xs : List X). length xs) b.stacked ∙ length-outermost (built ms).around

  -- the next mark m makes the marks ns of ms
  pub building-more : (ms : List (Mark P H)) (stack : List X) (ns : List (Mark P H)) (new : List X) (m : Mark P H)
      → IsBuilding part ms stack → AllMayStay (whole empty) ns → built ns ≡ step (built ms) m
      → (begins m ≡ true → length (built ms).around < nesting_limit) → new ≡ outermost part (step (built ms) m).around
      → IsBuilding part ns new
  building-more ms stack ns new m b each is room stacked = record {
    each = each;
    stacked = rw is stacked;
    within = rw is (step-reach (built ms) m nesting_limit b.within room);
    depth = rw is (step-depth (built ms) m nesting_limit b.depth room);
  }

  -- a mark that comes and stays
  pub building-push : (ms : List (Mark P H)) (stack : List X) (m : Mark P H) (new : List X) → IsBuilding part ms stack
      → may_stay (built ms) m ≡ true
      → (begins m ≡ true → length (built ms).around < nesting_limit) → new ≡ outermost part (step (built ms) m).around
      → IsBuilding part (ms ++ m ∷ []) new
  building-push ms stack m new b can room stacked =
      building-more ms stack (ms ++ m ∷ []) new m b (AllMayStay-append (whole empty) ms (m ∷ []) b.each (can, tt))
      (steps-append (whole empty) ms (m ∷ [])) room stacked

  -- where nothing is open, the marks are those of instructions
  pub building-whole : (ms : List (Mark P H)) (stack : List X) → IsBuilding part ms stack
      → length (built ms).around ≡ 0 → IsWhole ms × (built ms ≡ whole (built ms).last)
  building-whole ms stack b z = go (built ms).around z refl
    where
      go : (around : List (Frame P H)) → length (built ms).around ≡ 0 → (built ms).around ≡ around → IsWhole ms
          × (built ms ≡ whole (built ms).last)
      go [] z e =
          let same : built ms ≡ whole (built ms).last = ap (λ (fs : List (Frame P H)). draft fs (built ms).last) e in (
            record {
              whole = ap (λ (fs : List (Frame P H)). open_marks fs (flat (built ms).last [])) (sym e)
                  ∙ upto-built ms b.each;
              within = rw e at b.within;
            },
            same,
          )
      go (f ∷ around) z e = absurd (omega (arith, ap length e))

  -- the innermost one has this in the stack
  abbrev pub HeadPart : X → List (Frame P H) → Type 0
  HeadPart x [] = ⊥
  HeadPart x (frame ∷ around) = part frame ≡ x

  pub outermost-turned : (around : List (Frame P H)) (last : Code P H) (x : X) (k : ℕ) → in_first_part around ≡ true
      → HeadPart x (turned around last).around
      → k + 1 ≡ length (outermost part around) → set (outermost part around) k x ≡ outermost part
      (turned around last).around
  outermost-turned [] last x k e h l = absurd cc
  outermost-turned (in_region before r g ∷ around) last x k e h l = absurd cc
  outermost-turned (in_then before g ∷ around) last x k e h l =
      let is : k ≡ length (outermost part around) = omega (
        arith,
        length-append (outermost part around)
            (part (in_then before g) ∷ []),
      ) in
      rw (is, h) (set-append_seam (outermost part around) (part (in_then before g)) [] x)
  outermost-turned (in_else before g first ∷ around) last x k e h l = absurd cc

  pub outermost-closed : (around : List (Frame P H)) (last : Code P H) (k : ℕ) → k + 1 ≡ length (outermost part around)
      → take k (outermost part around) ≡ outermost part (closed around last).around
  outermost-closed [] last k l = absurd (omega arith)
  outermost-closed (in_region before r h ∷ around) last k l =
      let is : k ≡ length (outermost part around) = omega (
        arith,
        length-append (outermost part around)
            (part (in_region before r h) ∷ []),
      ) in
      rw is (take-append_seam (outermost part around) (part (in_region before r h) ∷ []))
  outermost-closed (in_then before h ∷ around) last k l =
      let is : k ≡ length (outermost part around) = omega (
        arith,
        length-append (outermost part around)
            (part (in_then before h) ∷ []),
      ) in
      rw is (take-append_seam (outermost part around) (part (in_then before h) ∷ []))
  outermost-closed (in_else before h first ∷ around) last k l =
      let is : k ≡ length (outermost part around) = omega (
        arith,
        length-append (outermost part around)
            (part (in_else before h first) ∷ []),
      ) in
      rw is (take-append_seam (outermost part around) (part (in_else before h first) ∷ []))
