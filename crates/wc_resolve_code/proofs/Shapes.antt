-- What is open in instructions that are being built, and which marks may come.
use Rattle.std.proofs.Common.{◌≡◌, ℕ, ◌-◌, ◌<◌, Bool, true, false, List, [], ◌∷◌, length, refl, sym, ap, ◌∙◌, arith}
use Rattle.wc_body.specs.declared.entry.Kind.{Kind}
use Rattle.wc_body.specs.declared.entry.Kind.TheVariants.{Block, Loop, If}
use Rattle.wc_body.specs.Standard.Nested.{Code, nesting_limit, Mark, plain, otherwise, close}
use Rattle.wc_body.specs.Standard.Draft.{Frame, in_region, in_then, in_else, Draft, step, closed, turned}
use Rattle.wc_body.specs.Standard.Draft.{in_first_part, is_open}
use Rattle.wc_body.specs.Drafting.Staying.{may_end}
use Rattle.wc_body.proofs.Codes.Walks.{Finishes}
use Rattle.wc_surface.specs.declared.instr.TextInstr.{TextInstr}
use Rattle.wc_surface.specs.Standard.Marks.{begin_of}
use Rattle.wc_resolve_code.specs.Kept.Opened.{firsts, begins_if}

-- the innermost one is in no first part any more
abbrev turn : List Bool → List Bool
turn [] = []
turn (first ∷ rest) = false ∷ rest

-- all but the innermost
abbrev rest_of : List Bool → List Bool
rest_of [] = []
rest_of (first ∷ rest) = rest

-- is the innermost an if in its first part
abbrev head_of : List Bool → Bool
head_of [] = false
head_of (first ∷ rest) = first

-- is there any
abbrev has_some : List Bool → Bool
has_some [] = false
has_some (first ∷ rest) = true

module _ {P H : Type 0} where
  pub firsts-length : (around : List (Frame P H)) → length (firsts around) ≡ length around
  firsts-length [] = refl
  firsts-length (frame ∷ around) = omega (arith, firsts-length around)

  firsts-turned : (around : List (Frame P H)) (last : Code P H)
      → firsts (turned around last).around ≡ turn (firsts around)
  firsts-turned [] last = refl
  firsts-turned (in_region before r h ∷ around) last = refl
  firsts-turned (in_then before h ∷ around) last = refl
  firsts-turned (in_else before h first ∷ around) last = refl

  firsts-closed : (around : List (Frame P H)) (last : Code P H)
      → firsts (closed around last).around ≡ rest_of (firsts around)
  firsts-closed [] last = refl
  firsts-closed (in_region before r h ∷ around) last = refl
  firsts-closed (in_then before h ∷ around) last = refl
  firsts-closed (in_else before h first ∷ around) last = refl

  pub turned-length : (around : List (Frame P H)) (last : Code P H) → length (turned around last).around ≡ length around
  turned-length [] last = refl
  turned-length (in_region before r h ∷ around) last = refl
  turned-length (in_then before h ∷ around) last = refl
  turned-length (in_else before h first ∷ around) last = refl

  pub closed-length : (around : List (Frame P H)) (last : Code P H)
      → length (closed around last).around ≡ length around - 1
  closed-length [] last = omega arith
  closed-length (in_region before r h ∷ around) last = omega arith
  closed-length (in_then before h ∷ around) last = omega arith
  closed-length (in_else before h first ∷ around) last = omega arith

  first-part : (around : List (Frame P H)) → in_first_part around ≡ head_of (firsts around)
  first-part [] = refl
  first-part (in_region before r h ∷ around) = refl
  first-part (in_then before h ∷ around) = refl
  first-part (in_else before h first ∷ around) = refl

  some-open : (around : List (Frame P H)) → is_open around ≡ has_some (firsts around)
  some-open [] = refl
  some-open (frame ∷ around) = refl

  open-end : (around : List (Frame P H)) (last : Code P H) → may_end around last ≡ true → is_open around ≡ true
  open-end [] last e = absurd cc
  open-end (frame ∷ around) last e = refl

  pub open-length : (around : List (Frame P H)) → is_open around ≡ true → 0 < length around
  open-length [] e = absurd cc
  open-length (frame ∷ around) e = omega arith

-- ---- what is built has the parts of what is written
pub record Shaped {Q I : Type 0} (code : Code TextInstr ℕ) (around : List (Frame Q I)) (ms : List (Mark TextInstr ℕ))
    : Type 0 where
  pub text : Draft TextInstr ℕ
  pub finishes : Finishes nesting_limit text ms code
  pub same : firsts text.around ≡ firsts around

module _ {Q I : Type 0} (code : Code TextInstr ℕ) (ms : List (Mark TextInstr ℕ)) (d : Draft Q I) where
  pub shaped-plain : (i : TextInstr) (around : List (Frame Q I)) → Shaped code d.around (plain i ∷ ms)
      → around ≡ d.around → Shaped code around ms
  shaped-plain i around s e =
      record { text = step s.text (plain i); finishes = s.finishes.2; same = s.same ∙ ap firsts (sym e) }

  pub shaped-begin : (kind : Kind) (head : ℕ) (around : List (Frame Q I))
      → Shaped code d.around (begin_of kind head ∷ ms) → firsts around ≡ begins_if kind ∷ firsts d.around
      → Shaped code around ms
  shaped-begin Block head around s e = record {
    text = step s.text (begin_of Block head);
    finishes = s.finishes.2;
    same = ap (λ (x : List Bool). false ∷ x) s.same ∙ sym e;
  }
  shaped-begin Loop head around s e = record {
    text = step s.text (begin_of Loop head);
    finishes = s.finishes.2;
    same = ap (λ (x : List Bool). false ∷ x) s.same ∙ sym e;
  }
  shaped-begin If head around s e = record {
    text = step s.text (begin_of If head);
    finishes = s.finishes.2;
    same = ap (λ (x : List Bool). true ∷ x) s.same ∙ sym e;
  }

  pub shaped-else : Shaped code d.around (otherwise ∷ ms) → Shaped code (step d otherwise).around ms
  shaped-else s = record {
    text = step s.text otherwise;
    finishes = s.finishes.2;
    same = firsts-turned s.text.around s.text.last ∙ ap turn s.same ∙ sym (firsts-turned d.around d.last);
  }

  pub shaped-close : Shaped code d.around (close ∷ ms) → Shaped code (step d close).around ms
  shaped-close s = record {
    text = step s.text close;
    finishes = s.finishes.2;
    same = firsts-closed s.text.around s.text.last ∙ ap rest_of s.same ∙ sym (firsts-closed d.around d.last);
  }

  pub room-begin : (kind : Kind) (head : ℕ) → Shaped code d.around (begin_of kind head ∷ ms)
      → length d.around < nesting_limit
  room-begin Block head s = let lt = s.finishes.1 refl in
      omega (arith, lt, firsts-length s.text.around, ap length s.same, firsts-length d.around)
  room-begin Loop head s = let lt = s.finishes.1 refl in
      omega (arith, lt, firsts-length s.text.around, ap length s.same, firsts-length d.around)
  room-begin If head s = let lt = s.finishes.1 refl in
      omega (arith, lt, firsts-length s.text.around, ap length s.same, firsts-length d.around)

  pub comes-else : Shaped code d.around (otherwise ∷ ms) → in_first_part d.around ≡ true
  comes-else s = first-part d.around ∙ ap head_of (sym s.same) ∙ sym (first-part s.text.around) ∙ s.finishes.0

  pub comes-close : Shaped code d.around (close ∷ ms) → is_open d.around ≡ true
  comes-close s = some-open d.around ∙ ap has_some (sym s.same) ∙ sym (some-open s.text.around)
      ∙ open-end s.text.around s.text.last s.finishes.0

pub closed-whole : {Q I : Type 0} (code : Code TextInstr ℕ) (around : List (Frame Q I)) → Shaped code around []
    → is_open around ≡ false
closed-whole code around s =
    some-open around ∙ ap has_some (sym s.same) ∙ sym (some-open s.text.around)
    ∙ ap (λ (d : Draft TextInstr ℕ). is_open d.around) s.finishes
