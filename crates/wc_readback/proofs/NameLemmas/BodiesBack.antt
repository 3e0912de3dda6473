-- The printed instructions of a body are its instructions, and no name in them has a fault.
use Rattle.std.proofs.Common.{◌≡◌, ℕ, List, [], ◌++◌, map, refl, ◌∙◌, Option}
use Rattle.std.specs.List.{flat_map}
use Rattle.std.proofs.lemmas.Grind.{flat_map-append}
use Rattle.wc_body.specs.declared.instr.BlockType.{BlockType}
use Rattle.wc_body.specs.declared.instr.Instr.{Instr}
use Rattle.wc_body.specs.Standard.Nested.{Region, Code, empty, op, region, choice, plain, begin, begin_if, close}
use Rattle.wc_body.specs.Standard.Throughout.{Throughout}
use Rattle.wc_body.specs.Standard.Placed.{placed, mapped}
use Rattle.wc_surface.specs.declared.head.TextBody.{TextBody}
use Rattle.wc_surface.specs.declared.instr.TextInstr.{TextInstr}
use Rattle.wc_surface.specs.declared.type_use.TypeUse.{TypeUse}
use Rattle.wc_surface.specs.declared.type_use.User.{User}
use Rattle.wc_spaces.specs.declared.noted.Fault.{Fault}
use Rattle.wc_resolve_code.specs.declared.why.NameWhy.{NameWhy}
use Rattle.wc_resolve_code.specs.Standard.Contexts.{Declared, Context}
use Rattle.wc_resolve_code.specs.Standard.Instructions.{resolved_instr}
use Rattle.wc_resolve_code.specs.Standard.Heads.{enter, resolved_head}
use Rattle.wc_resolve_code.specs.Standard.Bodies.{resolved, mark_faults, body_faults}
use Rattle.wc_declare.specs.Standard.Uses.{use_index}
use Rattle.wc_parse_code.specs.Drafting.Words.{place_behind}
use Rattle.wc_readback.specs.Instructions.Bodies.{Spot, start, use_at, behind, behind_else, behind_code, text_code}
use Rattle.wc_readback.specs.Instructions.Bodies.{text_body}
use Rattle.wc_readback.specs.Names.Known.{KnownInstr, KnownBlock, KnownCode}
use Rattle.wc_readback.proofs.NameLemmas.Spots.{Reached, HasRoom, at-end, before-close, before-else, before-code}
use Rattle.wc_readback.proofs.NameLemmas.Spots.{has-room}
use Rattle.wc_readback.proofs.NameLemmas.InstructionsBack.{instr-back, instr-clean, head-back, head-clean}

four : {P H : Type 0} (t u : H) (x x2 y y2 z z2 : Code P H) → t ≡ u → x ≡ x2 → y ≡ y2 → z ≡ z2
    → choice t x y z ≡ choice u x2 y2 z2
four t u x x2 y y2 z z2 e f g h = rw (e, f, g, h) refl

three : {P H : Type 0} (r : Region) (t u : H) (x x2 y y2 : Code P H) → t ≡ u → x ≡ x2 → y ≡ y2
    → region r t x y ≡ region r u x2 y2
three r t u x x2 y y2 e f g = rw (e, f, g) refl

two-parts : {P H : Type 0} (i j : P) (x y : Code P H) → i ≡ j → x ≡ y → op i x ≡ op j y
two-parts i j x y e f = rw (e, f) refl

both : (fs gs : List (Fault NameWhy)) → fs ≡ [] → gs ≡ [] → fs ++ gs ≡ []
both fs gs e f = rw (e, f) refl

module _ (c : Context) (b : TextBody) (index : TypeUse → ℕ) (same : (u : User) (t n : ℕ) → index (use_at u t n) ≡ n)
    (uses-are : c.uses ≡ map index b.uses) (room : HasRoom b) (k : ℕ) where
  abbrev read : Declared → Code TextInstr ℕ → Code Instr BlockType
  read ls x = mapped (enter b) (resolved_instr c b) (resolved_head c b) ls x

  code-back : (x : Code Instr BlockType) (s : Spot) (ls : Declared) → Throughout (KnownInstr k) (KnownBlock k) x
      → Reached (behind_code s x) b → read ls (text_code s x) ≡ x
  code-back empty s ls h r = refl
  code-back (op i next) s ls h r =
      let s1 = behind s (plain i) in
      two-parts _ i _ next (instr-back c b index same uses-are room k s ls i h.0 (before-code b next s1 r))
      (code-back next s1 ls h.1 r)
  code-back (region g t inside next) s ls h r =
      let within = behind s (begin g t) in
      let ended = behind_code within inside in
      let r2 = before-close b ended (before-code b next (behind ended close) r) in
      let r1 = before-code b inside within r2 in
      three g _ t _ inside _ next (head-back c b index same uses-are room s ls (begin g t) t r1)
      (code-back inside within (enter b ls (place_behind s.heads)) h.1 r2)
      (code-back next (behind ended close) ls h.2 r)
  code-back (choice t one two next) s ls h r =
      let within = behind s (begin_if t) in
      let first = behind_code within one in
      let turned = behind_else two first in
      let ended = behind_code turned two in
      let r3 = before-close b ended (before-code b next (behind ended close) r) in
      let r2 = before-else b two first (before-code b two turned r3) in
      let r1 = before-code b one within r2 in
      let inner = enter b ls (place_behind s.heads) in
      four _ t _ one _ two _ next (head-back c b index same uses-are room s ls (begin_if t) t r1)
      (code-back one within inner h.1 r2) (code-back two turned inner h.2 r3)
      (code-back next (behind ended close) ls h.3 r)

pub body-back : (c : Context) (ids : List (Option (List ℕ))) (types : List (List ℕ)) (n token : ℕ)
    (x : Code Instr BlockType) → KnownCode n x → c.uses ≡ map (use_index ids types) (text_body token x).uses
    → resolved c (text_body token x) ≡ x
body-back c ids types n token x h e =
    code-back c (text_body token x) (use_index ids types) (λ u t n. refl) e (has-room token x h.1) n x
    (start token) [] h.0 (at-end token x)

-- ---- no faults

module _ (c : Context) (b : TextBody) (room : HasRoom b) where
  abbrev faults_in : Declared → Code TextInstr ℕ → List (Fault NameWhy)
  faults_in ls x = flat_map (mark_faults c b) (placed (enter b) ls x)

  code-clean : (x : Code Instr BlockType) (s : Spot) (ls : Declared) → Reached (behind_code s x) b
      → faults_in ls (text_code s x) ≡ []
  code-clean empty s ls r = refl
  code-clean (op i next) s ls r =
      let s1 = behind s (plain i) in
      both _ _ (instr-clean c b room s ls i (before-code b next s1 r)) (code-clean next s1 ls r)
  code-clean (region g t inside next) s ls r =
      let within = behind s (begin g t) in
      let ended = behind_code within inside in
      let r2 = before-close b ended (before-code b next (behind ended close) r) in
      let r1 = before-code b inside within r2 in
      let inner = enter b ls (place_behind s.heads) in
      both _ _ (head-clean c b room s (begin g t) t r1)
      (flat_map-append (mark_faults c b) (placed (enter b) inner (text_code within inside))
      (placed (enter b) ls (text_code (behind ended close) next))
      ∙ both _ _ (code-clean inside within inner r2) (code-clean next (behind ended close) ls r))
  code-clean (choice t one two next) s ls r =
      let within = behind s (begin_if t) in
      let first = behind_code within one in
      let turned = behind_else two first in
      let ended = behind_code turned two in
      let r3 = before-close b ended (before-code b next (behind ended close) r) in
      let r2 = before-else b two first (before-code b two turned r3) in
      let r1 = before-code b one within r2 in
      let inner = enter b ls (place_behind s.heads) in
      let last = placed (enter b) ls (text_code (behind ended close) next) in
      both _ _ (head-clean c b room s (begin_if t) t r1)
      (flat_map-append (mark_faults c b) (placed (enter b) inner (text_code within one))
      (placed (enter b) inner (text_code turned two) ++ last)
      ∙ both _ _ (code-clean one within inner r2)
      (flat_map-append (mark_faults c b) (placed (enter b) inner (text_code turned two)) last
      ∙ both _ _ (code-clean two turned inner r3) (code-clean next (behind ended close) ls r)))

pub body-clean : (c : Context) (n token : ℕ) (x : Code Instr BlockType) → KnownCode n x
    → body_faults c (text_body token x) ≡ []
body-clean c n token x h =
    code-clean c (text_body token x) (has-room token x h.1) x (start token) [] (at-end token x)
