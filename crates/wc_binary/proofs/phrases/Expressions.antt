-- Reading instructions mark by mark answers what the relations say.
use Rattle.std.proofs.Common.{◌≡◌, ℕ, zero, suc, ◌+◌, ◌<◌, ◌≤◌, Bool, true, false, cond, nat_lt, List, [], ◌∷◌, ◌++◌}
use Rattle.std.proofs.Common.{length, Result, Ok, Err, ◌⊎◌, inl, inr, refl, sym, ap, subst, ◌∙◌, append_assoc, add-zero}
use Rattle.std.proofs.Common.{arith}
use Rattle.std.proofs.lemmas.List.{length-append}
use Rattle.std.proofs.lemmas.Bool.{lt-ltb, ltb-true}
use Rattle.wc_body.specs.Standard.Nested.{Region, Code, empty, Mark, plain, begin, begin_if, otherwise, close, nesting}
use Rattle.wc_body.specs.Standard.Nested.{nesting_limit}
use Rattle.wc_body.specs.Standard.Draft.{Frame, in_region, in_then, in_else, Draft, draft, whole, step, begins}
use Rattle.wc_body.specs.Standard.Draft.{in_first_part, reach}
use Rattle.wc_body.proofs.Drafts.DraftLaws.{step-reach}
use Rattle.wc_body.specs.Standard.Grammar.{Grammar, SpellsDraft}
use Rattle.wc_body.proofs.Codes.SpelledMark.{ElseIn, EndIn, SpellsMark}
use Rattle.wc_body.proofs.Codes.Spelling.{neat-free, step-spelled, start-spelled, whole-spelled}
use Rattle.wc_body.proofs.Codes.Reaching.{Reaches, here, more, reach-draft}
use Rattle.wc_binary.specs.declared.fault.BinWhy.{BinWhy}
use Rattle.wc_binary.specs.declared.fault.BinWhy.TheVariants.{Opcode, Depth}
use Rattle.wc_binary.specs.Standard.Style.{free}
use Rattle.wc_binary.specs.Standard.Expression.{Begun, plain_op, region_op, if_op, else_op, end_op, standing, letters}
use Rattle.wc_binary.specs.Standard.Phrase.{Halt, Phrase, expression, Spells, Stops, opens, StopsNext}
use Rattle.wc_binary.specs.Reading.Reading.{Got, got, ◌and_then◌, read, is_last, behind_opcode, next_mark, marks_at}
use Rattle.wc_binary.proofs.phrases.Told.{IsTold}

module _ {O P H : Type 0} (table : ℕ → Result (Begun O) BinWhy) (f : O → Phrase P) (h : Phrase H) where
  abbrev g : Grammar ℕ P H
  g = letters free.Neat table (λ u c p. Spells (f u) c p) (λ c t. Spells h c t)

  abbrev Stopping : Bool → Bool → ℕ → List ℕ → Halt → Type 0
  Stopping room first o x e = StopsNext table (λ u q c k. Stops (f u) q c k) (λ q c k. Stops h q c k) room first o x e

  abbrev opcode_at : Result (Begun O) BinWhy → ℕ → List ℕ → Result (Got (Mark P H)) Halt
  opcode_at r o x = behind_opcode table (λ u q y. read (f u) q y) (λ q y. read h q y) r o x

  abbrev next_at : Bool → Bool → ℕ → List ℕ → Result (Got (Mark P H)) Halt
  next_at room first o x = next_mark table (λ u q y. read (f u) q y) (λ q y. read h q y) room first o x

  abbrev all_at : ℕ → Draft P H → ℕ → List ℕ → Result (Got (Code P H)) Halt
  all_at n d o x = marks_at table (λ u q y. read (f u) q y) (λ q y. read h q y) n d o x

  abbrev room_in : Draft P H → Bool
  room_in d = nat_lt (length d.around) nesting_limit

  -- the bytes spell the mark that comes behind the draft, or the end
  abbrev Comes : Draft P H → List ℕ → Mark P H → Type 0
  Comes d b m =
      ((is_last d m ≡ true) × (x : ℕ) × (b ≡ x ∷ []) × (table x ≡ Ok end_op) × (d ≡ whole d.last))
      ⊎ ((is_last d m ≡ false) × SpellsMark g b d m × (begins m ≡ true → length d.around < nesting_limit))

  abbrev NextTold : Draft P H → Bool → Bool → ℕ → List ℕ → Result (Got (Mark P H)) Halt → Type 0
  NextTold d room first p y (Ok m) =
      (b : List ℕ) × (y ≡ b ++ m.left) × (m.place ≡ p + length b) × (1 ≤ length b) × Comes d b m.value
  NextTold d room first p y (Err e) = Stopping room first p y e

  else-in : (x : ℕ) (around : List (Frame P H)) → table x ≡ Ok else_op → in_first_part around ≡ true
      → ElseIn g (x ∷ []) around
  else-in x [] e k = absurd cc
  else-in x (in_region before r t ∷ around) e k = absurd cc
  else-in x (in_then before t ∷ around) e k = (x, refl, e)
  else-in x (in_else before t one ∷ around) e k = absurd cc

  end-comes : (x : ℕ) (around : List (Frame P H)) (last : Code P H) → table x ≡ Ok end_op
      → Comes (draft around last) (x ∷ []) close
  end-comes x [] last e = inl (refl, x, refl, e, refl)
  end-comes x (in_region before r t ∷ around) last e = inr (refl, (x, refl, e), λ k. absurd cc)
  end-comes x (in_then before t ∷ around) last e = inr (refl, (x, refl, e), λ k. absurd cc)
  end-comes x (in_else before t one ∷ around) last e = inr (refl, (x, refl, e), λ k. absurd cc)

  module _ (d : Draft P H) (p x : ℕ) (y : List ℕ) where
    plain-told : (room first : Bool) (u : O) → table x ≡ Ok (plain_op u) → (r : Result (Got P) Halt)
        → IsTold (f u) (p + 1) y r
        → NextTold d room first p (x ∷ y) (r and_then λ k. got (plain k.value) k.place k.left)
    plain-told room first u e (Ok k) t = (
      x ∷ t.0,
      ap (λ (z : List ℕ). x ∷ z) t.1,
      omega (arith, t.3),
      omega arith,
      inr (refl, (x, u, t.0, refl, e, t.2), λ b. absurd cc),
    )
    plain-told room first u e (Err k) t = inr (inl (u, rw e refl, t))

    region-told : (first : Bool) (q : Region) → table x ≡ Ok (region_op q) → length d.around < nesting_limit
        → (r : Result (Got H) Halt) → IsTold h (p + 1) y r
        → NextTold d true first p (x ∷ y) (r and_then λ k. got (begin q k.value) k.place k.left)
    region-told first q e lt (Ok k) t = (
      x ∷ t.0,
      ap (λ (z : List ℕ). x ∷ z) t.1,
      omega (arith, t.3),
      omega arith,
      inr (refl, (x, t.0, refl, e, t.2), λ b. lt),
    )
    region-told first q e lt (Err k) t = inr (inr (region_op q, rw e refl, refl, t))

    if-told : (first : Bool) → table x ≡ Ok if_op → length d.around < nesting_limit → (r : Result (Got H) Halt)
        → IsTold h (p + 1) y r
        → NextTold d true first p (x ∷ y) (r and_then λ k. got (begin_if k.value) k.place k.left)
    if-told first e lt (Ok k) t = (
      x ∷ t.0,
      ap (λ (z : List ℕ). x ∷ z) t.1,
      omega (arith, t.3),
      omega arith,
      inr (refl, (x, t.0, refl, e, t.2), λ b. lt),
    )
    if-told first e lt (Err k) t = inr (inr (if_op, rw e refl, refl, t))

    module _ (plains : (u : O) (q : ℕ) (z : List ℕ) → IsTold (f u) q z (read (f u) q z))
        (heads : (q : ℕ) (z : List ℕ) → IsTold h q z (read h q z)) where
      opcode-told : (room first : Bool) (k : Result (Begun O) BinWhy) → table x ≡ k → room_in d ≡ room
          → in_first_part d.around ≡ first
          → NextTold d room first p (x ∷ y) (opcode_at (standing room first k) p y)
      opcode-told room first (Err r) e a b = inl (r, rw e refl, refl)
      opcode-told room first (Ok (plain_op u)) e a b =
          plain-told room first u e (read (f u) (p + 1) y) (plains u (p + 1) y)
      opcode-told true first (Ok (region_op q)) e a b =
          region-told first q e (ltb-true (length d.around) nesting_limit a) (read h (p + 1) y) (heads (p + 1) y)
      opcode-told false first (Ok (region_op q)) e a b = inl (Depth, rw e refl, refl)
      opcode-told true first (Ok if_op) e a b =
          if-told first e (ltb-true (length d.around) nesting_limit a) (read h (p + 1) y) (heads (p + 1) y)
      opcode-told false first (Ok if_op) e a b = inl (Depth, rw e refl, refl)
      opcode-told room true (Ok else_op) e a b =
          (x ∷ [], refl, refl, omega arith, inr (refl, else-in x d.around e b, λ k. absurd cc))
      opcode-told room false (Ok else_op) e a b = inl (Opcode, rw e refl, refl)
      opcode-told room first (Ok end_op) e a b = (x ∷ [], refl, refl, omega arith, end-comes x d.around d.last e)

  module _ (plains : (u : O) (q : ℕ) (z : List ℕ) → IsTold (f u) q z (read (f u) q z))
      (heads : (q : ℕ) (z : List ℕ) → IsTold h q z (read h q z)) where
    next-told : (d : Draft P H) (p : ℕ) (y : List ℕ)
        → NextTold d (room_in d) (in_first_part d.around) p y (next_at (room_in d) (in_first_part d.around) p y)
    next-told d p [] = refl
    next-told d p (x ∷ y) =
        opcode-told d p x y plains heads (room_in d) (in_first_part d.around) (table x) refl refl refl

    -- a mark takes a byte or more
    pub mark-shorter : (d : Draft P H) (p q : ℕ) (y z : List ℕ) (m : Mark P H)
        → next_at (room_in d) (in_first_part d.around) p y ≡ got m q z → length z < length y
    mark-shorter d p q y z m e =
        let t = subst (λ (r : Result (Got (Mark P H)) Halt). NextTold d (room_in d) (in_first_part d.around) p y r) e
        (next-told d p y) in
        omega (arith, ap length t.1, length-append t.0 z, t.3)

    module _ (o : ℕ) (x : List ℕ) where
      loop-told : (n : ℕ) (d : Draft P H) (p : ℕ) (a y : List ℕ) → x ≡ a ++ y → SpellsDraft g a d
          → reach d.around (nesting d.last) ≤ nesting_limit → p ≡ o + length a → length y < n
          → IsTold (expression table f h) o x (all_at n d p y)
      loop-told zero d p a y e s k place lt = absurd (omega arith)
      loop-told (suc n) d p a y e s k place lt =
          go (next_at (room_in d) (in_first_part d.around) p y) (next-told d p y)
          (λ m b. loop-told n (step d m.value) m.place (a ++ b) m.left)
        where
          go : (r : Result (Got (Mark P H)) Halt) → NextTold d (room_in d) (in_first_part d.around) p y r
              → ((m : Got (Mark P H)) (b : List ℕ) → x ≡ (a ++ b) ++ m.left → SpellsDraft g (a ++ b) (step d m.value)
              → reach (step d m.value).around (nesting (step d m.value).last) ≤ nesting_limit
              → m.place ≡ o + length (a ++ b) → length m.left < n
              → IsTold (expression table f h) o x (all_at n (step d m.value) m.place m.left))
              → IsTold (expression table f h) o x
              (r and_then λ m. cond (is_last d m.value) (got d.last m.place m.left)
              (all_at n (step d m.value) m.place m.left))
          go (Err t) c ih =
              (d, a, y, e, s, k, subst (λ (q : ℕ). Stopping (room_in d) (in_first_part d.around) q y t) place c)
          go (Ok m) c ih =
              let split : x ≡ (a ++ c.0) ++ m.left = e ∙ ap (λ (z : List ℕ). a ++ z) c.1
              ∙ sym (append_assoc a c.0 m.left) in
              let there : m.place ≡ o + length (a ++ c.0) = omega (arith, c.2, place, length-append a c.0) in
              elim c.4 [
                | inl last ↦
                    let ends = last.0 in
                    let whole-is = last.4 in
                    let code = whole-spelled g a d.last (rw whole-is at s) in
                    let within = rw whole-is at k in
                    let split2 : x ≡ (a ++ last.1 ∷ []) ++ m.left = split
                    ∙ ap (λ (z : List ℕ). (a ++ z) ++ m.left) last.2 in
                    let there2 : m.place ≡ o + length (a ++ last.1 ∷ []) = there
                    ∙ ap (λ (z : List ℕ). o + length (a ++ z)) last.2 in
                    rw ends (a ++ last.1 ∷ [], split2, (a, last.1, refl, last.3, code, within), there2)
                | inr goes ↦
                    let on = goes.0 in
                    let next = step-spelled g a c.0 d m.value s goes.1 (neat-free g (λ Q. tt) d m.value) in
                    let within = step-reach d m.value nesting_limit k goes.2 in
                    rw on (ih m c.0 split next within there (omega (arith, ap length c.1, length-append c.0 m.left)))
              ]

      pub expression-told : IsTold (expression table f h) o x (all_at (suc (length x)) (whole empty) o x)
      expression-told =
          loop-told (suc (length x)) (whole empty) o [] x refl (start-spelled g) (omega arith) (sym (add-zero o))
          (omega arith)

  -- ---- and back
  module _
      (plains : (u : O) (q : ℕ) (a y : List ℕ) (v : P) → Spells (f u) a v
      → read (f u) q (a ++ y) ≡ got v (q + length a) y)
      (heads : (q : ℕ) (a y : List ℕ) (v : H) → Spells h a v → read h q (a ++ y) ≡ got v (q + length a) y) where
    -- what comes is read, and doesn't end the expression
    abbrev IsRead : Draft P H → List ℕ → List ℕ → Mark P H → ℕ → Type 0
    IsRead d b rest m p =
        (next_at (room_in d) (in_first_part d.around) p (b ++ rest) ≡ got m (p + length b) rest) × (is_last d m ≡ false)
        × (1 ≤ length b)

    else-read : (around : List (Frame P H)) (last : Code P H) (b rest : List ℕ) (p : ℕ) → ElseIn g b around
        → IsRead (draft around last) b rest otherwise p
    else-read [] last b rest p s = absurd s
    else-read (in_region before r t ∷ around) last b rest p s = absurd s
    else-read (in_then before t ∷ around) last b rest p s =
        let is = s.1 in let e = s.2 in rw is (rw e refl, refl, omega arith)
    else-read (in_else before t one ∷ around) last b rest p s = absurd s

    end-read : (around : List (Frame P H)) (last : Code P H) (b rest : List ℕ) (p : ℕ) → EndIn g b around
        → IsRead (draft around last) b rest close p
    end-read [] last b rest p s = absurd s
    end-read (in_region before r t ∷ around) last b rest p s =
        let is = s.1 in let e = s.2 in rw is (rw e refl, refl, omega arith)
    end-read (in_then before t ∷ around) last b rest p s =
        let is = s.1 in let e = s.2 in rw is (rw e refl, refl, omega arith)
    end-read (in_else before t one ∷ around) last b rest p s =
        let is = s.1 in let e = s.2 in rw is (rw e refl, refl, omega arith)

    next-read : (d : Draft P H) (b rest : List ℕ) (m : Mark P H) (p : ℕ) → SpellsMark g b d m
        → (begins m ≡ true → length d.around < nesting_limit) → IsRead d b rest m p
    next-read d b rest (plain v) p s room =
        let is = s.3 in
        let e = s.4 in
        let place : p + 1 + length s.2 ≡ p + length (s.0 ∷ s.2) = omega arith in
        rw is (rw (e, plains s.1 (p + 1) s.2 rest v s.5, place) refl, refl, omega arith)
    next-read d b rest (begin q t) p s room =
        let is = s.2 in
        let e = s.3 in
        let fits = lt-ltb (length d.around) nesting_limit (room refl) in
        let place : p + 1 + length s.1 ≡ p + length (s.0 ∷ s.1) = omega arith in
        rw is (rw (e, fits, heads (p + 1) s.1 rest t s.4, place) refl, refl, omega arith)
    next-read d b rest (begin_if t) p s room =
        let is = s.2 in
        let e = s.3 in
        let fits = lt-ltb (length d.around) nesting_limit (room refl) in
        let place : p + 1 + length s.1 ≡ p + length (s.0 ∷ s.1) = omega arith in
        rw is (rw (e, fits, heads (p + 1) s.1 rest t s.4, place) refl, refl, omega arith)
    next-read d b rest otherwise p s room = else-read d.around d.last b rest p s
    next-read d b rest close p s room = end-read d.around d.last b rest p s

    -- reading from one place is reading from a later one
    abbrev LeadsTo : ℕ → Draft P H → ℕ → List ℕ → Draft P H → ℕ → List ℕ → Type 0
    LeadsTo n d p x e q z = (k : ℕ) × (length z < k) × (all_at n d p x ≡ all_at k e q z)

    reaches-read : {d e : Draft P H} {x z : List ℕ} → Reaches g nesting_limit d x e z → (n p q : ℕ)
        → p + length x ≡ q + length z → length x < n → LeadsTo n d p x e q z
    reaches-read {d = d} {x = x} here n p q place lt =
        let same : p ≡ q = omega arith in (n, lt, ap (λ (o : ℕ). all_at n d o x) same)
    reaches-read (more m b rest split s room r) zero p q place lt = absurd (omega arith)
    reaches-read {x = x} {z = z} (more {d} {e} m b rest split s room r) (suc n) p q place lt =
        let t = next-read d b rest m p s room in
        let len : length x ≡ length b + length rest = ap length split ∙ length-append b rest in
        let k = reaches-read r n (p + length b) q (omega arith) (omega arith) in
        let here-read = t.0 in
        let on = t.1 in
        let one : all_at (suc n) d p x ≡ all_at n (step d m) (p + length b) rest = rw (split, here-read, on) refl in
        (k.0, k.1, one ∙ k.2)

    pub expression-spelled : (o : ℕ) (b y : List ℕ) (code : Code P H) → Spells (expression table f h) b code
        → all_at (suc (length (b ++ y))) (whole empty) o (b ++ y) ≡ got code (o + length b) y
    expression-spelled o b y code s =
        let split : b ++ y ≡ s.0 ++ (s.1 ∷ y) = ap (λ (z : List ℕ). z ++ y) s.2 ∙ append_assoc s.0 (s.1 ∷ []) y in
        let r = reach-draft g nesting_limit (whole code) s.0 (s.1 ∷ y) ([], s.0, refl, refl, s.4) s.5 in
        let k = reaches-read r (suc (length (s.0 ++ (s.1 ∷ y)))) o (o + length s.0)
        (omega (arith, length-append s.0 (s.1 ∷ y))) (omega arith) in
        let place : o + length s.0 + 1 ≡ o + length b = omega (arith, ap length s.2, length-append s.0 (s.1 ∷ [])) in
        rw split (k.2 ∙ ends k.0 k.1 ∙ ap (λ (q : ℕ). got code q y) place)
      where
        ends : (k : ℕ) → length (s.1 ∷ y) < k
            → all_at k (whole code) (o + length s.0) (s.1 ∷ y) ≡ got code (o + length s.0 + 1) y
        ends zero lt = absurd (omega arith)
        ends (suc k) lt = let e = s.3 in rw e refl

    module _ (plain-stops : (u : O) (q : ℕ) (y : List ℕ) (t : Halt) → Stops (f u) q y t → read (f u) q y ≡ Err t)
        (head-stops : (q : ℕ) (y : List ℕ) (t : Halt) → Stops h q y t → read h q y ≡ Err t) where
      next-stops : (room first : Bool) (p : ℕ) (y : List ℕ) (t : Halt) → Stopping room first p y t
          → next_at room first p y ≡ Err t
      next-stops room first p [] t s = rw s refl
      next-stops room first p (x ∷ y) t (inl s) = let e = s.1 in rw (e, s.2) refl
      next-stops room first p (x ∷ y) t (inr (inl s)) = let e = s.1 in rw (e, plain-stops s.0 (p + 1) y t s.2) refl
      next-stops room first p (x ∷ y) t (inr (inr s)) = let e = s.1 in rw e (head s.0 s.2)
        where
          head : (k : Begun O) → opens k ≡ true → opcode_at (Ok k) p y ≡ Err t
          head (plain_op u) c = absurd cc
          head (region_op q) c = rw (head-stops (p + 1) y t s.3) refl
          head if_op c = rw (head-stops (p + 1) y t s.3) refl
          head else_op c = absurd cc
          head end_op c = absurd cc

      pub expression-stopped : (o : ℕ) (x : List ℕ) (t : Halt) → Stops (expression table f h) o x t
          → all_at (suc (length x)) (whole empty) o x ≡ Err t
      expression-stopped o x t s =
          let split = s.3 in
          let r = reach-draft g nesting_limit s.0 s.1 s.2 s.4 s.5 in
          let k = reaches-read r (suc (length (s.1 ++ s.2))) o (o + length s.1) (omega (arith, length-append s.1 s.2))
          (omega arith) in
          rw split (k.2 ∙ ends k.0 k.1)
        where
          ends : (k : ℕ) → length s.2 < k → all_at k s.0 (o + length s.1) s.2 ≡ Err t
          ends zero lt = absurd (omega arith)
          ends (suc k) lt =
              let e = next-stops (room_in s.0) (in_first_part s.0.around) (o + length s.1) s.2 t s.6 in rw e refl
