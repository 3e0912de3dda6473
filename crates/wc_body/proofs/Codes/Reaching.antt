-- What is spelled is reached by marks, and reading by marks ends in one way.
use Rattle.std.proofs.Common.{◌≡◌, ℕ, ◌+◌, ◌≤◌, ◌<◌, max, true, List, [], ◌∷◌, ◌++◌, length, refl, ap, ◌∙◌}
use Rattle.std.proofs.Common.{append_assoc, arith, inl, inr}
use Rattle.wc_body.specs.Standard.Nested.{Code, empty, op, region, choice, Mark, plain, begin, begin_if, otherwise}
use Rattle.wc_body.specs.Standard.Nested.{close, ◌⧺◌, nesting}
use Rattle.wc_body.specs.Standard.Draft.{Frame, in_region, in_then, in_else, Draft, draft, whole, step, begins, reach}
use Rattle.wc_body.specs.Stored.Rebuilt.{append-empty, append-assoc}
use Rattle.wc_body.specs.Standard.Grammar.{Grammar, Spells, Opens, SpellsDraft}
use Rattle.wc_body.proofs.Codes.SpelledMark.{SpellsMark}

-- From the first draft, with the first letters before it, whole marks lead to the second, with the second letters left;
-- at most limit are open.
pub data Reaches {A P H : Type 0} (g : Grammar A P H) (limit : ℕ) : Draft P H → List A → Draft P H → List A
    → Type 0 where
  here : {d : Draft P H} {a : List A} → Reaches g limit d a d a
  more : {d e : Draft P H} {a c : List A} (m : Mark P H) (b rest : List A) → a ≡ b ++ rest → SpellsMark g b d m
      → (begins m ≡ true → length d.around < limit)
      → Reaches g limit (step d m) rest e c → Reaches g limit d a e c

module _ {A P H : Type 0} (g : Grammar A P H) (limit : ℕ) where
  -- whatever is reached behind the instructions is reached from before them
  pub reach-code : (d : Draft P H) (is : Code P H) (b a : List A) (e : Draft P H) (c : List A) → Spells g b is
      → length d.around + nesting is ≤ limit
      → Reaches g limit (draft d.around (d.last ⧺ is)) a e c → Reaches g limit d (b ++ a) e c
  reach-code d empty b a e c s room r = rw (s, ← append-empty d.last) r
  reach-code d (op p next) b a e c s room r =
      more (plain p) s.0 (s.1 ++ a) (ap (λ (x : List A). x ++ a) s.2 ∙ append_assoc s.0 s.1 a) s.3 (λ e. absurd cc)
      (reach-code (draft d.around (d.last ⧺ op p empty)) next s.1 a e c s.4 room (rw append-assoc r))
  reach-code d (region q h inside next) b a e c s room r =
      more (begin q h) s.0 (s.1 ++ (s.2 ++ (s.3 ++ a))) (ap (λ (x : List A). x ++ a) s.4 ∙ simp append_assoc) s.5
      (λ _. omega arith)
      (reach-code (draft (in_region d.last q h ∷ d.around) empty) inside s.1 (s.2 ++ (s.3 ++ a)) e c s.6 (omega arith)
      (more close s.2 (s.3 ++ a) refl s.7 (λ e. absurd cc)
      (reach-code (draft d.around (d.last ⧺ region q h inside empty)) next s.3 a e c s.8 (omega arith)
      (rw append-assoc r))))
  reach-code d (choice h first second next) b a e c s room r =
      more (begin_if h) s.0 (s.1 ++ (s.2 ++ (s.3 ++ (s.4 ++ a))))
      (ap (λ (x : List A). x ++ a) s.5 ∙ simp append_assoc) s.6 (λ _. omega arith)
      (reach-code (draft (in_then d.last h ∷ d.around) empty) first s.1 (s.2 ++ (s.3 ++ (s.4 ++ a))) e c s.7
      (omega arith)
      (elim s.8 [
        | inl none ↦
            let after : Reaches g limit (draft d.around (d.last ⧺ choice h first empty empty)) (s.4 ++ a) e c =
            reach-code (draft d.around (d.last ⧺ choice h first empty empty)) next s.4 a e c s.10 (omega arith)
            (rw (append-assoc, ← none.1) r) in
            rw none.0 (more close s.3 (s.4 ++ a) refl s.9 (λ e. absurd cc) after)
        | inr some ↦
            more otherwise some.0 (some.1 ++ (s.3 ++ (s.4 ++ a)))
            (ap (λ (x : List A). x ++ (s.3 ++ (s.4 ++ a))) some.2
            ∙ append_assoc some.0 some.1 (s.3 ++ (s.4 ++ a))) some.3 (λ e. absurd cc)
            (reach-code (draft (in_else d.last h first ∷ d.around) empty) second some.1 (s.3 ++ (s.4 ++ a)) e c some.4
            (omega arith)
            (more close s.3 (s.4 ++ a) refl s.9 (λ e. absurd cc)
            (reach-code (draft d.around (d.last ⧺ choice h first second empty)) next s.4 a e c s.10 (omega arith)
            (rw append-assoc r))))
      ]))

  reach-room : (around : List (Frame P H)) (n : ℕ) → reach around n ≤ limit → n + length around ≤ limit
  reach-room [] n h = omega arith
  reach-room (in_region before q h ∷ around) n k = omega (arith, reach-room around (max (nesting before) (n + 1)) k)
  reach-room (in_then before h ∷ around) n k = omega (arith, reach-room around (max (nesting before) (n + 1)) k)
  reach-room (in_else before h first ∷ around) n k = omega (
    arith,
    reach-room around
        (max (nesting before) (max (nesting first) n + 1)) k,
  )

  reach-opens : (around : List (Frame P H)) (n : ℕ) (b a : List A) (e : Draft P H) (c : List A) → Opens g b around
      → reach around n ≤ limit
      → Reaches g limit (draft around empty) a e c → Reaches g limit (whole empty) (b ++ a) e c
  reach-opens [] n b a e c o room r = rw o r
  reach-opens (in_region before q h ∷ around) n b a e c o room r =
      let k = reach-room around (max (nesting before) (n + 1)) room in
      let s : b ++ a ≡ o.0 ++ (o.1 ++ (o.2 ++ a)) = ap (λ (x : List A). x ++ a) o.3 ∙ simp append_assoc in
      rw s (reach-opens around (max (nesting before) (n + 1)) o.0 (o.1 ++ (o.2 ++ a)) e c o.4 room
      (reach-code (draft around empty) before o.1 (o.2 ++ a) e c o.5 (omega arith)
      (more (begin q h) o.2 a refl o.6 (λ _. omega arith) r)))
  reach-opens (in_then before h ∷ around) n b a e c o room r =
      let k = reach-room around (max (nesting before) (n + 1)) room in
      let s : b ++ a ≡ o.0 ++ (o.1 ++ (o.2 ++ a)) = ap (λ (x : List A). x ++ a) o.3 ∙ simp append_assoc in
      rw s (reach-opens around (max (nesting before) (n + 1)) o.0 (o.1 ++ (o.2 ++ a)) e c o.4 room
      (reach-code (draft around empty) before o.1 (o.2 ++ a) e c o.5 (omega arith)
      (more (begin_if h) o.2 a refl o.6 (λ _. omega arith) r)))
  reach-opens (in_else before h first ∷ around) n b a e c o room r =
      let k = reach-room around (max (nesting before) (max (nesting first) n + 1)) room in
      let s : b ++ a ≡ o.0 ++ (o.1 ++ (o.2 ++ (o.3 ++ (o.4 ++ a)))) = ap (λ (x : List A). x ++ a) o.5
      ∙ simp append_assoc in
      rw s (reach-opens around (max (nesting before) (max (nesting first) n + 1)) o.0
      (o.1 ++ (o.2 ++ (o.3 ++ (o.4 ++ a)))) e c o.6 room
      (reach-code (draft around empty) before o.1 (o.2 ++ (o.3 ++ (o.4 ++ a))) e c o.7 (omega arith)
      (more (begin_if h) o.2 (o.3 ++ (o.4 ++ a)) refl o.8 (λ _. omega arith)
      (reach-code (draft (in_then before h ∷ around) empty) first o.3 (o.4 ++ a) e c o.9 (omega arith)
      (more otherwise o.4 a refl o.10 (λ e. absurd cc) r)))))

  -- what is spelled is reached
  pub reach-draft : (d : Draft P H) (b a : List A) → SpellsDraft g b d → reach d.around (nesting d.last) ≤ limit
      → Reaches g limit (whole empty) (b ++ a) d a
  reach-draft d b a s room =
      let k = reach-room d.around (nesting d.last) room in
      let e : b ++ a ≡ s.0 ++ (s.1 ++ a) = ap (λ (x : List A). x ++ a) s.2 ∙ append_assoc s.0 s.1 a in
      rw e (reach-opens d.around (nesting d.last) s.0 (s.1 ++ a) d a s.3 room
      (reach-code (draft d.around empty) d.last s.1 a d a s.4 (omega arith) here))
