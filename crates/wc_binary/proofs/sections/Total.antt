-- Each input is a module or stops.
use Rattle.std.proofs.Common.{◌≡◌, ◌≢◌, Bool, true, false, nat_eq, ℕ, zero, suc, ◌+◌, ◌<◌, List, [], ◌∷◌, ◌++◌, length}
use Rattle.std.proofs.Common.{Result, Ok, Err, ◌⊎◌, inl, inr, refl, sym, ap, subst, ◌∙◌, append_assoc, add-zero, arith}
use Rattle.std.proofs.lemmas.List.{length-append}
use Rattle.std.proofs.lemmas.Bool.{eqb-true, eqb-false}
use Rattle.wc_binary.specs.declared.fault.BinWhy.{BinWhy}
use Rattle.wc_binary.specs.Standard.Phrase.{Halt, halt, Spells, Stops}
use Rattle.wc_binary.specs.Reading.Reading.{Got, read}
use Rattle.wc_ast.specs.declared.module.Module.{Module}
use Rattle.wc_binary.specs.declared.section.Section.{Section}
use Rattle.wc_binary.specs.declared.section.SectionKind.{SectionKind}
use Rattle.wc_binary.specs.Standard.Style.{free}
use Rattle.wc_binary.specs.Standard.Sections.{id_of, content, after, nothing}
use Rattle.wc_binary.specs.Standard.Module.{preamble, AreSections, StopsSections, put_all, RisesBy, Bin, StopB}
use Rattle.wc_binary.specs.Standard.Module.{FirstFault}
use Rattle.wc_binary.proofs.sections.Order.{rises-bin}
use Rattle.wc_binary.specs.declared.fault.BinWhy.TheVariants.{Counts}
use Rattle.wc_binary.proofs.sections.Parts.{module-of}
use Rattle.wc_binary.proofs.phrases.Told.{IsTold}
use Rattle.wc_binary.proofs.phrases.Laws.{read-told}

abbrev Judged : ℕ → ℕ → List ℕ → Type 0
Judged last o x = ((ss : List Section) × AreSections free last ss x) ⊎ ((f : Halt) × StopsSections last o x f)

module _ (last o b : ℕ) (id : SectionKind) (x : List ℕ) (i : id_of last b ≡ Ok id) where
  behind : (g : Got Section) → IsTold (content id) (o + 1) x (Ok g) → Judged (after last g.value) g.place g.left
      → Judged last o (b ∷ x)
  behind g h (inl k) = inl (g.value ∷ k.0, (b, id, h.0, g.left, ap (λ (z : List ℕ). b ∷ z) h.1, i, h.2, tt, k.1))
  behind g h (inr k) =
      let s = k.1 in
      let place : g.place + length s.1 ≡ o + length (b ∷ (h.0 ++ s.1)) = omega (arith, h.3, length-append h.0 s.1) in
      inr (
        k.0,
        (
          g.value ∷ s.0,
          b ∷ (h.0 ++ s.1),
          s.2,
          s.3,
          ap (λ (z : List ℕ). b ∷ z) (h.1 ∙ ap (λ (z : List ℕ). h.0 ++ z) s.4 ∙ sym (append_assoc h.0 s.1 (s.3 ∷ s.2))),
          (b, id, h.0, s.1, refl, i, h.2, tt, s.5),
          rw place at s.6,
        ),
      )

  section-judged : (r : Result (Got Section) Halt) → IsTold (content id) (o + 1) x r
      → ((g : Got Section) → length g.left < length (b ∷ x) → Judged (after last g.value) g.place g.left)
      → Judged last o (b ∷ x)
  section-judged (Ok g) h k = behind g h (k g (omega (arith, ap length h.1, length-append h.0 g.left)))
  section-judged (Err f) h k =
      let place : o + 1 ≡ o + 0 + 1 = omega arith in
      inr (f, ([], [], x, b, refl, refl, inr (id, i, subst (λ (q : ℕ). Stops (content id) q x f) place h)))

sections-judged : (n last o : ℕ) (x : List ℕ) → length x < n → Judged last o x
sections-judged zero last o x lt = absurd (omega arith)
sections-judged (suc n) last o [] lt = inl ([], refl)
sections-judged (suc n) last o (b ∷ x) lt = go (id_of last b) refl (λ v p y l. sections-judged n (after last v) p y l)
  where
    go : (r : Result SectionKind BinWhy) → id_of last b ≡ r
        → ((v : Section) (p : ℕ) (y : List ℕ) → length y < n → Judged (after last v) p y) → Judged last o (b ∷ x)
    go (Err r) e ih =
        inr
        (halt o r (o + 1), ([], [], x, b, refl, refl, inl (r, e, ap (λ (q : ℕ). halt q r (q + 1)) (sym (add-zero o)))))
    go (Ok id) e ih =
        section-judged last o b id x e (read (content id) (o + 1) x) (read-told {A = Section} (content id) (o + 1) x)
        (λ g l. ih g.value g.place g.left (omega arith))

nat-cases : (m n : ℕ) → (m ≡ n) ⊎ (m ≢ n)
nat-cases m n = go (nat_eq m n) refl
  where
    go : (b : Bool) → nat_eq m n ≡ b → (m ≡ n) ⊎ (m ≢ n)
    go true e = inl (eqb-true m n e)
    go false e = inr (eqb-false m n e)

-- the preamble and sections to the end are a module, or they tell other numbers of functions and of codes
pub whole-or-counts : (x a b : List ℕ) → x ≡ a ++ b → Spells preamble a tt → (ss : List Section)
    → AreSections free 0 ss b → ((m : Module) × Bin x m) ⊎ FirstFault x (length a + length b) Counts
whole-or-counts x a b split head ss whole =
    elim (nat-cases (length (put_all nothing ss).func_types) (length (put_all nothing ss).codes)) [
      | inl e ↦ let m = module-of (put_all nothing ss) e in
          inl (m.0, rises-bin free x m.0 (a, b, ss, split, head, whole, m.1))
      | inr ne ↦ inr (length a + length b, inr (a, b, split, head, inr (ss, whole, ne, refl)))
    ]

rises-judged : (x : List ℕ) → ((m : Module) × RisesBy free x m) ⊎ ((f : Halt) × StopB x f)
rises-judged x = go (read preamble 0 x) (read-told {A = Unit {0}} preamble 0 x)
  where
    go : (r : Result (Got (Unit {0})) Halt) → IsTold preamble 0 x r
        → ((m : Module) × RisesBy free x m) ⊎ ((f : Halt) × StopB x f)
    go (Err f) h = inr (f, inl h)
    go (Ok g) h =
        elim (sections-judged (suc (length g.left)) 0 (length h.0) g.left (omega arith)) [
          | inl k ↦ elim (nat-cases (length (put_all nothing k.0).func_types) (length (put_all nothing k.0).codes)) [
            | inl e ↦ let m = module-of (put_all nothing k.0) e in inl (m.0, (h.0, g.left, k.0, h.1, h.2, k.1, m.1))
            | inr ne ↦ inr (
              halt (length h.0 + length g.left) Counts (length h.0 + length g.left),
              inr (h.0, g.left, h.1, h.2, inr (k.0, k.1, ne, refl)),
            )
          ]
          | inr k ↦ inr (k.0, inr (h.0, g.left, h.1, h.2, inl k.1))
        ]

pub bin-judged : (x : List ℕ) → ((m : Module) × Bin x m) ⊎ ((f : Halt) × StopB x f)
bin-judged x = elim (rises-judged x) [ inl k ↦ inl (k.0, rises-bin free x k.0 k.1) | inr k ↦ inr k ]
