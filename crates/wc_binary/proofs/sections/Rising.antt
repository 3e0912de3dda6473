-- A section in its place, and sections whose ids rise.
use Rattle.std.proofs.Common.{◌≡◌, ◌≢◌, ℕ, zero, suc, max, ◌<◌, ◌≤◌, Bool, true, false, nat_eq, List, [], ◌∷◌, ◌++◌}
use Rattle.std.proofs.Common.{Option, Some, None, ◌⊎◌, inl, inr, refl, sym, ap, subst, ◌∙◌, append_assoc, arith}
use Rattle.std.proofs.lemmas.Bool.{eqb-true, eqb-false, cases_lt}
use Rattle.wc_binary.specs.declared.parts.Parts.{Parts}
use Rattle.wc_binary.specs.declared.section.Section.{Section}
use Rattle.wc_binary.specs.declared.section.Section.TheVariants as sections
use Rattle.wc_binary.specs.declared.section.SectionKind.{SectionKind}
use Rattle.wc_binary.specs.declared.section.SectionKind.TheVariants as kinds
use Rattle.wc_binary.specs.Standard.Style.{Style}
use Rattle.wc_binary.specs.Standard.Phrase.{SpellsBy}
use Rattle.wc_binary.specs.Standard.Sections.{section_id, Held, behind_id, absent, held_by, section_of, kind_of, number}
use Rattle.wc_binary.specs.Standard.Sections.{put, Stands}
use Rattle.wc_binary.specs.Standard.Module.{AreCustoms, Customs, IsSection, Then, AreSections, put_all}
use Rattle.wc_binary.proofs.sections.Places.{IsId, id-told, id-stands, content-number, content-held, held-content}
use Rattle.wc_binary.proofs.sections.Places.{custom-content, content-custom, section-number, kind-is, stands-is}
use Rattle.wc_binary.proofs.sections.Places.{put-held, kept}

-- sections with ids above `last` lead from some parts to others
abbrev pub Runs : Style → ℕ → List ℕ → Parts → Parts → Type 0
Runs s last b m n = (vs : List Section) × AreSections s last vs b × (put_all m vs ≡ n)

module _ (s : Style) where
  -- custom sections in front leave everything as it is
  pub behind-customs : (n last : ℕ) (b c : List ℕ) (m r : Parts) → AreCustoms s n b → Runs s last c m r
      → Runs s last (b ++ c) m r
  behind-customs zero last b c m r h k = let e = h in rw e k
  behind-customs (suc n) last b c m r h k =
      let rest = behind-customs n last h.1 c m r h.5 k in
      let same : last ≡ max last 0 = omega arith in
      let split : b ++ c ≡ 0 ∷ (h.0 ++ (h.1 ++ c)) =
      ap (λ (x : List ℕ). x ++ c) h.2 ∙ ap (λ (x : List ℕ). 0 ∷ x) (append_assoc h.0 h.1 c) in (
        sections.Custom ∷ rest.0,
        (
          0,
          kinds.Custom,
          h.0,
          h.1 ++ c,
          split,
          refl,
          custom-content s h.0 h.3,
          h.4,
          subst (λ (l : ℕ). AreSections s l rest.0 (h.1 ++ c)) same rest.1,
        ),
        rest.2,
      )

  -- what may stand behind a higher id may stand behind a lower one
  lower : (vs : List Section) (lo hi : ℕ) (b : List ℕ) → lo ≤ hi → AreSections s hi vs b → AreSections s lo vs b
  lower [] lo hi b le h = h
  lower (v ∷ vs) lo hi b le h =
      let i = id-told hi h.0 h.1 h.5 in
      let higher : max lo (number v) ≤ max hi (number v) = omega arith in (
        h.0,
        h.1,
        h.2,
        h.3,
        h.4,
        id-stands lo h.0 h.1 i.kind_is (λ ne. let lt = i.rises ne in omega arith),
        h.6,
        h.7,
        lower vs (max lo (number v)) (max hi (number v)) h.3 higher h.8,
      )

module _ (s : Style) (k : SectionKind) (some : 0 < section_id k) where
  module _ (last : ℕ) (base n : Parts) (v : Held k) (Rest : List ℕ → Type 0) (lt : last < section_id k)
      (empty : put base (section_of k (absent k)) ≡ base) where
    section-rises : (c d : List ℕ) → IsSection s k v c → Runs s (section_id k) d (put base (section_of k v)) n
        → Runs s last (c ++ d) base n
    section-rises c d (inl e) r =
        let nothing-here = e.0 in
        let same : put base (section_of k v) ≡ base = ap (λ (x : Held k). put base (section_of k x)) e.1 ∙ empty in
        rw nothing-here
        (r.0, lower s r.0 last (section_id k) d (omega arith) r.1, ap (λ (x : Parts). put_all x r.0) (sym same) ∙ r.2)
    section-rises c d (inr e) r =
        let reaches : section_id k ≡ max last (number (section_of k v)) = omega (arith, section-number k v) in (
          section_of k v ∷ r.0,
          (
            section_id k,
            k,
            e.0,
            d,
            ap (λ (x : List ℕ). x ++ d) e.1,
            id-stands last (section_id k) k (kind-is k) (λ ne. lt),
            held-content s k e.0 v e.2,
            subst (λ (P : Type 0). s.Neat P) (sym (stands-is k some v)) e.3,
            subst (λ (l : ℕ). AreSections s l r.0 d) reaches r.1,
          ),
          r.2,
        )

    pub then-rises : ((d : List ℕ) → Rest d → Runs s (section_id k) d (put base (section_of k v)) n) → (b : List ℕ)
        → Then s k v Rest b → Runs s last b base n
    then-rises rest b h =
        let split = h.3 in
        rw split (behind-customs s h.4.0 last h.0 (h.1 ++ h.2) base n h.4.1 (section-rises h.1 h.2 h.5 (rest h.2 h.6)))

  -- ---- and back

  -- sections are all above this id, or one behind custom sections has it
  abbrev Splits : List Section → List ℕ → Type 0
  Splits vs b =
      AreSections s (section_id k) vs b
      ⊎ ((a c d : List ℕ) × (v : Held k) × (ws : List Section) × (b ≡ a ++ ((section_id k ∷ c) ++ d)) × Customs s a
      × SpellsBy s (behind_id k) c v
      × s.Neat (v ≢ absent k) × AreSections s (section_id k) ws d
      × ((m : Parts) → put_all m vs ≡ put_all (put m (section_of k v)) ws))

  abbrev some_kind : SectionKind → Option SectionKind
  some_kind j = Some j

  module _ (last : ℕ) (lt : last < section_id k) (v : Section) (vs : List Section) (b : List ℕ)
      (h : AreSections s last (v ∷ vs) b) where
    first : IsId last h.0 h.1
    first = id-told last h.0 h.1 h.5

    number-is : number v ≡ h.0
    number-is = content-number s h.1 h.2 v h.6 ∙ first.number_is

    custom-first : h.0 ≡ 0 → Splits vs h.3 → Splits (v ∷ vs) b
    custom-first z r =
        let e : some_kind kinds.Custom ≡ Some h.1 = ap kind_of (sym z) ∙ first.kind_is in
        let kind-is : h.1 ≡ kinds.Custom = cc in
        let custom = content-custom s h.2 v (rw kind-is at h.6) in
        let is-custom : v ≡ sections.Custom = custom.0 in
        let neat : s.Neat ⊥ = rw is-custom at h.7 in
        elim r [
          | inl rest ↦
              let same : section_id k ≡ max (section_id k) (number v) = omega (arith, number-is, z) in
              inl (
                h.0,
                h.1,
                h.2,
                h.3,
                h.4,
                id-stands (section_id k) h.0 h.1 first.kind_is (λ ne. absurd (ne z)),
                h.6,
                h.7,
                subst (λ (l : ℕ). AreSections s l vs h.3) same rest,
              )
          | inr rest ↦
              let front : b ≡ 0 ∷ (h.2 ++ h.3) = h.4 ∙ ap (λ (x : ℕ). x ∷ (h.2 ++ h.3)) z in
              let split : b ≡ (0 ∷ (h.2 ++ rest.0)) ++ ((section_id k ∷ rest.1) ++ rest.2) =
              front ∙ ap (λ (x : List ℕ). 0 ∷ (h.2 ++ x)) rest.5
              ∙ ap (λ (x : List ℕ). 0 ∷ x) (sym (append_assoc h.2 rest.0 ((section_id k ∷ rest.1) ++ rest.2))) in
              inr (
                0 ∷ (h.2 ++ rest.0),
                rest.1,
                rest.2,
                rest.3,
                rest.4,
                split,
                (suc rest.6.0, (h.2, rest.0, refl, custom.1, neat, rest.6.1)),
                rest.7,
                rest.8,
                rest.9,
                λ m. ap (λ (x : Section). put_all (put m x) vs) is-custom ∙ rest.10 m,
              )
        ]

    here-first : h.0 ≡ section_id k → Splits (v ∷ vs) b
    here-first z =
        let e : some_kind k ≡ Some h.1 = sym (kind-is k) ∙ ap kind_of (sym z) ∙ first.kind_is in
        let same-kind : h.1 ≡ k = cc in
        let t = content-held s k h.2 v (rw same-kind at h.6) in
        let v-is = t.1 in
        let neat : s.Neat (Stands (section_of k t.0)) = rw v-is at h.7 in
        let same : max last (number v) ≡ section_id k = omega (arith, number-is, z) in
        inr (
          [],
          h.2,
          h.3,
          t.0,
          vs,
          h.4 ∙ ap (λ (x : ℕ). x ∷ (h.2 ++ h.3)) z,
          (0, refl),
          t.2,
          subst (λ (P : Type 0). s.Neat P) (stands-is k some t.0) neat,
          subst (λ (l : ℕ). AreSections s l vs h.3) same h.8,
          λ m. ap (λ (x : Section). put_all (put m x) vs) v-is,
        )

    above-first : section_id k < h.0 → Splits (v ∷ vs) b
    above-first more =
        let same : max last (number v) ≡ max (section_id k) (number v) = omega (arith, number-is) in
        inl (
          h.0,
          h.1,
          h.2,
          h.3,
          h.4,
          id-stands (section_id k) h.0 h.1 first.kind_is (λ ne. more),
          h.6,
          h.7,
          subst (λ (l : ℕ). AreSections s l vs h.3) same h.8,
        )

    -- no section has an id between
    not-between : ((x : ℕ) → last < x → x < section_id k → kind_of x ≡ None) → h.0 ≢ 0 → h.0 < section_id k → ⊥
    not-between gap ne less =
        let e = gap h.0 (first.rises ne) less ∙ refl in
        let f = first.kind_is in let g : some_kind h.1 ≡ None = sym f ∙ e in cc

  splits : (last : ℕ) → last < section_id k → ((x : ℕ) → last < x → x < section_id k → kind_of x ≡ None)
      → (vs : List Section) (b : List ℕ)
      → AreSections s last vs b → Splits vs b
  splits last lt gap [] b h = inl h
  splits last lt gap (v ∷ vs) b h = by_zero (nat_eq h.0 0) refl (λ c. splits last lt gap vs h.3 c)
    where
      by_zero : (z : Bool) → nat_eq h.0 0 ≡ z → (AreSections s last vs h.3 → Splits vs h.3) → Splits (v ∷ vs) b
      by_zero true e ih =
          let z = eqb-true h.0 0 e in
          let same : max last (number v) ≡ last = omega (arith, number-is last lt v vs b h, z) in
          custom-first last lt v vs b h z (ih (subst (λ (l : ℕ). AreSections s l vs h.3) same h.8))
      by_zero false e ih =
          let ne = eqb-false h.0 0 e in
          elim (cases_lt (section_id k) h.0) [
            | inl more ↦ above-first last lt v vs b h more
            | inr le ↦ elim (cases_lt h.0 (section_id k)) [
              | inl less ↦ absurd (not-between last lt v vs b h gap ne less)
              | inr ge ↦ here-first last lt v vs b h (omega arith)
            ]
          ]

  -- sections above this id leave its place as it was
  kept-all : (vs : List Section) (last : ℕ) (b : List ℕ) (m : Parts) → section_id k ≤ last → AreSections s last vs b
      → held_by k (put_all m vs) ≡ held_by k m
  kept-all [] last b m le h = refl
  kept-all (v ∷ vs) last b m le h =
      let i = id-told last h.0 h.1 h.5 in
      let num : number v ≡ h.0 = content-number s h.1 h.2 v h.6 ∙ i.number_is in
      let other : number v ≢ section_id k = λ e. let up = i.rises (λ z. absurd (omega (arith, num, e, z)))
      in absurd (omega (arith, num, e)) in
      kept-all vs (max last (number v)) h.3 (put m v) (omega arith) h.8 ∙ kept k m v other

  pub then-found : (last : ℕ) → last < section_id k → ((x : ℕ) → last < x → x < section_id k → kind_of x ≡ None)
      → (base n : Parts) → put base (section_of k (absent k)) ≡ base → held_by k base ≡ absent k
      → (vs : List Section) (b : List ℕ) → AreSections s last vs b → put_all base vs ≡ n → (Rest : List ℕ → Type 0)
      → ((ws : List Section) (d : List ℕ) → AreSections s (section_id k) ws d
      → put_all (put base (section_of k (held_by k n))) ws ≡ n → Rest d)
      → Then s k (held_by k n) Rest b
  then-found last lt gap base n empty clear vs b h e Rest rest =
      elim (splits last lt gap vs b h) [
        | inl r ↦
            let none-is : held_by k n ≡ absent k =
            ap (held_by k) (sym e) ∙ kept-all vs (section_id k) b base (omega arith) r ∙ clear in
            let same : put base (section_of k (held_by k n)) ≡ base =
            ap (λ (x : Held k). put base (section_of k x)) none-is ∙ empty in
            ([], [], b, refl, (0, refl), inl (refl, none-is), rest vs b r (ap (λ (x : Parts). put_all x vs) same ∙ e))
        | inr r ↦
            let v-is : held_by k n ≡ r.3 = ap (held_by k) (sym e ∙ r.10 base)
            ∙ kept-all r.4 (section_id k) r.2 (put base (section_of k r.3)) (omega arith) r.9
            ∙ put-held k some base r.3 in
            let spelled = subst (λ (x : Held k). SpellsBy s (behind_id k) r.1 x) (sym v-is) r.7 in
            let neat = subst (λ (x : Held k). s.Neat (x ≢ absent k)) (sym v-is) r.8 in (
              r.0,
              section_id k ∷ r.1,
              r.2,
              r.5,
              r.6,
              inr (r.1, refl, spelled, neat),
              rest r.4 r.2 r.9
                  (ap (λ (x : Held k). put_all (put base (section_of k x)) r.4) v-is ∙ sym (r.10 base) ∙ e),
            )
      ]

abbrev some_kind_of : SectionKind → Option SectionKind
some_kind_of j = Some j

-- behind the last id stand custom sections alone
pub only-customs : (s : Style) (last : ℕ) → ((x : ℕ) → last < x → kind_of x ≡ None) → (vs : List Section) (b : List ℕ)
    → AreSections s last vs b → Customs s b
only-customs s last none [] b h = (0, h)
only-customs s last none (v ∷ vs) b h = go (nat_eq h.0 0) refl (λ k. only-customs s last none vs h.3 k)
  where
    go : (z : Bool) → nat_eq h.0 0 ≡ z → (AreSections s last vs h.3 → Customs s h.3) → Customs s b
    go true e ih =
        let i = id-told last h.0 h.1 h.5 in
        let z = eqb-true h.0 0 e in
        let num : number v ≡ h.0 = content-number s h.1 h.2 v h.6 ∙ i.number_is in
        let f : some_kind_of kinds.Custom ≡ Some h.1 = ap kind_of (sym z) ∙ i.kind_is in
        let kind-is : h.1 ≡ kinds.Custom = cc in
        let custom = content-custom s h.2 v (rw kind-is at h.6) in
        let is-custom : v ≡ sections.Custom = custom.0 in
        let neat : s.Neat ⊥ = rw is-custom at h.7 in
        let same : max last (number v) ≡ last = omega (arith, num, z) in
        let rest = ih (subst (λ (l : ℕ). AreSections s l vs h.3) same h.8) in
        (suc rest.0, (h.2, h.3, h.4 ∙ ap (λ (x : ℕ). x ∷ (h.2 ++ h.3)) z, custom.1, neat, rest.1))
    go false e ih =
        let i = id-told last h.0 h.1 h.5 in
        let f = none h.0 (i.rises (eqb-false h.0 0 e)) in
        let g : some_kind_of h.1 ≡ None = sym i.kind_is ∙ f in
        absurd cc
