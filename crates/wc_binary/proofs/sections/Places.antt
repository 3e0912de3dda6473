-- Of each section: its id, what stands behind it, and its place in a module.
use Rattle.std.proofs.Common.{◌≡◌, ◌≢◌, ℕ, ◌<◌, ◌≤◌, Bool, true, false, nat_eq, List, [], ◌∷◌, Option, Some, None, Ok}
use Rattle.std.proofs.Common.{◌++◌, inl, inr, refl, sym, ap, subst, ◌∙◌, arith}
use Rattle.std.proofs.lemmas.Bool.{eqb-true, eqb-false, ne_eqb, cases_lt, lt-ltb, le-ltb}
use Rattle.std.proofs.lemmas.List.{append-nil}
use Rattle.wc_binary.specs.declared.parts.Parts.{Parts}
use Rattle.wc_binary.specs.declared.section.Section.{Section}
use Rattle.wc_binary.specs.declared.section.Section.TheVariants as sections
use Rattle.wc_binary.specs.declared.section.SectionKind.{SectionKind}
use Rattle.wc_binary.specs.declared.section.SectionKind.TheVariants as kinds
use Rattle.wc_binary.specs.Standard.Style.{Style}
use Rattle.wc_binary.specs.Standard.Phrase.{Phrase, gives, ◌>>=◌, SpellsBy}
use Rattle.wc_binary.specs.Standard.Sections.{custom, section_id, in_order, kind_among, kind_of, id_of, ordered, Held}
use Rattle.wc_binary.specs.Standard.Sections.{behind_id, absent, held_by, section_of, content, number, nothing, put}
use Rattle.wc_binary.specs.Standard.Sections.{Stands}

-- ---- ids

abbrev some_kind : SectionKind → Option SectionKind
some_kind k = Some k

-- a section that was found by an id has it
found-id : (ks : List SectionKind) (x : ℕ) (k : SectionKind) → kind_among ks x ≡ Some k → section_id k ≡ x
found-id [] x k h = absurd cc
found-id (j ∷ ks) x k h = go (nat_eq x (section_id j)) refl (λ e. found-id ks x k e)
  where
    go : (b : Bool) → nat_eq x (section_id j) ≡ b → (kind_among ks x ≡ Some k → section_id k ≡ x) → section_id k ≡ x
    go true e others =
        let f : some_kind j ≡ Some k = rw e at h in
        let g : j ≡ k = cc in ap section_id (sym g) ∙ sym (eqb-true x (section_id j) e)
    go false e others = others (rw e at h)

-- none is found by an id that none of all sections has
none-found : (ks : List SectionKind) (x : ℕ) → ((k : SectionKind) → section_id k < x) → kind_among ks x ≡ None
none-found [] x below = refl
none-found (k ∷ ks) x below =
    let lt = below k in rw (ne_eqb x (section_id k) (λ e. absurd (omega (arith, e)))) (none-found ks x below)

last-id : (k : SectionKind) → section_id k ≤ 11
last-id kinds.Custom = omega arith
last-id _ = omega arith

-- there is no id above the last one
pub none-above : (x : ℕ) → 11 < x → kind_of x ≡ None
none-above x lt = none-found (kinds.Custom ∷ in_order) x (λ k. let le = last-id k in omega arith)

pub kind-is : (k : SectionKind) → kind_of (section_id k) ≡ Some k
kind-is kinds.Custom = refl
kind-is _ = refl

-- what the id of a section tells
pub record IsId (last x : ℕ) (k : SectionKind) : Type 0 where
  pub kind_is : kind_of x ≡ Some k
  pub number_is : section_id k ≡ x
  pub rises : x ≢ 0 → last < x

pub id-told : (last x : ℕ) (k : SectionKind) → id_of last x ≡ Ok k → IsId last x k
id-told last x k h = go (kind_of x) refl
  where
    told : (j : SectionKind) → kind_of x ≡ Some j → j ≡ k → (x ≢ 0 → last < x) → IsId last x k
    told j e same rises =
        let f : kind_of x ≡ Some k = rw same at e in
        record { kind_is = f; number_is = found-id (kinds.Custom ∷ in_order) x k f; rises = rises }

    known : (j : SectionKind) → kind_of x ≡ Some j → ordered last x (Some j) ≡ Ok k → IsId last x k
    known j e g = by_zero (nat_eq x 0) refl
      where
        by_zero : (b : Bool) → nat_eq x 0 ≡ b → IsId last x k
        by_zero true z =
            let f = rw z at g in told j e (let same : j ≡ k = cc in same) (λ ne. absurd (ne (eqb-true x 0 z)))
        by_zero false z =
            elim (cases_lt last x) [
              | inl lt ↦ let l = lt-ltb last x lt in let f = rw (z, l) at g in
                  told j e (let same : j ≡ k = cc in same) (λ ne. lt)
              | inr le ↦ let l = le-ltb last x le in let f = rw (z, l) at g in absurd cc
            ]

    go : (o : Option SectionKind) → kind_of x ≡ o → IsId last x k
    go None e = let f : ordered last x None ≡ Ok k = rw e at h in absurd cc
    go (Some j) e = let f : ordered last x (Some j) ≡ Ok k = rw e at h in known j e f

-- an id that may stand
pub id-stands : (last x : ℕ) (k : SectionKind) → kind_of x ≡ Some k → (x ≢ 0 → last < x) → id_of last x ≡ Ok k
id-stands last x k e rises = rw e (go (nat_eq x 0) refl)
  where
    go : (b : Bool) → nat_eq x 0 ≡ b → ordered last x (Some k) ≡ Ok k
    go true z = rw z refl
    go false z = let l = lt-ltb last x (rises (eqb-false x 0 z)) in rw (z, l) refl

-- ---- contents

-- what is read behind an id, as a section
content-is : (k : SectionKind) → content k ≡ (behind_id k >>= λ v. gives (section_of k v))
unfolding content behind_id
content-is kinds.Custom = refl
content-is _ = refl

pub section-number : (k : SectionKind) (v : Held k) → number (section_of k v) ≡ section_id k
section-number kinds.Custom v = refl
section-number _ v = refl

module _ (s : Style) where
  -- what is read of a phrase, and what is made of it
  pub made : {A : Type 0} (p : Phrase A) (make : A → Section) (a : List ℕ) (v : Section)
      → SpellsBy s (p >>= λ u. gives (make u)) a v → (u : A) × (v ≡ make u) × SpellsBy s p a u
  made p make a v h =
      let e : a ≡ h.0 = h.3 ∙ ap (λ (x : List ℕ). h.0 ++ x) h.5.0 ∙ append-nil h.0 in (h.2, h.5.1, rw e h.4)

  pub content-held : (k : SectionKind) (a : List ℕ) (v : Section) → SpellsBy s (content k) a v
      → (u : Held k) × (v ≡ section_of k u) × SpellsBy s (behind_id k) a u
  content-held k a v h =
      made (behind_id k) (section_of k) a v (subst (λ (q : Phrase Section). SpellsBy s q a v) (content-is k) h)

  pub held-content : (k : SectionKind) (a : List ℕ) (v : Held k) → SpellsBy s (behind_id k) a v
      → SpellsBy s (content k) a (section_of k v)
  held-content k a v h =
      subst (λ (q : Phrase Section). SpellsBy s q a (section_of k v)) (sym (content-is k))
      (a, [], v, sym (append-nil a), h, (refl, refl))

  pub content-number : (k : SectionKind) (a : List ℕ) (v : Section) → SpellsBy s (content k) a v
      → number v ≡ section_id k
  content-number k a v h = let t = content-held k a v h in ap number t.1 ∙ section-number k t.0

  pub custom-content : (a : List ℕ) → SpellsBy s custom a tt → SpellsBy s (content kinds.Custom) a sections.Custom
  unfolding behind_id
  custom-content a h = held-content kinds.Custom a tt h

  pub content-custom : (a : List ℕ) (v : Section) → SpellsBy s (content kinds.Custom) a v
      → (v ≡ sections.Custom) × SpellsBy s custom a tt
  unfolding behind_id
  content-custom a v h = let t = content-held kinds.Custom a v h in (t.1, t.2)

-- ---- the place of a section that isn't custom

pub stands-is : (k : SectionKind) → 0 < section_id k → (v : Held k) → Stands (section_of k v) ≡ (v ≢ absent k)
stands-is kinds.Custom some v = absurd (omega (arith, some))
stands-is _ some v = refl

pub put-held : (k : SectionKind) → 0 < section_id k → (p : Parts) (v : Held k) → held_by k (put p (section_of k v)) ≡ v
put-held kinds.Custom some p v = absurd (omega (arith, some))
put-held _ some p v = refl

-- what is there already changes nothing
pub put-same : (k : SectionKind) (p : Parts) → put p (section_of k (held_by k p)) ≡ p
put-same kinds.Custom p = refl
put-same _ p = refl

pub nothing-held : (k : SectionKind) → held_by k nothing ≡ absent k
nothing-held kinds.Custom = refl
nothing-held _ = refl

-- a section leaves the places of others as they were
pub kept : (k : SectionKind) (p : Parts) (v : Section) → number v ≢ section_id k → held_by k (put p v) ≡ held_by k p
kept kinds.Custom p sections.Custom ne = absurd (ne refl)
kept kinds.Type p (sections.Types v) ne = absurd (ne refl)
kept kinds.Import p (sections.Imports v) ne = absurd (ne refl)
kept kinds.Function p (sections.FuncTypes v) ne = absurd (ne refl)
kept kinds.Table p (sections.Tables v) ne = absurd (ne refl)
kept kinds.Memory p (sections.Mems v) ne = absurd (ne refl)
kept kinds.Global p (sections.Globals v) ne = absurd (ne refl)
kept kinds.Export p (sections.Exports v) ne = absurd (ne refl)
kept kinds.Start p (sections.Start v) ne = absurd (ne refl)
kept kinds.Element p (sections.Elems v) ne = absurd (ne refl)
kept kinds.Code p (sections.Codes v) ne = absurd (ne refl)
kept kinds.Data p (sections.Datas v) ne = absurd (ne refl)
kept _ p _ ne = refl
