-- The canonical bytes of sections: none, where they would hold nothing.
use Rattle.std.proofs.Common.{◌≡◌, ◌≢◌, ℕ, zero, suc, List, [], ◌∷◌, Option, Some, None, ◌⊎◌, inl, inr, refl}
use Rattle.std.proofs.Common.{arith}
use Rattle.wc_leb128.specs.Writing.Bytes.{unsigned_bytes}
use Rattle.wc_binary.specs.declared.fault.BinWhy.TheVariants.{SectionSize}
use Rattle.wc_binary.specs.Standard.Style.{Style, canonical}
use Rattle.wc_binary.specs.Standard.Phrase.{Phrase, SpellsBy}
use Rattle.wc_binary.specs.Standard.Values.{u32, vector, sized}
use Rattle.wc_binary.specs.Standard.Sections.{start}
use Rattle.wc_binary.specs.Standard.Module.{AreCustoms, Customs}
use Rattle.wc_body.specs.Standard.ValueBytes.{vector_bytes, Fits32, FitsVector}
use Rattle.wc_binary.specs.Writing.Values.{sized_bytes, section_bytes, start_bytes}
use Rattle.wc_binary.specs.Writing.Values.{FitsSized, FitsSection, FitsStart}
use Rattle.wc_binary.proofs.spelling.Judging.{Judges, HasBytes}
use Rattle.wc_binary.proofs.spelling.Phrases.{of, made-writes, u32-writes, sized-writes, vector-writes}

pub customs-told : (s : Style) (V : List ℕ → List ℕ → Type 0) → Judges s V → (b : List ℕ) → Customs s b → V b []
customs-told s V j b h = go h.0 b h.1
  where
    go : (n : ℕ) (b : List ℕ) → AreCustoms s n b → V b []
    go zero b h = j.equal b [] h
    go (suc n) b h = let split = h.2 in j.liberty ⊥ b [] h.4 (λ e. e) (rw split (omega arith))

-- no bytes, or an id and what is behind it
abbrev pub StandsAlone : {A : Type 0} → ℕ → Phrase A → A → Style → List ℕ → A → Type 0
StandsAlone id p none s b v =
    ((b ≡ []) × (v ≡ none)) ⊎ ((a : List ℕ) × (b ≡ id ∷ a) × SpellsBy s p a v × s.Neat (v ≢ none))

-- a section of a vector: an empty one that stands is a liberty
module _ {A : Type 0} (id : ℕ) (p : Phrase A) (Fits : A → Type 0) (w : A → List ℕ)
    (writes : HasBytes (of p) Fits w) where
  vector_writes : HasBytes (of (sized SectionSize (vector p))) (FitsSized (vector_bytes w) (FitsVector Fits))
      (λ vs. sized_bytes (vector_bytes w vs))
  vector_writes = sized-writes (vector p) (FitsVector Fits) (vector_bytes w) (vector-writes p Fits w writes) SectionSize

  module _ (s : Style) (V : List ℕ → List ℕ → Type 0) (j : Judges s V) where
    standing : (a : List ℕ) (vs : List A) → FitsSized (vector_bytes w) (FitsVector Fits) vs
        → V a (sized_bytes (vector_bytes w vs)) → s.Neat (vs ≢ [])
        → FitsSection w Fits vs × V (id ∷ a) (section_bytes id w vs)
    standing a [] fits v neat = (tt, j.liberty (◌≢◌ {A = List A} [] []) (id ∷ a) [] neat (λ ne. ne refl) (omega arith))
    standing a (x ∷ vs) fits v neat =
        (fits, j.join (id ∷ []) a (id ∷ []) (sized_bytes (vector_bytes w (x ∷ vs))) (j.same (id ∷ [])) v)

    section-told : (b : List ℕ) (vs : List A) → StandsAlone id (sized SectionSize (vector p)) [] s b vs
        → FitsSection w Fits vs × V b (section_bytes id w vs)
    section-told b vs (inl h) = let empty = h.0 in let none = h.1 in rw (none, empty) (tt, j.same [])
    section-told b vs (inr h) =
        let t = vector_writes.told s V j h.0 vs h.2 in
        let split = h.1 in
        rw split (standing h.0 vs t.0 t.1 h.3)

  section-written : (vs : List A) → FitsSection w Fits vs
      → StandsAlone id (sized SectionSize (vector p)) [] canonical (section_bytes id w vs) vs
  section-written [] fits = inl (refl, refl)
  section-written (v ∷ vs) fits =
      inr (sized_bytes (vector_bytes w (v ∷ vs)), refl, vector_writes.written (v ∷ vs) fits, λ e. absurd cc)

  pub section-writes : HasBytes (StandsAlone id (sized SectionSize (vector p)) []) (FitsSection w Fits)
      (section_bytes id w)
  section-writes = record { written = section-written; told = section-told }

-- ---- the start section

abbrev index_bytes : Option ℕ → List ℕ
index_bytes None = []
index_bytes (Some index) = unsigned_bytes index

abbrev FitsIndex : Option ℕ → Type 0
FitsIndex None = ⊥
FitsIndex (Some index) = Fits32 index

index-back : (v : Option ℕ) → FitsIndex v → (n : ℕ) × (v ≡ Some n) × Fits32 n
index-back None h = absurd h
index-back (Some n) h = (n, refl, h)

start_writes : HasBytes (of (sized SectionSize start)) (FitsSized index_bytes FitsIndex)
    (λ v. sized_bytes (index_bytes v))
unfolding start
start_writes =
    sized-writes start FitsIndex index_bytes
    (made-writes u32 Fits32 unsigned_bytes (λ n. Some n) FitsIndex index_bytes u32-writes (λ n f. f) (λ n.
    refl) index-back) SectionSize

module _ (id : ℕ) (s : Style) (V : List ℕ → List ℕ → Type 0) (j : Judges s V) where
  start-stands : (a : List ℕ) (v : Option ℕ) → FitsSized index_bytes FitsIndex v → V a (sized_bytes (index_bytes v))
      → FitsStart v × V (id ∷ a) (start_bytes id v)
  start-stands a None fits v = absurd fits.1
  start-stands a (Some index) fits v =
      (fits, j.join (id ∷ []) a (id ∷ []) (sized_bytes (unsigned_bytes index)) (j.same (id ∷ [])) v)

  start-told : (b : List ℕ) (v : Option ℕ) → StandsAlone id (sized SectionSize start) None s b v → FitsStart v
      × V b (start_bytes id v)
  start-told b v (inl h) = let empty = h.0 in let none = h.1 in rw (none, empty) (tt, j.same [])
  start-told b v (inr h) =
      let t = start_writes.told s V j h.0 v h.2 in
      let split = h.1 in
      rw split (start-stands h.0 v t.0 t.1)

start-written : (id : ℕ) (v : Option ℕ) → FitsStart v
    → StandsAlone id (sized SectionSize start) None canonical (start_bytes id v) v
start-written id None fits = inl (refl, refl)
start-written id (Some index) fits =
    inr (sized_bytes (unsigned_bytes index), refl, start_writes.written (Some index) fits, λ e. absurd cc)

pub start-writes : (id : ℕ) → HasBytes (StandsAlone id (sized SectionSize start) None) FitsStart (start_bytes id)
start-writes id = record { written = start-written id; told = start-told id }
