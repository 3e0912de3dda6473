-- How the logic stores nested instructions and drafts: as their marks.
use Rattle.std.specs.Prelude.{ℕ, zero, suc, ◌≡◌, ◌⊎◌, List, [], refl}
use Rattle.std.proofs.Common.{inl, inr, ap}
use Rattle.std.specs.Coded.{Coded, code_by, coded_ℕ, coded_list, coded×, coded⊎}
use Rattle.wc_body.specs.Standard.Nested.{block, loop, Code, Mark, plain, begin, begin_if, otherwise, close, flatten}
use Rattle.wc_body.specs.Standard.Draft.{Draft, built, upto}
use Rattle.wc_body.specs.Stored.Rebuilt.{built_flatten, built_upto}

-- a mark as a choice: an instruction; which head, and the head; or which mark without a head
abbrev MarkChoice : Type 0 → Type 0 → Type 0
MarkChoice P H = P ⊎ ((ℕ × H) ⊎ ℕ)

module _ {P H : Type 0} where
  -- the choice of a mark
  abbrev mark_choice : Mark P H → MarkChoice P H
  mark_choice (plain p) = inl p
  mark_choice (begin block h) = inr (inl (0, h))
  mark_choice (begin loop h) = inr (inl (1, h))
  mark_choice (begin_if h) = inr (inl (2, h))
  mark_choice otherwise = inr (inr 0)
  mark_choice close = inr (inr 1)

  -- the mark of a head by its number
  abbrev head : ℕ → H → Mark P H
  head zero h = begin block h
  head (suc zero) h = begin loop h
  head (suc (suc n)) h = begin_if h

  -- the mark without a head by its number
  abbrev bare : ℕ → Mark P H
  bare zero = otherwise
  bare (suc n) = close

  -- the mark of a choice
  abbrev of_mark_choice : MarkChoice P H → Mark P H
  of_mark_choice (inl p) = plain p
  of_mark_choice (inr (inl k)) = head k.0 k.1
  of_mark_choice (inr (inr n)) = bare n

  -- a mark is that of its choice
  pub mark-back : (m : Mark P H) → of_mark_choice (mark_choice m) ≡ m
  mark-back (plain p) = refl
  mark-back (begin block h) = refl
  mark-back (begin loop h) = refl
  mark-back (begin_if h) = refl
  mark-back otherwise = refl
  mark-back close = refl

  -- how a mark is stored
  abbrev pub mark_code : Coded P → Coded H → Coded (Mark P H)
  mark_code p h =
      code_by (MarkChoice P H) (coded⊎ p (coded⊎ (coded× coded_ℕ h) coded_ℕ)) mark_choice of_mark_choice mark-back

  -- how nested instructions are stored
  abbrev pub code_code : Coded P → Coded H → Coded (Code P H)
  code_code p h = code_by (List (Mark P H)) (coded_list (mark_code p h)) (λ c. flatten c) (λ ms. (built ms).last)
      (λ c. ap (λ (d : Draft P H). d.last) (built_flatten c))

  -- how a draft is stored
  abbrev pub draft_code : Coded P → Coded H → Coded (Draft P H)
  draft_code p h = code_by (List (Mark P H)) (coded_list (mark_code p h)) (λ d. upto d []) (λ ms. built ms)
      (λ d. built_upto d)
