-- What a row of letters (bytes, tokens) spells: by concatenation, the letters of each part in turn.
use Rattle.std.specs.Prelude.{◌≡◌, ◌≢◌, ◌⊎◌, List, [], ◌∷◌, ◌++◌}
use Rattle.wc_body.specs.Standard.Nested.{Region, Code, empty, op, region, choice}
use Rattle.wc_body.specs.Standard.Draft.{Frame, in_region, in_then, in_else, Draft}

-- Which letters may stand for each part. A neat grammar asks that no else part is spelled where it is empty: Neat Q is
-- then Q, and else it always holds.
pub record Grammar (A P H : Type 0) : Type 1 where
  pub Plain : List A → P → Type 0
  pub Begin : List A → Region → H → Type 0
  pub BeginIf : List A → H → Type 0
  pub Else : List A → H → Type 0
  pub End : List A → H → Type 0
  pub Neat : Type 0 → Type 0

module _ {A P H : Type 0} (g : Grammar A P H) where
  -- the letters spell the instructions
  abbrev pub Spells : List A → Code P H → Type 0
  Spells a empty = a ≡ []
  Spells a (op p next) = (b : List A) × (c : List A) × (a ≡ b ++ c) × g.Plain b p × Spells c next
  Spells a (region r h inside next) =
      (b : List A) × (c : List A) × (d : List A) × (e : List A) × (a ≡ b ++ (c ++ (d ++ e)))
      × g.Begin b r h × Spells c inside × g.End d h × Spells e next
  Spells a (choice h first second next) =
      (b : List A) × (c : List A) × (s : List A) × (d : List A) × (e : List A) × (a ≡ b ++ (c ++ (s ++ (d ++ e))))
      × g.BeginIf b h × Spells c first
      × (((s ≡ []) × (second ≡ empty))
      ⊎ ((t : List A) × (u : List A) × (s ≡ t ++ u) × g.Else t h × Spells u second × g.Neat (second ≢ empty)))
      × g.End d h × Spells e next

  -- the letters spell what is open, up to the innermost one's first instruction
  abbrev pub Opens : List A → List (Frame P H) → Type 0
  Opens a [] = a ≡ []
  Opens a (in_region before r h ∷ around) =
      (b : List A) × (c : List A) × (d : List A) × (a ≡ b ++ (c ++ d))
      × Opens b around × Spells c before × g.Begin d r h
  Opens a (in_then before h ∷ around) =
      (b : List A) × (c : List A) × (d : List A) × (a ≡ b ++ (c ++ d))
      × Opens b around × Spells c before × g.BeginIf d h
  Opens a (in_else before h first ∷ around) =
      (b : List A) × (c : List A) × (d : List A) × (e : List A) × (f : List A) × (a ≡ b ++ (c ++ (d ++ (e ++ f))))
      × Opens b around × Spells c before × g.BeginIf d h × Spells e first × g.Else f h

  -- the letters spell unfinished instructions
  abbrev pub SpellsDraft : List A → Draft P H → Type 0
  SpellsDraft a d = (b : List A) × (c : List A) × (a ≡ b ++ c) × Opens b d.around × Spells c d.last
