-- The kept tokens of a printed text as the fields of a text take them.
use Rattle.std.specs.Prelude.{ℕ, List, [], ◌∷◌}
use Rattle.wc_readback.specs.Grammar.Kept.{Said}
use Rattle.wc_parse_code.specs.declared.word.Word.{Word}
use Rattle.wc_parse_code.specs.declared.body_draft.BodyDraft.{BodyDraft}
use Rattle.wc_parse_code.specs.Drafting.Taking.{take}

-- a kept token, whose bytes stand at an address
abbrev pub word_of : (ℕ → ℕ × ℕ) → Said → Word
word_of addresses s =
    record { token = s.at; symbol = s.symbol; text = s.text }

-- one after the other
abbrev pub taken : (ℕ → ℕ × ℕ) → BodyDraft → List Said → BodyDraft
taken addresses d [] = d
taken addresses d (s ∷ later) = taken addresses (take d s.role (word_of addresses s)) later
