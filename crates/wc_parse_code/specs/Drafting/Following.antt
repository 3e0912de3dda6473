-- What kept tokens add, one after the other.
use Rattle.std.specs.Prelude.{ℕ, List, [], ◌∷◌}
use Rattle.wc_syntax.specs.Standard.Deriving.{at, Event, kept}
use Rattle.wc_parse_code.specs.declared.body_draft.BodyDraft.{BodyDraft}
use Rattle.wc_parse_code.specs.declared.use_draft.UseDraft.{UseDraft}
use Rattle.wc_parse_code.specs.declared.word.Word.{Word}
use Rattle.wc_parse_code.specs.Drafting.Uses.{take_use}
use Rattle.wc_parse_code.specs.Drafting.Taking.{take}
use Rattle.wc_parse_code.specs.Standard.Productions.Tokens.{Said, ◌⊳◌}

-- to a body, each in its role
abbrev pub take_said : BodyDraft → List Said → BodyDraft
take_said d [] = d
take_said d (r ⊳ w ∷ us) = take_said (take d r w) us

-- to a type use
abbrev pub take_uses : UseDraft → List Said → UseDraft
take_uses u [] = u
take_uses u (r ⊳ w ∷ us) = take_uses (take_use u r w) us

-- to a body, where the words of a derivation are known by their numbers
abbrev pub take_all : (ℕ → Word) → BodyDraft → List Event → BodyDraft
take_all words d [] = d
take_all words d (kept r (at n t) ∷ es) = take_all words (take d r (words n)) es
