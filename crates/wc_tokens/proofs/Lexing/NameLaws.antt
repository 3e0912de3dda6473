-- Bytes of an identifier.
use Rattle.std.proofs.Common.{◌≡◌, ℕ, ◌<◌, ◌||◌, true, false, refl, sym, ap, ◌∙◌}
use Rattle.std.proofs.lemmas.Bool.{agree_below, agree_below_at}
use Rattle.wc_tokens.specs.Standard.Lexemes.{is_idchar, IsIdchar}
use Rattle.wc_tokens.specs.Reading.Heads.{is_rare}

-- each byte is rare or an idchar
rare-or-idchar : agree_below (λ c. is_rare c || is_idchar c) (λ _. true) 256 ≡ true
unfolding is_idchar
rare-or-idchar = refl

pub idchar-from : (c : ℕ) → c < 256 → is_rare c ≡ false → IsIdchar c
idchar-from c byte e =
    sym (ap (λ b. b || is_idchar c) e) ∙ agree_below_at (λ c. is_rare c || is_idchar c) (λ _.
    true) 256 c rare-or-idchar byte
