-- Bytes that stand for themselves.
use Rattle.std.proofs.Common.{◌≡◌, ℕ, ◌-◌, ◌<◌, ◌≤◌, false, List, [], ◌∷◌, ◌++◌, length, take, drop, get_or, arith}
use Rattle.std.proofs.Common.{refl, sym, ap, subst, ◌∙◌, append_assoc, length-append}
use Rattle.std.proofs.lemmas.Bool.Decides.{nat_tests}
use Rattle.std.proofs.lemmas.List.{take-append-drop}
use Rattle.wc_tokens.specs.declared.token.TokenKind.TheVariants.{Str}
use Rattle.wc_tokens.specs.Standard.Strings.{IsPlain, Elements, IsString}
use Rattle.wc_tokens.specs.Reading.Heads.{BeginsPlain}
use Rattle.wc_tokens.specs.Reading.Simple.{is_special}
use Rattle.wc_tokens.proofs.Decided.HeadLaws.{BeginsToken}
use Rattle.wc_tokens.proofs.Escapes.SimpleLaws.{Elements-plain}

pub plain-from : (c : ℕ) → is_special c ≡ false → IsPlain c
plain-from c e = (
  grind (arith, nat_tests),
  (λ g. grind (arith, nat_tests)),
  (λ g. grind (arith, nat_tests)),
  (λ g. grind (arith, nat_tests)),
)

-- plain bytes between two quotes
pub begins-plain : (here tail after rest : List ℕ) (first n : ℕ) → here ≡ first ∷ tail → first ≡ 34 → n ≤ length tail
    → ((k : ℕ) → k < n → IsPlain (get_or tail k 0)) → after ≡ drop n tail → after ≡ 34 ∷ rest → BeginsPlain here rest
begins-plain here tail after rest first n e f le plain g h =
    let whole : tail ≡ (take n tail ++ 34 ∷ []) ++ rest =
    sym (take-append-drop n tail) ∙ ap (λ (t : List ℕ). take n tail ++ t) (sym g ∙ h)
    ∙ sym (append_assoc (take n tail) (34 ∷ []) rest) in
    record {
      body = take n tail;
      text_is = e ∙ ap (λ (c : ℕ). c ∷ tail) f ∙ ap (λ (t : List ℕ). 34 ∷ t) whole;
      elements = Elements-plain tail n le plain;
    }

-- they are a token
abbrev pub plain-token : {here rest : List ℕ} → BeginsPlain here rest → BeginsToken Str here rest
plain-token b = (
  34 ∷ (b.body ++ 34 ∷ []),
  b.text_is,
  record { form = (b.body, record { body = b.body; text_is = refl; elements = b.elements }); apart = tt },
)

take-body : (xs ys : List ℕ) → take (length xs) (xs ++ ys) ≡ xs
take-body [] ys = refl
take-body (x ∷ xs) ys = ap (λ (t : List ℕ). x ∷ t) (take-body xs ys)

between : (body : List ℕ) (last : ℕ) → last ≡ length (34 ∷ (body ++ 34 ∷ [])) - 1
    → take (last - 1) (drop 1 (34 ∷ (body ++ 34 ∷ []))) ≡ body
between body last e =
    let n : last - 1 ≡ length body = omega (arith, e, length-append body (34 ∷ [])) in
    rw n (take-body body (34 ∷ []))

-- which stands for what is between its quotes
pub plain-part : {here rest : List ℕ} (b : BeginsPlain here rest) (text part : List ℕ) (last : ℕ)
    → text ≡ 34 ∷ (b.body ++ 34 ∷ []) → last ≡ length text - 1 → part ≡ take (last - 1) (drop 1 text)
    → IsString text part
plain-part b text part last e f g =
    let inner : take (last - 1) (drop 1 text) ≡ b.body =
    rw e (between b.body last (f ∙ ap (λ (t : List ℕ). length t - 1) e)) in
    record {
      body = b.body;
      text_is = e;
      elements = subst (λ (t : List ℕ). Elements b.body t) (sym (g ∙ inner)) b.elements;
    }
