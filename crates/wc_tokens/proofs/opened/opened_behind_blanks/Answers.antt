use Rattle.std.proofs.Common.{◌≡◌, ◌∷◌, ℕ, List, ◌++◌, length, take, drop, sym, ap, ◌∙◌, subst, rules}
use Rattle.std.specs.Cmp.Lexicographic.{same_text}
use Rattle.std.proofs.lemmas.List.{take-append-drop}
use Rattle.wc_tokens.specs.declared.token.TokenKind.TheVariants.{Word}
use Rattle.wc_tokens.specs.Standard.Lexemes.{IsRun, BeginsNoIdchar}
use Rattle.wc_tokens.proofs.opened.opened_behind_blanks.Goals as goal

pub returns : goal.returns
returns c =
    let e = c.in_ok-front.ensures {u = tt} in
    let front = c.in_ok-front.front in
    let first : front.first ≡ 40 = search rules in
    let cut = (c.in_ok-rest.ensures {u = tt}).cases in
    let word = c.args.word.now in
    let text = front.rest.now in
    let behind = drop (length word) text in
    let ended : BeginsNoIdchar c.in_ok-rest.rest.now = search rules in
    let run : IsRun Word word = search rules in
    record {
      gaps = e.0;
      opens = subst (λ (x : ℕ). front.here.now ≡ x ∷ text) first e.1.here_is;
      inside_is =
          sym (take-append-drop (length word) text)
          ∙ ap (λ (t : List ℕ). t ++ behind) (same_text (take (length word) text) word (sym cut.0))
          ∙ ap (λ (t : List ℕ). word ++ t) (sym cut.1);
      run = run;
      ended = ended;
    }
