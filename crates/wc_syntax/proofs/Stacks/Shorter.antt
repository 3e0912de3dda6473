-- What begins what begins a sentence begins it too.
use Rattle.std.proofs.Common.{arith, ◌≡◌, ℕ, ◌≤◌, List, [], ◌∷◌, ◌++◌, length, take, drop, sym, ap, ◌∙◌}
use Rattle.std.proofs.lemmas.List.{take-append-drop, take-append-le, length-take-le}
use Rattle.wc_syntax.specs.Standard.Phrases.{Phrase}
use Rattle.wc_syntax.specs.Standard.Deriving.{Item, terminal_of, Event, kept, Begins}
use Rattle.wc_syntax.proofs.Stacks.Run.{Mode, Cut, Run, end, cut, r-empty, r-token, r-keeps, r-then, r-left, r-right}
use Rattle.wc_syntax.proofs.Stacks.Run.{r-none, r-more, r-rule, begun, front}

-- a stack that reads tokens reads those at their front
shortened : {m : Mode} {k : List Phrase} {ws : List Item} {es : List Event} → Run m k ws es → (us vs : List Item)
    → ws ≡ us ++ vs → (fs : List Event) × Run Cut k us fs
shortened end [] vs e = ([], cut)
shortened end (u ∷ us) vs e = absurd cc
shortened cut [] vs e = ([], cut)
shortened cut (u ∷ us) vs e = absurd cc
shortened (r-empty r) us vs e = let w = shortened r us vs e in (w.0, r-empty w.1)
shortened (r-token h r) [] vs e = ([], cut)
shortened (r-token {i = i} {us = ws} h r) (u ∷ us) vs e =
    let f : i ≡ u = cc in
    let g : ws ≡ us ++ vs = cc in
    let w = shortened r us vs g in (w.0, r-token (ap (λ (x : Item). terminal_of x) (sym f) ∙ h) w.1)
shortened (r-keeps h r) [] vs e = ([], cut)
shortened (r-keeps {r = o} {i = i} {us = ws} h r) (u ∷ us) vs e =
    let f : i ≡ u = cc in
    let g : ws ≡ us ++ vs = cc in
    let w = shortened r us vs g in (kept o u ∷ w.0, r-keeps (ap (λ (x : Item). terminal_of x) (sym f) ∙ h) w.1)
shortened (r-then r) us vs e = let w = shortened r us vs e in (w.0, r-then w.1)
shortened (r-left r) us vs e = let w = shortened r us vs e in (w.0, r-left w.1)
shortened (r-right r) us vs e = let w = shortened r us vs e in (w.0, r-right w.1)
shortened (r-none r) us vs e = let w = shortened r us vs e in (w.0, r-none w.1)
shortened (r-more r) us vs e = let w = shortened r us vs e in (w.0, r-more w.1)
shortened (r-rule r) us vs e = let w = shortened r us vs e in (w.0, r-rule w.1)

pub begins-front : {g : Phrase} {ws : List Item} → Begins g ws → (n : ℕ) → Begins g (take n ws)
begins-front {ws = ws} h n =
    let w = begun h [] in
    let q = shortened w.1 (take n ws) (drop n ws) (sym (take-append-drop n ws)) in front q.1

-- the front of a longer front
pub take-longer : (n m : ℕ) (ws : List Item) → n ≤ m → m ≤ length ws → take n (take m ws) ≡ take n ws
take-longer n m ws l h =
    sym (take-append-le n (take m ws) (drop m ws) (omega (arith, length-take-le m ws h)))
    ∙ ap (λ (x : List Item). take n x) (take-append-drop m ws)
