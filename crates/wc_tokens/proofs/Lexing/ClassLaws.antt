-- The table of classes is held against the definitions at each of the 256 bytes, by computing.
use Rattle.std.proofs.Common.{◌≡◌, ℕ, ◌<◌, nat_eq, Bool, true, List, get_or}
use Rattle.std.proofs.lemmas.Bool.{agree_below, agree_below_at}

pub from_table : (table : List ℕ) (letter : ℕ) (has : ℕ → Bool) (c : ℕ) → c < 256
    → agree_below (λ k. nat_eq (get_or table k 0) letter) has 256 ≡ true → nat_eq (get_or table c 0) letter ≡ has c
from_table table letter has c l h = agree_below_at (λ k. nat_eq (get_or table k 0) letter) has 256 c h l
