-- Lemmas on rows of calls.
use Rattle.std.proofs.Common.{◌≡◌, ℕ, ◌+◌, ◌-◌, ◌<◌, List, take, drop, length, Result, Ok, subst}
use Rattle.std.proofs.Common.{arith, length-drop}
use Rattle.std.proofs.lemmas.List.{take_all}
use Rattle.std.specs.declared.io.Error.{Error}
use Rattle.wc_device.specs.Standard.WriteCalls.{Taken, more}

-- what stands behind the first bytes
rest : (n : ℕ) (xs : List ℕ) → take (length xs - n) (drop n xs) ≡ drop n xs
rest n xs = take_all (length xs - n) (drop n xs) (omega (arith, length-drop n xs))

-- one more write took some
pub taken_more : {W : Type 0} (writes : W → List ℕ → Result ℕ Error → W → Type 0) (w u v : W) (n m : ℕ) (xs : List ℕ)
    → Taken writes w xs n u → n < length xs → 0 < m → writes u (take (length xs - n) (drop n xs)) (Ok m) v
    → Taken writes w xs (n + m) v
taken_more writes w u v n m xs h l p k =
    more n m u v h l p (subst (λ (x : List ℕ). writes u x (Ok m) v) (rest n xs) k)
