-- How many groups of seven bits a number has, by its highest bit.
use Rattle.std.proofs.Common.{◌≡◌, ℕ, suc, ◌+◌, ◌-◌, ◌*◌, ◌/◌, ◌^◌, ◌<◌, ◌≤◌, arith}
use Rattle.std.proofs.Math.Pow.{pow_mono}
use Rattle.wc_leb128.specs.Reading.Respelled.{HasGroups, HasSignedGroups}

-- j is the place of the highest bit of m, which is n, or 1 where that is 0
module _ (n m j : ℕ) (le : n ≤ m) (same : 1 < m → m ≡ n) (low : 2 ^ j ≤ m) (high : m < 2 ^ suc j) where
  pub has-groups : HasGroups n ((j + 7) / 7)
  has-groups =
      let up : 2 ^ suc j ≤ 2 ^ (7 * ((j + 7) / 7)) = pow_mono (omega arith) in record {
        some = omega arith;
        enough = omega (arith, up, le, high);
        needed = λ k more.
            let down : 2 ^ (7 * suc k) ≤ 2 ^ j = pow_mono (omega (arith, more)) in
            let one : 2 ^ 1 ≤ 2 ^ j = pow_mono {i = 1} {j = j} (omega (arith, more)) in
            let is = same (omega (arith, one, low)) in
            omega (arith, down, low, is);
      }

  pub has-signed-groups : HasSignedGroups n ((j + 8) / 7)
  has-signed-groups =
      let up : 2 ^ suc j ≤ 2 ^ (7 * ((j + 8) / 7) - 1) = pow_mono (omega arith) in record {
        some = omega arith;
        enough = omega (arith, up, le, high);
        needed = λ k more.
            let down : 2 ^ (7 * suc k - 1) ≤ 2 ^ j = pow_mono (omega (arith, more)) in
            let one : 2 ^ 1 ≤ 2 ^ j = pow_mono {i = 1} {j = j} (omega (arith, more)) in
            let is = same (omega (arith, one, low)) in
            omega (arith, down, low, is);
      }
