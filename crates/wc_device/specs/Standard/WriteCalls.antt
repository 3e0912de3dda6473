-- Rows of calls of a writer. writes w bytes r v says that one write of the bytes, asked of w, answered r and left v;
-- flushes w r v says so of a flush.
use Rattle.std.specs.Prelude.{◌≡◌, ℕ, ◌+◌, ◌-◌, ◌<◌, List, length, take, drop, Result, Ok, IfOk, IsOk, IsErr}
use Rattle.std.specs.Prelude.{MatchResult}
use Rattle.std.specs.declared.io.Error.{Error}
use Rattle.wc_device.specs.Standard.Device.{countable}

-- writes took the first bytes, so many of them, and left v: each was asked for all that were left, and took some
pub data Taken {W : Type 0} (writes : W → List ℕ → Result ℕ Error → W → Type 0) (w : W) (bytes : List ℕ) :
    ℕ → W → Type 0 where
  none : Taken writes w bytes 0 w
  more : (n m : ℕ) (u v : W) → Taken writes w bytes n u → n < length bytes → 0 < m → writes u (drop n bytes) (Ok m) v
      → Taken writes w bytes (n + m) v

-- writes took the first n bytes, and the next one, which was the last, failed or took none
abbrev pub Stopped : {W : Type 0} → (W → List ℕ → Result ℕ Error → W → Type 0) → W → List ℕ → ℕ → W → Type 0
Stopped {W} writes w bytes n v = (u : W) × (last : Result ℕ Error) × Taken writes w bytes n u × (n < length bytes)
    × writes u (drop n bytes) last v × IfOk last (λ m. m ≡ 0)

-- writes took all the bytes, or stopped behind so many
abbrev pub WritesAll : {W : Type 0} → (W → List ℕ → Result ℕ Error → W → Type 0) → W → List ℕ
    → Result (Unit {0}) ℕ → W → Type 0
WritesAll writes w bytes result v =
    MatchResult result (λ _. Taken writes w bytes (length bytes) v) (λ n. Stopped writes w bytes n v)

-- the same of the bytes that can be counted behind so many that went out before: the answer counts these too
abbrev pub WritesBehind : {W : Type 0} → (W → List ℕ → Result ℕ Error → W → Type 0) → W → ℕ → List ℕ
    → Result ℕ ℕ → W → Type 0
WritesBehind writes w before bytes result v =
    let front : List ℕ = take (countable (length bytes) before) bytes in
    MatchResult result (λ _. Taken writes w front (length front) v)
    (λ n. (n < before + length front → Stopped writes w front (n - before) v)
    × (n ≡ before + length front → Taken writes w front (length front) v))

-- writes took all the bytes, and one flush answered so
abbrev pub Flushed : {W : Type 0} → (W → List ℕ → Result ℕ Error → W → Type 0)
    → (W → Result (Unit {0}) Error → W → Type 0) → W → List ℕ → (Result (Unit {0}) Error → Type 0) → W → Type 0
Flushed {W} writes flushes w bytes answered v = (u : W) × (last : Result (Unit {0}) Error)
    × Taken writes w bytes (length bytes) u × flushes u last v × answered last

-- writes took all the bytes, and one flush was well or failed; or they stopped behind so many, and there was no flush
abbrev pub SendsAll : {W : Type 0} → (W → List ℕ → Result ℕ Error → W → Type 0)
    → (W → Result (Unit {0}) Error → W → Type 0) → W → List ℕ → Result (Unit {0}) ℕ → W → Type 0
SendsAll writes flushes w bytes result v =
    MatchResult result (λ _. Flushed writes flushes w bytes IsOk v)
    (λ n. (n < length bytes → Stopped writes w bytes n v)
    × (n ≡ length bytes → Flushed writes flushes w bytes IsErr v))
