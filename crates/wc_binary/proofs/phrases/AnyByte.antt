-- A byte by itself.
use Rattle.std.proofs.Common.{◌≡◌, ℕ, nat_lt, Bool, true, false, Result, Ok, Err, refl}
use Rattle.std.proofs.lemmas.Bool.{lt-ltb, ltb-true}
use Rattle.wc_binary.specs.declared.fault.BinWhy.{BinWhy}
use Rattle.wc_binary.specs.declared.fault.BinWhy.TheVariants.{End}
use Rattle.wc_binary.specs.Standard.Values.{IsByte, byte_itself}

-- a byte stands for itself
pub byte-stands : (x : ℕ) → IsByte x → byte_itself x ≡ Ok x
byte-stands x h = rw (lt-ltb x 256 h) refl

abbrev stands_for : ℕ → Result ℕ BinWhy
stands_for v = Ok v

abbrev missing : Result ℕ BinWhy
missing = Err End

-- what stands for a value is that value, and a byte
pub byte-told : (x v : ℕ) → byte_itself x ≡ Ok v → (x ≡ v) × IsByte x
byte-told x v h = go (nat_lt x 256) refl
  where
    go : (t : Bool) → nat_lt x 256 ≡ t → (x ≡ v) × IsByte x
    go true e = let k : stands_for x ≡ stands_for v = rw e at h in (cc, ltb-true x 256 e)
    go false e = let k : missing ≡ stands_for v = rw e at h in absurd cc
