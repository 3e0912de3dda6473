-- Bytes that were put behind others.
use Rattle.std.specs.Prelude.{Result, Ok, Err, OnOk}
use Rattle.std.proofs.Common.{◌≡◌, ℕ, ◌+◌, ◌/◌, ◌%◌, ◌<◌, ◌≤◌, Bool, List, [], ◌∷◌, ◌++◌, append_assoc, length}
use Rattle.std.proofs.Common.{refl, ap, sym, ◌∙◌, arith}
use Rattle.std.proofs.lemmas.List.{append-nil}
use Rattle.std.specs.List.{AllByRecursion, flat_map}
use Rattle.wc_leb128.specs.Writing.Bytes.{unsigned_bytes, signed_bytes, signed_of, group_of}
use Rattle.wc_leb128.proofs.Writing.SignedShortest.{signed_bytes-low, signed_bytes-high}
use Rattle.wc_leb128.proofs.Writing.UnsignedShortest.{unsigned_bytes-low, unsigned_bytes-high}
use Rattle.wc_body.specs.Standard.ValueBytes.{vector_bytes, Fits32}

-- a number of two groups of bits: as they are, or each turned over
pub signed-two : (s : Bool) (b : ℕ) → 64 ≤ b → b < 8192
    → signed_bytes (signed_of s b) ≡ (128 + group_of s (b % 128)) ∷ group_of s (b / 128) ∷ []
signed-two s b le lt = signed_bytes-high s b le
    ∙ ap (λ (x : List ℕ). (128 + group_of s (b % 128)) ∷ x) (signed_bytes-low s (b / 128) (omega arith))

-- one by one is all at once
pub three : (old : List ℕ) (a b c : ℕ) → ((old ++ a ∷ []) ++ b ∷ []) ++ c ∷ [] ≡ old ++ a ∷ b ∷ c ∷ []
three old a b c = simp append_assoc

pub four : (old : List ℕ) (a b c d : ℕ)
    → (((old ++ a ∷ []) ++ b ∷ []) ++ c ∷ []) ++ d ∷ [] ≡ old ++ a ∷ b ∷ c ∷ d ∷ []
four old a b c d = simp append_assoc

-- a number of two groups
pub two-bytes : (n : ℕ) → 128 ≤ n → n < 16384 → unsigned_bytes n ≡ (128 + n % 128) ∷ n / 128 ∷ []
two-bytes n le lt = unsigned_bytes-high n le
    ∙ ap (λ (x : List ℕ). (128 + n % 128) ∷ x) (unsigned_bytes-low (n / 128) (omega arith))

-- ---- numbers written one after the other

pub next-written : (ns table new front : List ℕ) (n : ℕ) → table ≡ front ++ flat_map unsigned_bytes ns
    → new ≡ table ++ unsigned_bytes n → new ≡ front ++ flat_map unsigned_bytes (ns ++ n ∷ [])
next-written ns table new front n e h = rw (h, e) (append_assoc front (flat_map unsigned_bytes ns) (unsigned_bytes n)
    ∙ ap (λ (x : List ℕ). front ++ x) (sym (flat_map-last ns n)))
  where
    flat_map-last : (ns : List ℕ) (n : ℕ) → flat_map unsigned_bytes (ns ++ n ∷ [])
        ≡ flat_map unsigned_bytes ns ++ unsigned_bytes n
    flat_map-last [] n = append-nil (unsigned_bytes n)
    flat_map-last (m ∷ ns) n = ap (λ (x : List ℕ). unsigned_bytes m ++ x) (flat_map-last ns n)
        ∙ sym (append_assoc (unsigned_bytes m) (flat_map unsigned_bytes ns) (unsigned_bytes n))

pub next-fits : (ns : List ℕ) (n : ℕ) → AllByRecursion Fits32 ns → Fits32 n → AllByRecursion Fits32 (ns ++ n ∷ [])
next-fits [] n all f = (f, tt)
next-fits (m ∷ ns) n all f = (all.0, next-fits ns n all.1 f)

pub table-put : {E : Type 0} (r : Result (Unit {0}) E) (old new table last ns ls : List ℕ) (default : ℕ)
    → OnOk r (new ≡ old ++ 0x0E ∷ (table ++ last))
    → table ≡ unsigned_bytes (length ls) ++ flat_map unsigned_bytes ns → ns ≡ ls → last ≡ unsigned_bytes default
    → OnOk r (new ≡ old ++ 0x0E ∷ (vector_bytes unsigned_bytes ls ++ unsigned_bytes default))
table-put (Ok u) old new table last ns ls default h t n d = rw (h, t, n, d) refl
table-put (Err e) old new table last ns ls default h t n d = tt

-- all of them were taken
pub none-left : (ns rest ls : List ℕ) → ns ++ rest ≡ ls → rest ≡ [] → ns ≡ ls
none-left ns rest ls e h = sym (append-nil ns) ∙ rw h at e

pub on-ok : {E F : Type 0} (r : Result (Unit {0}) E) → F → OnOk r F
on-ok (Ok u) f = f
on-ok (Err e) f = tt
