-- What a style says of the bytes that it admits beside the canonical ones: that they are these, or that they are these
-- or longer.
use Rattle.std.specs.Prelude.{ℤ}
use Rattle.std.proofs.Common.{◌≡◌, ℕ, ◌^◌, ◌<◌, ◌≤◌, List, ◌++◌, length, inl, inr, refl, ap, arith}
use Rattle.std.proofs.lemmas.List.{length-append}
use Rattle.wc_leb128.specs.Standard.Integers.{U, S}
use Rattle.wc_leb128.specs.Standard.Shortest.{HoldsSigned}
use Rattle.wc_leb128.specs.Writing.Bytes.{unsigned_bytes, signed_bytes}
use Rattle.wc_leb128.proofs.Laws.SignedLaws.{spelled-holds}
use Rattle.wc_leb128.proofs.Writing.SignedShortest.{signed_bytes-spelled, signed_bytes-only, signed_bytes-or_longer}
use Rattle.wc_leb128.proofs.Laws.UnsignedLaws.{spelled-below}
use Rattle.wc_leb128.proofs.Writing.UnsignedShortest.{unsigned_bytes-spelled, unsigned_bytes-only}
use Rattle.wc_leb128.proofs.Writing.UnsignedShortest.{unsigned_bytes-or_longer}
use Rattle.wc_leb128.proofs.Writing.Lengths.{length-unsigned_bytes-mono}
use Rattle.wc_binary.specs.Standard.Style.{Style, free, canonical, IsShortest}
use Rattle.wc_binary.specs.Standard.Module.{IsOrLonger}

pub shortest-only : (N : ℕ) (b : List ℕ) (n : ℕ) → IsShortest U N b n → b ≡ unsigned_bytes n
shortest-only N b n h =
    unsigned_bytes-only N n b h.0 (h.1 (unsigned_bytes n) (unsigned_bytes-spelled N n (spelled-below N b n h.0)))

pub shortest-signed-only : (N : ℕ) (b : List ℕ) (z : ℤ) → IsShortest S N b z → b ≡ signed_bytes z
shortest-signed-only N b z h =
    signed_bytes-only N z b h.0 (h.1 (signed_bytes z) (signed_bytes-spelled N z (spelled-holds N b z h.0)))

-- `V c b`: what c is to the canonical bytes b
pub record Judges (s : Style) (V : List ℕ → List ℕ → Type 0) : Type 1 where
  pub same : (b : List ℕ) → V b b
  pub join : (a c x y : List ℕ) → V a x → V c y → V (a ++ c) (x ++ y)
  pub integer : (b : List ℕ) (n : ℕ) → s.Integer 32 b n → (n < 2 ^ 32) × V b (unsigned_bytes n)
  pub signed : (N : ℕ) (b : List ℕ) (z : ℤ) → s.Signed N b z → HoldsSigned N z × V b (signed_bytes z)
  -- content and its size before it
  pub size : (a c x : List ℕ) → s.Integer 32 a (length c) → V c x
      → (length x < 2 ^ 32) × V (a ++ c) (unsigned_bytes (length x) ++ x)
  -- a liberty that is taken, and makes the bytes longer
  pub liberty : (P : Type 0) (c b : List ℕ) → s.Neat P → (P → ⊥) → length b < length c → V c b
  pub equal : (c b : List ℕ) → c ≡ b → V c b
  pub longer : (c b : List ℕ) → V c b → length b ≤ length c

pub exact : Judges canonical (λ c b. c ≡ b)
exact = record {
  same = λ b. refl;
  join = λ a c x y e f. rw (e, f) refl;
  integer = λ b n h. (spelled-below 32 b n h.0, shortest-only 32 b n h);
  signed = λ N b z h. (spelled-holds N b z h.0, shortest-signed-only N b z h);
  size = λ a c x h e.
      let lt = spelled-below 32 a (length c) h.0 in
      let first = shortest-only 32 a (length c) h in
      (rw e at lt, rw (first, e) refl);
  liberty = λ P c b n no lt. absurd (no n);
  equal = λ c b e. e;
  longer = λ c b e. omega (arith, ap length e);
}

shorter-number : (b : List ℕ) (n : ℕ) → U 32 b n → (n < 2 ^ 32) × IsOrLonger b (unsigned_bytes n)
shorter-number b n h = (spelled-below 32 b n h, unsigned_bytes-or_longer 32 n b h)

or-longer : (c b : List ℕ) → IsOrLonger c b → length b ≤ length c
or-longer c b (inl e) = omega (arith, ap length e)
or-longer c b (inr lt) = omega arith

shorter-join : (a c x y : List ℕ) → IsOrLonger a x → IsOrLonger c y → IsOrLonger (a ++ c) (x ++ y)
shorter-join a c x y (inl e) (inl f) = inl (rw (e, f) refl)
shorter-join a c x y (inl e) (inr g) = inr (omega (arith, ap length e, length-append a c, length-append x y))
shorter-join a c x y (inr g) k = let l = or-longer c y k in inr (omega (arith, length-append a c, length-append x y))

-- a size is never shorter for longer content
shorter-size : (a c x : List ℕ) → U 32 a (length c) → IsOrLonger c x
    → (length x < 2 ^ 32) × IsOrLonger (a ++ c) (unsigned_bytes (length x) ++ x)
shorter-size a c x h (inl e) =
    let n = shorter-number a (length c) h in
    let l = ap length e in
    (omega (arith, n.0), shorter-join a c (unsigned_bytes (length x)) x (rw l at n.1) (inl e))
shorter-size a c x h (inr lt) =
    let n = shorter-number a (length c) h in
    let m = length-unsigned_bytes-mono (length x) (length c) (omega arith) in
    let l = or-longer a (unsigned_bytes (length c)) n.1 in
    (omega (arith, n.0), inr (omega (arith, length-append a c, length-append (unsigned_bytes (length x)) x)))

pub no_shorter : Judges free IsOrLonger
no_shorter = record {
  same = λ b. inl refl;
  join = shorter-join;
  integer = shorter-number;
  signed = λ N b z h. (spelled-holds N b z h, signed_bytes-or_longer N z b h);
  size = shorter-size;
  liberty = λ P c b n no lt. inr lt;
  equal = λ c b e. inl e;
  longer = or-longer;
}

-- The canonical bytes `w v` of each `v` that is `fit`, for what R relates to it in each style
pub record HasBytes {A : Type 0} (R : Style → List ℕ → A → Type 0) (Fits : A → Type 0) (w : A → List ℕ) : Type 1 where
  pub written : (v : A) → Fits v → R canonical (w v) v
  pub told : (s : Style) (V : List ℕ → List ℕ → Type 0) → Judges s V → (b : List ℕ) (v : A) → R s b v
      → Fits v × V b (w v)
