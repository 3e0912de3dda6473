-- Integers that bytes begin with, spelled by the fewest bytes.
use Rattle.std.specs.Prelude.{ℤ, pos, negsuc, IfSome}
use Rattle.std.proofs.Common.{◌≡◌, ℕ, zero, suc, ◌+◌, ◌-◌, ◌*◌, ◌/◌, ◌%◌, ◌^◌, ◌<◌, ◌≤◌, Bool, true, false, List, []}
use Rattle.std.proofs.Common.{◌∷◌, ◌++◌}
use Rattle.std.proofs.Common.{length, inl, inr, refl, sym, ap, ◌∙◌, arith}
use Rattle.std.proofs.lemmas.Bool.{cases_lt}
use Rattle.std.proofs.lemmas.List.{append_assoc}
use Rattle.std.proofs.lemmas.Int.{ints}
use Rattle.wc_leb128.specs.Standard.Shortest.{HoldsSigned}
use Rattle.wc_leb128.specs.Writing.Bytes.{unsigned_bytes, signed_bytes, signed_of, group_of}
use Rattle.wc_leb128.proofs.Writing.UnsignedShortest.{unsigned_bytes-low}
use Rattle.wc_leb128.proofs.Writing.SignedShortest.{signed_bytes-low, signed_bytes-high}
use Rattle.wc_body.proofs.Packing.PutBytes.{two-bytes, signed-two}
use Rattle.wc_body.specs.Standard.ValueBytes.{Fits32}
use Rattle.std.specs.Prelude.{Option, Some, None}
use Rattle.std.specs.Borrow.{Bor}
use Rattle.wc_body.specs.Drafting.AtFront.{IsSpelled, AreLast, AreLastOf32, IsSplit, IsLongSplit}

positive : (c : ℕ) → (c ≡ 0 → ⊥) → 0 < c
positive c some = elim (cases_lt 0 c) [
  | inl lt ↦ lt
  | inr le ↦ absurd (some (omega arith))
]

-- one of one byte
pub unsigned-one : (x rest : List ℕ) (b n : ℕ) → x ≡ b ∷ rest → n ≡ b → b < 128
    → (x ≡ unsigned_bytes n ++ rest) × Fits32 n
unsigned-one x rest b n e same lt = rw (e, same, unsigned_bytes-low b lt) (refl, omega arith)

-- one of two bytes
pub unsigned-two : (x mid rest : List ℕ) (b c n : ℕ) → x ≡ b ∷ mid → mid ≡ c ∷ rest → n ≡ b - 128 + 128 * c
    → 128 ≤ b → b < 256 → (c ≡ 0 → ⊥) → c < 128 → (x ≡ unsigned_bytes n ++ rest) × Fits32 n
unsigned-two x mid rest b c n e f same le lt some low =
    let least : 0 < c = positive c some in
    let two = two-bytes n (omega (arith, same, least)) (omega (arith, same)) in
    let first : 128 + n % 128 ≡ b = omega (arith, same) in
    let second : n / 128 ≡ c = omega (arith, same) in
    (rw (e, f, two, first, second) refl, omega (arith, same))

-- both widths hold it
abbrev pub IsHeld : ℤ → Type 0
IsHeld z = HoldsSigned 32 z × HoldsSigned 64 z

pub signed-held : (s : Bool) (n : ℕ) → n < 2 ^ 31 → IsHeld (signed_of s n)
signed-held false n lt = ((omega (arith, ints), omega (arith, ints)), (omega (arith, ints), omega (arith, ints)))
signed-held true n lt = ((omega (arith, ints), omega (arith, ints)), (omega (arith, ints), omega (arith, ints)))

-- a byte below 128 spells one
pub spelled-one : (b : ℕ) → b < 128 → IsSpelled (b ∷ [])
spelled-one b lt = elim (cases_lt b 64) [
  | inl low ↦
      let held = signed-held false b (omega arith) in
      (pos b, sym (signed_bytes-low false b low), held.0, held.1)
  | inr high ↦
      let low = signed_bytes-low true (127 - b) (omega arith) in
      let same : 127 - (127 - b) ≡ b = omega arith in
      let held = signed-held true (127 - b) (omega arith) in
      (negsuc (127 - b), sym (low ∙ ap (λ (n : ℕ). n ∷ []) same), held.0, held.1)
]

-- two bytes that spell one by so few bits
pub last-two-of-32 : (s : Bool) (n b c : ℕ) → 64 ≤ n → n < 2 ^ 10 → 128 + group_of s (n % 128) ≡ b
    → group_of s (n / 128) ≡ c → AreLastOf32 b c
last-two-of-32 s n b c le lt first second =
    (s, n, rw (← first, ← second) (sym (signed-two s n le (omega (arith, lt)))), le, lt)

-- two bytes that spell one by so many bits
pub last-two : (s : Bool) (n b c : ℕ) → 64 ≤ n → n < 2 ^ 13 → 128 + group_of s (n % 128) ≡ b → group_of s (n / 128) ≡ c
    → AreLast b c
last-two s n b c le lt first second = (s, n, rw (← first, ← second) (sym (signed-two s n le lt)), le, lt)

-- the bytes are those of a number of some bits, fewer than so many
abbrev HasBits : List ℕ → Bool → ℕ → ℕ → Type 0
HasBits x s n limit = (x ≡ signed_bytes (signed_of s n)) × (64 ≤ n) × (n < limit)

bits-spell : (x : List ℕ) (s : Bool) (n : ℕ) → HasBits x s n (2 ^ 31) → IsSpelled x
bits-spell x s n h = let held = signed-held s n h.2 in (signed_of s n, h.0, held.0, held.1)

-- seven bits more in front
abbrev more_bits : Bool → ℕ → ℕ → ℕ
more_bits s b n = group_of s (b - 128) + 128 * n

one-more : (s : Bool) (b : ℕ) (x : List ℕ) (n limit : ℕ) → 128 ≤ b → b < 256 → HasBits x s n limit
    → HasBits (b ∷ x) s (more_bits s b n) (128 * limit)
one-more false b x n limit le lt h =
    let m = more_bits false b n in
    let high : 64 ≤ m = omega (arith, h.1) in
    let low : 128 + m % 128 ≡ b = omega arith in
    let rest : m / 128 ≡ n = omega arith in
    (rw (h.0, signed_bytes-high false m high, low, rest) refl, high, omega (arith, h.2))
one-more true b x n limit le lt h =
    let m = more_bits true b n in
    let high : 64 ≤ m = omega (arith, h.1) in
    let low : 128 + (127 - m % 128) ≡ b = omega arith in
    let rest : m / 128 ≡ n = omega arith in
    (rw (h.0, signed_bytes-high true m high, low, rest) refl, high, omega (arith, h.2))

-- where something follows
abbrev pub Following : Type 0
Following = Option (Bor (List ℕ))

-- these follow, and the two bytes before them are the last of an integer
abbrev FollowsLast : List ℕ → ℕ → ℕ → Following → Type 0
FollowsLast rest b c r = IfSome r (λ left. (left.now ≡ rest) × AreLast b c)

-- integers of two to four bytes
pub two-found : (a b : ℕ) (x rest : List ℕ) → x ≡ b ∷ rest → (r : Following) → FollowsLast rest a b r
    → IfSome r (λ left. IsSplit (a ∷ x) left.now)
two-found a b x rest e None h = tt
two-found a b x rest e (Some left) h =
    let l = h.1 in
    let two = bits-spell (a ∷ b ∷ []) l.0 l.1 (l.2, l.3, omega (arith, l.4)) in
    rw (e, h.0) (a ∷ b ∷ [], refl, two)

pub three-found : (a b c : ℕ) (x y rest : List ℕ) → x ≡ b ∷ y → y ≡ c ∷ rest → 128 ≤ a → a < 256 → (r : Following)
    → FollowsLast rest b c r → IfSome r (λ left. IsSplit (a ∷ x) left.now)
three-found a b c x y rest e f le lt None h = tt
three-found a b c x y rest e f le lt (Some left) h =
    let l = h.1 in
    let one = one-more l.0 a (b ∷ c ∷ []) l.1 (2 ^ 13) le lt (l.2, l.3, l.4) in
    let three = bits-spell (a ∷ b ∷ c ∷ []) l.0 (more_bits l.0 a l.1) (one.0, one.1, omega (arith, one.2)) in
    rw (e, f, h.0) (a ∷ b ∷ c ∷ [], refl, three)

pub four-found : (a b c d : ℕ) (x y z rest : List ℕ) → x ≡ b ∷ y → y ≡ c ∷ z → z ≡ d ∷ rest → 128 ≤ a → a < 256
    → 128 ≤ b → b < 256 → (r : Following) → FollowsLast rest c d r → IfSome r (λ left. IsSplit (a ∷ x) left.now)
four-found a b c d x y z rest e f g le lt more small None h = tt
four-found a b c d x y z rest e f g le lt more small (Some left) h =
    let l = h.1 in
    let one = one-more l.0 b (c ∷ d ∷ []) l.1 (2 ^ 13) more small (l.2, l.3, l.4) in
    let bits = more_bits l.0 b l.1 in
    let two = one-more l.0 a (b ∷ c ∷ d ∷ []) bits (128 * 2 ^ 13) le lt one in
    let four = bits-spell (a ∷ b ∷ c ∷ d ∷ []) l.0 (more_bits l.0 a bits) (two.0, two.1, omega (arith, two.2)) in
    rw (e, f, g, h.0) (a ∷ b ∷ c ∷ d ∷ [], refl, four)

pub five-found : (a b c d e : ℕ) (x y z u rest : List ℕ) → x ≡ b ∷ y → y ≡ c ∷ z → z ≡ d ∷ u → u ≡ e ∷ rest
    → 128 ≤ a → a < 256 → 128 ≤ b → b < 256 → 128 ≤ c → c < 256 → (f : Following)
    → IfSome f (λ left. (left.now ≡ rest) × AreLastOf32 d e) → IfSome f (λ left. IsSplit (a ∷ x) left.now)
five-found a b c d e x y z u rest p q r t la ha lb hb lc hc None h = tt
five-found a b c d e x y z u rest p q r t la ha lb hb lc hc (Some left) h =
    let l = h.1 in
    let one = one-more l.0 c (d ∷ e ∷ []) l.1 (2 ^ 10) lc hc (l.2, l.3, l.4) in
    let two = one-more l.0 b (c ∷ d ∷ e ∷ []) (more_bits l.0 c l.1) (128 * 2 ^ 10) lb hb one in
    let bits = more_bits l.0 b (more_bits l.0 c l.1) in
    let three = one-more l.0 a (b ∷ c ∷ d ∷ e ∷ []) bits (128 * (128 * 2 ^ 10)) la ha two in
    let all = a ∷ b ∷ c ∷ d ∷ e ∷ [] in
    let spelled = bits-spell all l.0 (more_bits l.0 a bits) (three.0, three.1, omega (arith, three.2)) in
    rw (p, q, r, t, h.0) (all, refl, spelled)

-- each of these goes on
pub data Going : List ℕ → Type 0 where
  ends : Going []
  goes : (b : ℕ) (x : List ℕ) → 128 ≤ b → b < 256 → Going x → Going (b ∷ x)

pub going-on : (x : List ℕ) (b : ℕ) → Going x → 128 ≤ b → b < 256 → Going (x ++ b ∷ [])
going-on [] b ends le lt = goes b [] le lt ends
going-on (a ∷ x) b (goes _ _ high low going) le lt = goes a (x ++ b ∷ []) high low (going-on x b going le lt)

-- so many bits less one have as many bytes in front of the last two
abbrev limit : ℕ → ℕ
limit zero = 2 ^ 13
limit (suc k) = 128 * limit k

limit-most : (k : ℕ) → k ≤ 7 → limit k ≤ 2 ^ 62
limit-most zero le = omega arith
limit-most (suc zero) le = omega arith
limit-most (suc (suc zero)) le = omega arith
limit-most (suc (suc (suc zero))) le = omega arith
limit-most (suc (suc (suc (suc zero)))) le = omega arith
limit-most (suc (suc (suc (suc (suc zero))))) le = omega arith
limit-most (suc (suc (suc (suc (suc (suc zero)))))) le = omega arith
limit-most (suc (suc (suc (suc (suc (suc (suc zero))))))) le = omega arith
limit-most (suc (suc (suc (suc (suc (suc (suc (suc k)))))))) le = absurd (omega (arith, le))

many-more : (s : Bool) (x y : List ℕ) (n : ℕ) → Going x → HasBits y s n (2 ^ 13)
    → (m : ℕ) × HasBits (x ++ y) s m (limit (length x))
many-more s [] y n going h = (n, h)
many-more s (b ∷ x) y n (goes _ _ le lt going) h =
    let rest = many-more s x y n going h in
    (more_bits s b rest.0, one-more s b (x ++ y) rest.0 (limit (length x)) le lt rest.1)

long-held : (s : Bool) (n : ℕ) → n < 2 ^ 62 → HoldsSigned 64 (signed_of s n)
long-held false n lt = (omega (arith, ints), omega (arith, ints))
long-held true n lt = (omega (arith, ints), omega (arith, ints))

-- integers of two to nine bytes: all but the last two
pub long-found : (x rest whole : List ℕ) (b c : ℕ) → whole ≡ x ++ b ∷ c ∷ rest → Going x → length x ≤ 7
    → (r : Following) → FollowsLast rest b c r → IfSome r (λ left. IsLongSplit whole left.now)
long-found x rest whole b c e going few None h = tt
long-found x rest whole b c e going few (Some left) h =
    let l = h.1 in
    let all = many-more l.0 x (b ∷ c ∷ []) l.1 going (l.2, l.3, l.4) in
    let low : all.0 < 2 ^ 62 = omega (arith, all.1.2, limit-most (length x) few) in
    let whole-is : whole ≡ (x ++ b ∷ c ∷ []) ++ left.now = rw (e, h.0) (sym (append_assoc x (b ∷ c ∷ []) rest)) in
    (x ++ b ∷ c ∷ [], whole-is, (signed_of l.0 all.0, all.1.0, long-held l.0 all.0 low))
