-- Bytes that begin a simple element of a string.
use Rattle.std.specs.Prelude.{◌≡◌, ℕ, zero, suc, ◌+◌, ◌<◌, nat_lt, ◌==◌, Bool, ◌&&◌, ◌||◌, not, ◌⊎◌, if◌then◌else◌}
use Rattle.std.specs.Prelude.{List, [], ◌∷◌, take, slice_index}
use Rattle.wc_tokens.specs.Standard.Digits.{IsDigit}
use Rattle.wc_tokens.specs.Standard.Strings.{IsPlain, Element}

-- the byte doesn't stand for itself
abbrev pub is_special : ℕ → Bool
is_special c = nat_lt c 32 || (c == 127) || (c == 34) || (c == 92)

-- the byte stands for itself, or it is a backslash before two digits
abbrev pub IsSimple : ℕ → ℕ → ℕ → Type 0
IsSimple c high low = IsPlain c ⊎ ((c ≡ 92) × IsDigit 16 high × IsDigit 16 low)

-- the same of a place in a text
abbrev pub IsSimpleAt : List ℕ → ℕ → Type 0
IsSimpleAt text k = IsSimple (slice_index text k) (slice_index text (k + 1)) (slice_index text (k + 2))

-- The byte is plain or a backslash, and the last of the two behind it is a digit where the byte, or the next one, is a
-- backslash.
pub record IsLinked (c next last : ℕ) : Type 0 where
  pub simple : IsPlain c ⊎ (c ≡ 92)
  pub first_digit : next ≡ 92 → IsDigit 16 last
  pub last_digit : c ≡ 92 → IsDigit 16 last

-- the same of a place in a text
abbrev pub IsLinkedAt : List ℕ → ℕ → Type 0
IsLinkedAt text k = IsLinked (slice_index text k) (slice_index text (k + 1)) (slice_index text (k + 2))

-- a digit stands behind the place where a backslash stands at it
abbrev pub IsBegunAt : List ℕ → ℕ → Type 0
IsBegunAt text k = slice_index text k ≡ 92 → IsDigit 16 (slice_index text (k + 1))

-- how many bytes a simple element has that begins with this byte
abbrev pub simple_len : ℕ → ℕ
simple_len c = if c == 92 then 3 else 1

-- a simple element that begins with these bytes, if one does, stands for the value
abbrev pub IsValueOf : ℕ → ℕ → ℕ → ℕ → Type 0
IsValueOf c next last value =
    IsSimple c next last → (rest : List ℕ) → Element (take (simple_len c) (c ∷ next ∷ last ∷ rest)) (value ∷ [])

-- 1 where neither of two bytes is a backslash
abbrev pub apart : ℕ → ℕ → ℕ
apart a b = if not (a == 92) && not (b == 92) then 1 else 0

-- what is noted of a place in a text: its value, and whether an element begins two places behind it
pub record IsNotedAt (text values starts : List ℕ) (k : ℕ) : Type 0 where
  pub value :
      IsValueOf (slice_index text k) (slice_index text (k + 1)) (slice_index text (k + 2)) (slice_index values k)
  pub start : slice_index starts (k + 2) ≡ apart (slice_index text k) (slice_index text (k + 1))

-- these many places were noted, and what is so at the first two
pub record AreNoted (text values starts : List ℕ) (places : ℕ) : Type 0 where
  pub first : slice_index starts 0 ≡ 1
  pub second : slice_index starts 1 ≡ apart 0 (slice_index text 0)
  pub noted : (k : ℕ) → k < places → IsNotedAt text values starts k

-- how many bytes the element that begins at one of two bytes has behind both
abbrev pub behind_both : ℕ → ℕ → ℕ
behind_both a b = if b == 92 then 2 else (if a == 92 then 1 else 0)

-- of simple elements at the front of a text: how many bytes of one that begins before a place stand from there on
abbrev pub left_over : List ℕ → ℕ → ℕ
left_over text zero = 0
left_over text (suc zero) = behind_both 0 (slice_index text 0)
left_over text (suc (suc k)) = behind_both (slice_index text k) (slice_index text (k + 1))
