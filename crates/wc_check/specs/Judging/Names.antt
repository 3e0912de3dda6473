-- A set of names, and names that differ since their hashes do.
use Rattle.std.specs.Prelude.{ℕ, ◌≡◌, ◌+◌, ◌-◌, ◌*◌, ◌/◌, ◌%◌, ◌^◌, Bool, true, false, nat_lt, ◌&&◌}
use Rattle.std.specs.Prelude.{if◌then◌else◌, bit_xor, List, [], ◌∷◌, length, take, drop, slice_get, Some}
use Rattle.std.specs.Int.{w64, from_le_bytes}
use Rattle.std.specs.Simd.{first_chunks}
use Rattle.std.specs.BTreeSet.{BTreeSet, contains_by}
use Rattle.std.specs.Cmp.Lexicographic.{slice_cmp}
use Rattle.std.specs.Ordering.{nat_cmp}
use Rattle.wc_ast.specs.declared.export.Export.{Export}
use Rattle.wc_check.specs.Standard.ExportRules.{has_name}
use denote.Ref.{Bor}

-- the name is one of the set
abbrev pub has_text : BTreeSet (Bor (List ℕ)) → List ℕ → Bool
has_text names name = contains_by (λ k. slice_cmp nat_cmp name k.now) names

-- no export has the name of one before it
abbrev pub AreDistinct : List Export → Type 0
AreDistinct exports = (n : ℕ) (e : Export) → slice_get exports n ≡ Some e → has_name e.name (take n exports) ≡ false

-- the hash with a word mixed in
abbrev pub mixed : ℕ → ℕ → ℕ
mixed hash word =
    let product = word * 0x9e3779b97f4a7c15 % 2 ^ 64 in
    bit_xor hash (bit_xor product (product / 2 ^ 32)) * 0x9e3779b97f4a7c15 % 2 ^ 64

-- the hash with words of bytes mixed in
abbrev pub hash_chunks : ℕ → List (List ℕ) → ℕ
hash_chunks hash [] = hash
hash_chunks hash (word ∷ words) = hash_chunks (mixed hash (from_le_bytes w64 word)) words

-- the hash with bytes mixed in, eight at a time, as far as there are eight
abbrev pub hash_words : ℕ → List ℕ → ℕ
hash_words hash bytes = hash_chunks hash (first_chunks 8 (length bytes / 8) bytes)

-- the number that bytes spell, behind those that spell this one
abbrev pub number_from : ℕ → List ℕ → ℕ
number_from number [] = number
number_from number (b ∷ bs) = number_from ((number * 256 % 2 ^ 64 + b) % 2 ^ 64) bs

-- the hash of a name: of its length, its words and its last eight bytes, or of its length and its number if it is short
unfoldable pub hash_of_name : List ℕ → ℕ
hash_of_name name =
    if nat_lt (length name) 8 then mixed (length name) (number_from 0 name)
    else hash_words (hash_words (length name) name) (drop (length name - 8) name)

-- each number is above the one before it, and the first one above this
abbrev pub rises_above : ℕ → List ℕ → Bool
rises_above last [] = true
rises_above last (n ∷ ns) = nat_lt last n && rises_above n ns

-- each number is above the one before it
abbrev pub rises : List ℕ → Bool
rises [] = true
rises (n ∷ ns) = rises_above n ns
