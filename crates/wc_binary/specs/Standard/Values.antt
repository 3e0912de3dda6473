-- Values of the binary format: integers, vectors, names and sizes (Core 1.0, 5.1.3 and 5.2).
use Rattle.std.specs.Prelude.{ℕ, zero, suc, ◌==◌, ◌<◌, nat_lt, List, [], ◌∷◌, Option, Some, None, Result, Ok, Err}
use Rattle.std.specs.Prelude.{if◌then◌else◌}
use Rattle.std.specs.Str.{is_utf8}
use Rattle.std.specs.Str.Lossy.{utf8_valid_len}
use Rattle.wc_binary.specs.declared.fault.BinWhy.{BinWhy}
use Rattle.wc_binary.specs.declared.fault.BinWhy.TheVariants.{End, NotUtf8}
use Rattle.wc_binary.specs.Standard.Phrase.{Phrase, gives, byte, unsigned, ◌>>=◌, judged, measured}

-- a byte is a number from 0 to 255 (5.2.1)
abbrev pub IsByte : ℕ → Type 0
IsByte x = x < 256

-- a byte by itself; where another number stands, a byte is missing
abbrev pub byte_itself : ℕ → Result ℕ BinWhy
byte_itself x = if nat_lt x 256 then Ok x else Err End

-- any byte (5.2.1)
unfoldable pub any_byte : Phrase ℕ
any_byte = byte byte_itself

-- this byte, or else this reason
abbrev pub only : ℕ → BinWhy → ℕ → Result (Unit {0}) BinWhy
only b why x = if x == b then Ok tt else Err why

-- the bytes of a list in their order, or else this reason at the first other one
abbrev pub exactly : List ℕ → BinWhy → Phrase (Unit {0})
exactly [] why = gives tt
exactly (b ∷ bs) why = byte (only b why) >>= λ _. exactly bs why

-- an unsigned integer of 32 bits (5.2.2)
unfoldable pub u32 : Phrase ℕ
u32 = unsigned 32

-- so many of a phrase
abbrev pub times : {A : Type 0} → ℕ → Phrase A → Phrase (List A)
times zero p = gives []
times (suc n) p = do
  v ← p
  vs ← times n p
  gives (v ∷ vs)

-- a count, and so many of a phrase (5.1.3)
unfoldable pub vector : {A : Type 0} → Phrase A → Phrase (List A)
vector p = do
  n ← u32
  times n p

-- bytes that are UTF-8, or else the first byte of the first sequence that isn't
abbrev pub utf8_fault : List ℕ → Option (ℕ × BinWhy)
utf8_fault bytes = if is_utf8 bytes then None else Some (utf8_valid_len bytes, NotUtf8)

-- a name: a count and so many bytes, which are judged once all of them were read (5.2.4)
unfoldable pub name : Phrase (List ℕ)
name = do
  n ← u32
  judged (times n any_byte) utf8_fault

-- a size that is not the content's, told at the first byte of the size
abbrev pub size_fault : {A : Type 0} → BinWhy → ℕ × (ℕ × A) → Option (ℕ × BinWhy)
size_fault why w = if w.1.0 == w.0 then None else Some (0, why)

-- a size, and content of just that many bytes: it is read by its own phrase, and the size is judged after it
unfoldable pub sized : {A : Type 0} → BinWhy → Phrase A → Phrase A
sized why p = do
  w ← judged (u32 >>= λ n. measured p >>= λ m. gives (n, m)) (size_fault why)
  gives w.1.1
