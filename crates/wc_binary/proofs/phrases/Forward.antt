-- Reading goes forward.
use Rattle.std.proofs.Common.{◌≡◌, ℕ, zero, suc, ◌+◌, ◌-◌, List, length, Bool, true, false, Ok, refl, sym, ap, ◌∙◌}
use Rattle.std.proofs.Common.{arith}
use Rattle.std.specs.Prelude.{IsUtf8}
use Rattle.std.specs.Str.{is_utf8}
use Rattle.std.specs.Str.Lossy.{utf8_valid_len}
use Rattle.std.proofs.lemmas.Str.{IsUtf8-from_is_utf8, is_utf8-from_IsUtf8, utf8_valid_len_le}
use Rattle.std.proofs.lemmas.List.{append-nil}
use Rattle.wc_binary.specs.declared.fault.BinWhy.TheVariants.{NotUtf8}
use Rattle.wc_binary.specs.Standard.Phrase.{Spells, judged}
use Rattle.wc_binary.specs.Reading.Reading.{got, fault, read}
use Rattle.wc_binary.specs.Standard.Values.{times, any_byte, name, u32, utf8_fault}
use Rattle.wc_binary.specs.declared.fault.BinFault.{BinFault}
use Rattle.wc_binary.specs.Reading.Source.{Input, Fails, Gave}
use Rattle.wc_binary.proofs.reading.Behind.{leads-fail, first-fails, then-leads}
use Rattle.wc_binary.proofs.phrases.AnyByte.{byte-told}
use Rattle.wc_binary.proofs.phrases.Laws.{read-told}

raw-spelled : (n : ℕ) (a bytes : List ℕ) → Spells (times n any_byte) a bytes → a ≡ bytes
unfolding any_byte
raw-spelled zero a bytes h = h.0 ∙ sym h.1
raw-spelled (suc n) a bytes h =
    let k = h.5 in
    let ih = raw-spelled n k.0 k.2 k.4 in
    let head : h.4.0 ≡ h.2 = (byte-told h.4.0 h.2 h.4.2).0 in
    let rest : h.1 ≡ k.2 = rw (k.3, k.5.0, append-nil) ih in
    rw (h.3, h.4.1, head, rest, k.5.1) refl

pub raw-read : (n o : ℕ) (x bytes : List ℕ) (q : ℕ) (y : List ℕ) → read (times n any_byte) o x ≡ got bytes q y
    → q ≡ o + length bytes
raw-read n o x bytes q y h =
    let t = rw h at (read-told {A = List ℕ} (times n any_byte) o x) in
    let e = raw-spelled n t.0 bytes t.2 in
    omega (arith, t.3, ap length e)

not-utf8 : (bytes : List ℕ) → (IsUtf8 bytes → ⊥) → is_utf8 bytes ≡ false
not-utf8 bytes bars = go (is_utf8 bytes) refl
  where
    go : (b : Bool) → is_utf8 bytes ≡ b → is_utf8 bytes ≡ false
    go true e = absurd (bars (IsUtf8-from_is_utf8 bytes e))
    go false e = e

-- a fault in a name's count, and one in its bytes
pub name-count : (old new : Input) (e : BinFault) → Fails old new e (λ x. read u32 old.place x)
    → Fails old new e (λ x. read name old.place x)
unfolding name
name-count old new e h =
    first-fails old new (λ x. read u32 old.place x) (λ x. read name old.place x) (λ x f q. rw q refl) e h

pub name-bytes : (old mid new : Input) (n : ℕ) → Gave old mid (Ok n) (λ x. read u32 old.place x) → (e : BinFault)
    → Fails mid new e (λ x. read (times n any_byte) mid.place x) → Fails old new e (λ x. read name old.place x)
unfolding name
name-bytes old mid new n k e h =
    let named = judged (times n any_byte) utf8_fault in
    leads-fail old mid new (λ x. read named mid.place x) (λ x. read name old.place x)
    (then-leads u32 (λ n. judged (times n any_byte) utf8_fault) old mid n k) e
    (first-fails mid new (λ x. read (times n any_byte) mid.place x) (λ x. read named mid.place x) (λ x f q.
    rw q refl) e h)

module _ (o n p q : ℕ) (x y z bytes : List ℕ) (count : read u32 o x ≡ got n p y)
    (raw : read (times n any_byte) p y ≡ got bytes q z) where
  pub name-bad : (at : ℕ) → (IsUtf8 bytes → ⊥) → at ≡ q - (length bytes - utf8_valid_len bytes)
      → read name o x ≡ fault at NotUtf8 q
  unfolding name
  name-bad at bars e =
      let long = raw-read n p y bytes q z raw in
      let le = utf8_valid_len_le bytes in
      let place : p + utf8_valid_len bytes ≡ at = omega arith in
      rw (count, raw, not-utf8 bytes bars, place) refl

  pub name-good : IsUtf8 bytes → read name o x ≡ got bytes q z
  unfolding name
  name-good h = rw (count, raw, is_utf8-from_IsUtf8 bytes h) refl
