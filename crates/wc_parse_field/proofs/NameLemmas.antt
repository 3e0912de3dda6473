-- Strings as names.
use Rattle.std.proofs.Common.{◌≡◌, ℕ, Bool, true, false, List, [], refl, IsUtf8}
use Rattle.std.specs.Prelude.{if◌then◌else◌}
use Rattle.std.specs.Str.{is_utf8}
use Rattle.std.proofs.lemmas.Str.{is_utf8-from_IsUtf8, IsUtf8-from_is_utf8}
use Rattle.wc_parse_field.specs.Drafting.Fields.{name_of}

kept-by : (bytes : List ℕ) (b : Bool) → is_utf8 bytes ≡ b → is_utf8 bytes ≡ true → bytes ≡ (if b then bytes else [])
kept-by bytes true e f = refl
kept-by bytes false e f = absurd cc

-- what is UTF-8 is kept
pub name-kept : (bytes : List ℕ) → IsUtf8 bytes → bytes ≡ name_of bytes
name-kept bytes u = kept-by bytes (is_utf8 bytes) refl (is_utf8-from_IsUtf8 bytes u)

dropped-by : (bytes : List ℕ) (b : Bool) → is_utf8 bytes ≡ b → (IsUtf8 bytes → ⊥) → [] ≡ (if b then bytes else [])
dropped-by bytes true e f = absurd (f (IsUtf8-from_is_utf8 bytes e))
dropped-by bytes false e f = refl

-- what is not gives the empty name
pub name-dropped : (bytes : List ℕ) → (IsUtf8 bytes → ⊥) → [] ≡ name_of bytes
name-dropped bytes f = dropped-by bytes (is_utf8 bytes) refl f
