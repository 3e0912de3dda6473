-- What is told of an input, in one line. x are its bytes, where they are known.
use Rattle.std.specs.Prelude.{◌≡◌, ◌⊎◌, ℕ, List, [], ◌∷◌, ◌++◌, ◌==◌, length, codes, Bool, if◌then◌else◌}
use Rattle.std.specs.Prelude.{Option, IfSome}
use Rattle.std.specs.List.{flat_map}
use Rattle.sha2.specs.Sha256.{sha256}
use Rattle.hex.specs.Hex.{encode_lower}
use Rattle.wc_canon.specs.Standard.Input.{IsAccepted}
use Rattle.wc_canon.specs.Standard.Fixed.{IsCanonical, IsNotCanonical}
use Rattle.wc_canon.specs.Standard.Run.{IsAnswerOf}
use Rattle.wc_cli.specs.declared.command_line.Ask.{Ask}
use Rattle.wc_cli.specs.declared.command_line.Ask.TheVariants.{Check, Canonical, Hash}

-- a word and a line end
abbrev pub word_line : List ℕ → List ℕ
word_line word = word ++ (10 ∷ [])

-- the same, with the path and a colon in front where it is named
abbrev pub told_line : List ℕ → Bool → List ℕ → List ℕ
told_line path named word = if named then path ++ (codes ": " ++ word_line word) else word_line word

-- a byte of a path in a line of hashes: line feed, carriage return and backslash stand as `\n`, `\r` and `\\`
abbrev pub escaped_byte : ℕ → List ℕ
escaped_byte byte =
    if byte == 10 then 92 ∷ 110 ∷ []
    else (if byte == 13 then 92 ∷ 114 ∷ []
    else (if byte == 92 then 92 ∷ 92 ∷ []
    else byte ∷ []))

-- a path in a line of hashes
abbrev pub escaped : List ℕ → List ℕ
escaped path = flat_map escaped_byte path

-- a backslash in front of a line of hashes, where its path isn't as it is written
abbrev pub escape_mark : List ℕ → List ℕ
escape_mark path = if length (escaped path) == length path then [] else 92 ∷ []

-- the SHA-256 of the bytes b as 64 hexadecimal digits in lower case, two spaces, the path and a line end
abbrev pub hash_line : List ℕ → List ℕ → List ℕ
hash_line b path =
    escape_mark path ++ (encode_lower (sha256 b) ++ (codes "  " ++ (escaped path ++ (10 ∷ []))))

-- the line that answers what is asked of the input, and its status
abbrev pub AnswersAsk : Ask → List ℕ → Bool → Option (List ℕ) → List ℕ → ℕ → Type 0
AnswersAsk Check path named x text status =
    IfSome x IsAccepted × (text ≡ told_line path named (codes "ok")) × (status ≡ 0)
AnswersAsk Canonical path named x text status =
    (IfSome x IsCanonical × (text ≡ told_line path named (codes "canonical")) × (status ≡ 0))
    ⊎ (IfSome x IsNotCanonical × (text ≡ told_line path named (codes "not canonical")) × (status ≡ 1))
AnswersAsk Hash path named x text status =
    ((b : List ℕ) × IsAnswerOf x b × (text ≡ hash_line b path)) × (status ≡ 0)
