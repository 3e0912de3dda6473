-- Entries as a row of bytes: each by its canonical bytes, and read back (Core 1.0, 5.4).
use Rattle.std.specs.Prelude.{ℕ, zero, suc, ◌≡◌, List, [], ◌∷◌, length, Option, Some, None}
use Rattle.std.specs.List.{AllByRecursion, flat_map}
use Rattle.wc_body.specs.declared.entry.Entry.{Entry}
use Rattle.wc_body.specs.Reading.Fronts.{entry_front}
use Rattle.wc_body.specs.Writing.EntryBytes.{entry_bytes, FitsEntry}

-- the entries, each by its bytes
abbrev pub packed : List Entry → List ℕ
packed es = flat_map entry_bytes es

-- the entry that was found, and the entries behind it
abbrev entry_and : Option (Entry × List ℕ) → (List ℕ → List Entry) → List Entry
entry_and None more = []
entry_and (Some e) more = e.0 ∷ more e.1

-- so many entries at most
abbrev pub unpacked_within : ℕ → List ℕ → List Entry
unpacked_within zero x = []
unpacked_within (suc k) x = entry_and (entry_front x) (λ y. unpacked_within k y)

-- the entries of these bytes; each has one byte at least
unfoldable pub unpacked : List ℕ → List Entry
unpacked x = unpacked_within (length x) x

-- the bytes are those of entries, whose numbers fit
pub record IsPacked (x : List ℕ) : Type 0 where
  pub same : packed (unpacked x) ≡ x
  pub fits : AllByRecursion FitsEntry (unpacked x)
