-- Instructions as they are put.
use Rattle.std.proofs.Common.{◌≡◌, ◌≢◌, ℕ, zero, suc, ◌+◌, ◌-◌, ◌<◌, ◌==◌, false, List, [], ◌∷◌, ◌++◌}
use Rattle.std.proofs.Common.{length}
use Rattle.std.proofs.Common.{take, drop, refl, ap, arith, lit<}
use Rattle.std.specs.Prelude.{min}
use Rattle.std.proofs.lemmas.List.{take_all}
use Rattle.std.proofs.lemmas.Bool.Decides.{nat_tests}
use Rattle.wc_body.specs.declared.instr.BlockType.{BlockType}
use Rattle.wc_body.specs.declared.entry.Kind.{Kind}
use Rattle.wc_body.specs.declared.entry.Kind.TheVariants as kinds
use Rattle.wc_body.specs.Standard.Entries.{begin_of}
use Rattle.wc_print.specs.Standard.Printed.{Printed, word, Item, after, below, spelled, printed}
use Rattle.wc_print.specs.Standard.Printable.{IsSpelled}
use Rattle.wc_print.specs.Standard.Going.{Says, Puts}
use Rattle.wc_print.specs.Standard.Lines.{bytes_of, head_word, block_items, mark_items}
use Rattle.wc_print.proofs.Writing.Going.{text}

-- the line's end and three spaces are left out
cut : (bytes w : List ℕ) (n : ℕ) → bytes ≡ 10 ∷ 32 ∷ 32 ∷ 32 ∷ 32 ∷ w → n ≡ min (length bytes) 4
    → take (length bytes - n) (drop n bytes) ≡ 32 ∷ w
cut bytes w n e h =
    let long : length bytes ≡ length w + 5 = omega (arith, ap length e) in
    let four : n ≡ 4 = omega (arith, h, long) in
    let rest : drop n bytes ≡ 32 ∷ w = rw (four, e) refl in
    rw rest (take_all (length bytes - n) (32 ∷ w) (omega (arith, long, four)))

module _ {F S : Type 0} {Has : F → S → List ℕ → Type 0} where
  pub at-line : (p : Printed) {bytes : List ℕ} {old new : S} → IsSpelled p → bytes ≡ printed (below 4 p ∷ [])
      → Says Has bytes old new → Puts Has (below 4 p ∷ []) old new
  at-line p h e k = text (below 4 p ∷ []) (h, tt) e k

  pub at-inline : (p : Printed) (bytes : List ℕ) (n : ℕ) {old new : S} → IsSpelled p → bytes ≡ printed (below 4 p ∷ [])
      → n ≡ min (length bytes) 4 → Says Has (take (length bytes - n) (drop n bytes)) old new
      → Puts Has (after p ∷ []) old new
  at-inline p bytes n h e m k = text (after p ∷ []) (h, tt) (cut bytes (spelled p ++ []) n e m) k

-- a test of two numbers that differ
pub unequal : (a b : ℕ) → a ≢ b → (a == b) ≡ false
unequal a b h = grind (arith, nat_tests)

-- an alignment in bytes has few digits
pub bytes-few : (a : ℕ) → bytes_of a < 1000
bytes-few zero = lit< tt
bytes-few (suc zero) = lit< tt
bytes-few (suc (suc zero)) = lit< tt
bytes-few (suc (suc (suc n))) = lit< tt

-- what begins, whichever it is
pub head-items : (put : Printed → Item) (kind : Kind) (t : BlockType)
    → mark_items put (begin_of kind t) ≡ put (word (head_word kind)) ∷ block_items t
head-items put kinds.Block t = refl
head-items put kinds.Loop t = refl
head-items put kinds.If t = refl
