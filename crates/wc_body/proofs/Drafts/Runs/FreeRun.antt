-- Entries that bytes begin with, one after the other, and are added: runs of canonical ones, and others between them.
use Rattle.std.proofs.Common.{◌≡◌, ℕ, ◌-◌, ◌<◌, ◌≤◌, List, [], ◌∷◌, ◌++◌, length, take, drop, inl, inr}
use Rattle.std.proofs.Common.{refl, sym, ap, ◌∙◌, append_assoc, arith}
use Rattle.std.proofs.lemmas.List.{append-nil, map-append, take-append-drop, take_at, take_rest, length-append}
use Rattle.std.proofs.lemmas.List.{length-take}
use Rattle.std.specs.List.{AllByRecursion}
use Rattle.wc_body.specs.declared.instr.BlockType.{BlockType}
use Rattle.wc_body.specs.declared.instr.Instr.{Instr}
use Rattle.wc_body.specs.declared.entry.Entry.{Entry}
use Rattle.wc_body.specs.declared.entry.Entry.TheVariants.{Plain}
use Rattle.wc_body.specs.Standard.Nested.{Mark}
use Rattle.wc_body.specs.Standard.Draft.{Draft, step, steps}
use Rattle.wc_body.specs.Standard.Entries.{mark, marks}
use Rattle.wc_body.specs.Writing.EntryBytes.{entry_bytes, FitsEntry}
use Rattle.wc_body.specs.Reading.Unpacked.{packed}
use Rattle.wc_body.specs.Drafting.FrontEntries.{AllStand, AddsFront}
use Rattle.wc_body.specs.Drafting.FreeEntries.{SpellsEntry, AddsOne, SpellEntries, AddsFree}
use Rattle.wc_body.proofs.Drafts.DraftLaws.{steps-append}

-- canonical bytes spell entries
packed-spell : (es : List Entry) → AllByRecursion FitsEntry es → SpellEntries es (packed es)
packed-spell [] f = refl
packed-spell (e ∷ es) f = (entry_bytes e, packed es, refl, inl (refl, f.0), packed-spell es f.1)

spell-append : (es fs : List Entry) (x y : List ℕ) → SpellEntries es x → SpellEntries fs y
    → SpellEntries (es ++ fs) (x ++ y)
spell-append [] fs x y s t = rw s t
spell-append (e ∷ es) fs x y (a, b, is, one, s) t =
    let split = ap (λ (q : List ℕ). q ++ y) is ∙ append_assoc a b y in
    (a, b ++ y, split, one, spell-append es fs b y s t)

stand-both : (d : Draft Instr BlockType) (es fs : List Entry) → AllStand d es → AllStand (steps d (marks es)) fs
    → AllStand d (es ++ fs)
stand-both d [] fs all more = more
stand-both d (e ∷ es) fs all more = (all.0, all.1, stand-both (step d (mark e)) es fs all.2 more)

-- the bytes begin with entries that stand behind the draft and were added to it, and these are left
pub record Ran (d after : Draft Instr BlockType) (bytes rest : List ℕ) : Type 0 where
  pub es : List Entry
  pub taken : List ℕ
  pub split : bytes ≡ taken ++ rest
  pub spell : SpellEntries es taken
  pub stand : AllStand d es
  pub built : after ≡ steps d (marks es)

pub ran-none : (d : Draft Instr BlockType) (bytes : List ℕ) → Ran d d bytes bytes
ran-none d bytes = record { es = []; taken = []; split = refl; spell = refl; stand = tt; built = refl }

-- what is left behind so many
abbrev behind : ℕ → List ℕ → List ℕ
behind n x = take (length x - n) (drop n x)

module _ (d mid after : Draft Instr BlockType) (bytes rest : List ℕ) (r : Ran d mid bytes rest) where
  ran-more : (fs : List Entry) (y left : List ℕ) → rest ≡ y ++ left → SpellEntries fs y → AllStand mid fs
      → after ≡ steps mid (marks fs) → Ran d after bytes left
  ran-more fs y left e t stand is = record {
    es = r.es ++ fs;
    taken = r.taken ++ y;
    split = r.split ∙ ap (λ (q : List ℕ). r.taken ++ q) e ∙ sym (append_assoc r.taken y left);
    spell = spell-append r.es fs r.taken y r.spell t;
    stand = stand-both d r.es fs r.stand (rw r.built at stand);
    built =
        is ∙ ap (λ (q : Draft Instr BlockType). steps q (marks fs)) r.built
        ∙ sym (steps-append d (marks r.es) (marks fs))
        ∙ ap (λ (ms : List (Mark Instr BlockType)). steps d ms) (sym (map-append mark r.es fs));
  }

  -- a run of canonical ones
  pub ran-front : (n : ℕ) → AddsFront mid after rest n → Ran d after bytes (behind n rest)
  ran-front n h =
      let split = sym (take-append-drop n rest) ∙ ap (λ (q : List ℕ). q ++ drop n rest) h.1.1 in
      rw (take_rest rest n) (ran-more h.1.0 (packed h.1.0) (drop n rest) split (packed-spell h.1.0 h.1.2) h.1.3 h.1.4)

  -- one whose integer has any spelling
  pub ran-one : (left : List ℕ) → AddsOne mid after rest left → Ran d after bytes left
  ran-one left h =
      ran-more (Plain h.0 ∷ []) h.1 left h.2 (h.1, [], sym (append-nil h.1), h.3, refl) (λ e. absurd cc, refl, tt) h.4

-- which has a byte at least
spelled-some : (i : Instr) (y : List ℕ) → SpellsEntry (Plain i) y → 0 < length y
spelled-some i y (inl h) = omega (arith, ap length h.0)
spelled-some i y (inr h) = omega (arith, ap length h.2.1)

pub one-shorter : (d after : Draft Instr BlockType) (rest left : List ℕ) → AddsOne d after rest left
    → length left < length rest
one-shorter d after rest left h =
    omega (arith, ap length h.2, length-append h.1 left, spelled-some h.0 h.1 h.3)

pub later-shorter : (d after : Draft Instr BlockType) (n : ℕ) (rest left : List ℕ)
    → AddsOne d after (behind n rest) left
    → length left < length rest
later-shorter d after n rest left h =
    let cut = length-take (length rest - n) (drop n rest) in
    omega (arith, one-shorter d after (behind n rest) left h, cut)

module _ (d after : Draft Instr BlockType) (bytes rest : List ℕ) (r : Ran d after bytes rest) where
  pub ran-within : length rest ≤ length bytes
  ran-within = omega (arith, ap length r.split, length-append r.taken rest)

  pub ran-adds : AddsFree d after bytes (length bytes - length rest)
  ran-adds =
      let long : length r.taken ≡ length bytes - length rest =
      omega (arith, ap length r.split, length-append r.taken rest) in
      let are = ap (take (length bytes - length rest)) r.split
      ∙ take_at r.taken rest (length bytes - length rest) long in
      (omega arith, (r.es, rw are r.spell, r.stand, r.built))
