-- Codes that lie ahead, in their canonical bytes, are those that reading gives.
use Rattle.std.proofs.Common.{◌≡◌, ◌≢◌, ℕ, suc, ◌+◌, ◌-◌, ◌<◌, ◌≤◌, List, [], ◌∷◌, ◌++◌, length, take, drop, refl, sym}
use Rattle.std.proofs.Common.{ap, ◌∙◌, arith, Ok, true}
use Rattle.std.proofs.lemmas.List.{length-append, length-take, length-take-le, take-take, take-append-drop, take_at}
use Rattle.std.specs.Prelude.{IsTrue, Some}
use Rattle.wc_leb128.proofs.Writing.UnsignedShortest.{unsigned_bytes-low}
use Rattle.wc_body.specs.declared.instr.BlockType.{BlockType}
use Rattle.wc_body.specs.declared.instr.Instr.{Instr}
use Rattle.wc_body.specs.Standard.Nested.{Code}
use Rattle.wc_body.specs.Standard.InstructionBytes.{expr_bytes, FitsExpr}
use Rattle.wc_ast.specs.declared.codes.FuncCode.{FuncCode}
use Rattle.wc_ast.specs.Standard.Codes.{code as code_of}
use Rattle.wc_ast.specs.Standard.Spelled.{AddsSpelled}
use Rattle.wc_binary.specs.Standard.Phrase.{Phrase, Spells}
use Rattle.wc_binary.specs.Standard.Contents.{code}
use Rattle.wc_binary.specs.Reading.Source.{Input, AreAhead, Passes, Gives}
use Rattle.wc_binary.specs.Reading.NextCode.{BeginsBare, AddsCode}
use Rattle.wc_binary.specs.Writing.Contents.{func_bytes, code_bytes, FitsCode}
use Rattle.wc_binary.proofs.phrases.Laws.{spells-read}
use Rattle.wc_binary.proofs.phrases.Freed.{freed}
use Rattle.wc_binary.proofs.spelling.whole.Contents.{code-writes}

-- what was passed is what the first bytes ahead spell
module _ {A : Type 0} (p : Phrase A) (old new : Input) (bytes x : List ℕ) (n : ℕ) (v : A)
    (ahead : AreAhead old (length bytes) bytes) (few : n ≤ length bytes) (are : take n bytes ≡ x)
    (spelled : Spells p x v)
    (passes : Passes n old new n)
  where
    long : length x ≡ n
    long = omega (arith, ap length are, length-take n bytes, few)

    next : IsTrue old.known → old.left ≡ x ++ new.left
    next k =
        let q = passes.3 k in
        let same : take n old.left ≡ x =
        sym (take-take n (length bytes) old.left few) ∙ ap (take n) (sym (ahead.1 k)) ∙ are in
        sym (take-append-drop n old.left) ∙ ap (λ (y : List ℕ). y ++ drop n old.left) same
        ∙ ap (λ (y : List ℕ). x ++ y) (sym q.2)

    place : old.place + length x ≡ new.place
    place = omega (arith, passes.2, long)

    pub passed-gives : Gives p old new (Ok v)
    passed-gives = (
      passes.0,
      λ k. ((passes.3 k).0, rw (next k, spells-read p old.place x new.left v spelled, place) refl),
    )

pub code-passed : (row after : List FuncCode) (old new : Input) (bytes : List ℕ) (n : ℕ)
    → AreAhead old (length bytes) bytes
    → (h : AddsCode row after bytes (Some n)) → Passes n old new n → Gives code old new (Ok h.0)
code-passed row after old new bytes n ahead h passes =
    let f = h.0 in
    let spelled = freed code (code_bytes f) f (code-writes.written f h.3) in
    passed-gives code old new bytes (code_bytes f) n f ahead h.1 h.2 spelled passes

-- ---- a small code without locals

pub begins-bare : (x rest left body : List ℕ) (size groups count : ℕ) → x ≡ size ∷ rest → rest ≡ groups ∷ left
    → size ≢ 0
    → size < 128 → groups ≡ 0 → count ≡ size - 1 → count ≤ length left → body ≡ take count left → BeginsBare x body
begins-bare x rest left body size groups count e f some low none is within are =
    let long : size ≡ suc (length body) =
    omega (arith, some, is, ap length are, length-take-le count left within) in
    let split : left ≡ body ++ drop count left =
    sym (take-append-drop count left) ∙ ap (λ (y : List ℕ). y ++ drop count left) (sym are) in (
      drop count left,
      e ∙ ap (λ (y : List ℕ). size ∷ y) (f ∙ ap (λ (b : ℕ). b ∷ left) none)
          ∙ ap (λ (n : ℕ). n ∷ 0 ∷ left) long ∙ ap (λ (y : List ℕ). suc (length body) ∷ 0 ∷ y) split,
      omega (arith, long, low),
    )

module _ (body : List ℕ) (c : Code Instr BlockType) (is : body ≡ expr_bytes c) (low : suc (length body) < 128) where
  func-bytes : func_bytes (code_of [] c) ≡ 0 ∷ body
  func-bytes = rw (unsigned_bytes-low 0 (omega arith), is) refl

  bare-bytes : code_bytes (code_of [] c) ≡ suc (length body) ∷ 0 ∷ body
  bare-bytes = rw (func-bytes, unsigned_bytes-low (suc (length body)) low) refl

  bare-fits : FitsExpr c → FitsCode (code_of [] c)
  bare-fits f = (omega (arith, ap length func-bytes, low), (omega arith, f))

pub bare-adds : (row after : List FuncCode) (x body : List ℕ) → BeginsBare x body → AddsSpelled row after body true
    → AddsCode row after x (Some (length body + 2))
bare-adds row after x body b h =
    let c = h.0 in
    let are = bare-bytes body c h.1 b.2 in
    let all : length (suc (length body) ∷ 0 ∷ body) ≡ length body + 2 = omega arith in (
      code_of [] c,
      omega (arith, ap length b.1, length-append body b.0),
      ap (λ (y : List ℕ). take (length body + 2) y) b.1
          ∙ take_at (suc (length body) ∷ 0 ∷ body) b.0 (length body + 2) all
          ∙ sym are,
      bare-fits body c h.1 b.2 h.2,
      h.3,
    )
