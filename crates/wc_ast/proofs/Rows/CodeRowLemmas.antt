-- Rows of codes.
use Rattle.std.proofs.Common.{◌≡◌, ◌≤◌, ℕ, suc, List, [], ◌∷◌, ◌++◌, length, map, take, drop, refl, sym, ap, arith}
use Rattle.std.proofs.lemmas.List.{append-nil, take-append-le, drop-append-le, length-append, length-replicate}
use Rattle.std.proofs.Math.Seq.{take-length, drop-length}
use Rattle.wc_body.specs.declared.instr.BlockType.{BlockType}
use Rattle.wc_body.specs.declared.instr.Instr.{Instr}
use Rattle.wc_body.specs.Standard.Nested.{Code}
use Rattle.wc_ast.specs.declared.locals.Group.{Group}
use Rattle.wc_ast.specs.declared.codes.Span.{Span}
use Rattle.wc_ast.specs.declared.codes.FuncCode.{FuncCode}
use Rattle.wc_ast.specs.Standard.LocalGroups.{written_out, IsGrouped}
use Rattle.wc_ast.specs.Standard.Codes.{code, body_of}
use Rattle.wc_ast.specs.Kept.Locals.{IsLocals}
use Rattle.wc_ast.specs.Kept.CodeRow.{codes_at, AreCodes}

-- there are no more groups than locals
pub few-groups : (gs : List Group) → IsGrouped gs → length gs ≤ length (written_out gs)
few-groups [] s = omega arith
few-groups (g ∷ gs) s =
    let rest = few-groups gs s.2 in
    simp (length-append, length-replicate) (omega (arith, s.0))

-- there are as many codes as spans
pub codes-count : (ss : List Span) (g : List Group) (bs : List (Code Instr BlockType)) → AreCodes ss g bs
    → length (codes_at ss g bs) ≡ length ss
codes-count [] g bs are = refl
codes-count (s ∷ ss) g [] are = absurd are
codes-count (s ∷ ss) g (b ∷ bs) are = ap (λ n. suc n) (codes-count ss (drop s.groups g) bs are.2)

-- the bodies of the codes
pub bodies-back : (ss : List Span) (g : List Group) (bs : List (Code Instr BlockType)) → AreCodes ss g bs
    → map body_of (codes_at ss g bs) ≡ bs
bodies-back [] g bs are = sym are.1
bodies-back (s ∷ ss) g [] are = absurd are
bodies-back (s ∷ ss) g (b ∷ bs) are =
    ap (λ (cs : List (Code Instr BlockType)). b ∷ cs) (bodies-back ss (drop s.groups g) bs are.2)

-- the span of these groups, which are so many locals
abbrev pub span : List Group → ℕ → Span
span h total = record { groups = length h; total = total }

-- one more code
pub record Pushed (ss : List Span) (g h : List Group) (total : ℕ) (bs : List (Code Instr BlockType))
    (b : Code Instr BlockType) : Type 0 where
  pub kept : AreCodes (ss ++ span h total ∷ []) (g ++ h) (bs ++ b ∷ [])
  pub seen : codes_at (ss ++ span h total ∷ []) (g ++ h) (bs ++ b ∷ []) ≡ codes_at ss g bs ++ code (written_out h) b
      ∷ []

pub code-pushed : (ss : List Span) (g h : List Group) (total : ℕ) (bs : List (Code Instr BlockType))
    (b : Code Instr BlockType) → AreCodes ss g bs → IsLocals h total → Pushed ss g h total bs b
code-pushed [] g h total bs b are is = rw (are.0, are.1) (record {
  kept = (omega arith, rw (take-length h) is, (drop-length h, refl));
  seen = rw (take-length h) refl;
})
code-pushed (s ∷ ss) g h total [] b are is = absurd are
code-pushed (s ∷ ss) g h total (c ∷ bs) b are is =
    let rest = code-pushed ss (drop s.groups g) h total bs b are.2 is in
    let first = take-append-le s.groups g h are.0 in
    let behind = drop-append-le s.groups g h are.0 in
    record {
      kept = (omega (arith, are.0, length-append g h), rw first are.1, rw behind rest.kept);
      seen = rw (first, behind)
          (ap (λ (cs : List FuncCode). code (written_out (take s.groups g)) c ∷ cs) rest.seen);
    }

-- one more code, without locals
pub bare-pushed : (ss : List Span) (g : List Group) (bs : List (Code Instr BlockType)) (b : Code Instr BlockType)
    → AreCodes ss g bs
    → AreCodes (ss ++ span [] 0 ∷ []) g (bs ++ b ∷ [])
    × (codes_at (ss ++ span [] 0 ∷ []) g (bs ++ b ∷ []) ≡ codes_at ss g bs ++ code [] b ∷ [])
bare-pushed ss g bs b are =
    let none : IsLocals [] 0 = record { grouped = tt; counted = refl; within = omega arith } in
    let it = code-pushed ss g [] 0 bs b are none in
    (rw append-nil at it.kept, rw append-nil at it.seen)
