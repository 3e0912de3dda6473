-- What a row of marks needs: with one more mark, and as the instructions are placed.
use Rattle.std.proofs.Common.{◌≡◌, ℕ, ◌+◌, ◌-◌, List, [], ◌∷◌, ◌++◌, length, refl, sym, ap, ◌∙◌}
use Rattle.std.proofs.Common.{arith}
use Rattle.wc_body.specs.declared.instr.BlockType.{BlockType}
use Rattle.wc_body.specs.declared.instr.Instr.{Instr}
use Rattle.wc_body.specs.declared.needs.Needs.{Needs}
use Rattle.wc_body.specs.Standard.Nested.{Code, empty, Mark, plain, begin, begin_if, otherwise, close, flatten}
use Rattle.wc_body.specs.Standard.Draft.{Frame, in_region, in_then, in_else, Draft, whole, step, steps, built, closed}
use Rattle.wc_body.specs.Standard.Draft.{turned, ended}
use Rattle.wc_body.specs.Standard.Needed.{nothing, with_mark, with_all, needs_of}
use Rattle.wc_body.specs.Drafting.NeededAlong.{needs_along}
use Rattle.wc_body.specs.Standard.Placed.{deeper}
use Rattle.wc_body.proofs.Codes.Walks.{met, met-flatten, deeper-back}

-- a walk along the marks takes each as it is placed
along-met : (s : Needs) (k : ℕ) (ms : List (Mark Instr BlockType))
    → needs_along s k ms ≡ with_all s (met deeper (λ n. n - 1) k ms)
along-met s k [] = refl
along-met s k (plain i ∷ ms) = along-met (with_mark s k (plain i)) k ms
along-met s k (begin r t ∷ ms) = along-met (with_mark s k (begin r t)) (k + 1) ms
along-met s k (begin_if t ∷ ms) = along-met (with_mark s k (begin_if t)) (k + 1) ms
along-met s k (otherwise ∷ ms) = along-met s k ms
along-met s k (close ∷ ms) = along-met s (k - 1) ms

-- the marks of a body need what its instructions do
pub needs-flatten : (code : Code Instr BlockType) → needs_along nothing 0 (flatten code) ≡ needs_of code
needs-flatten code =
    along-met nothing 0 (flatten code)
    ∙ ap (λ xs. with_all nothing xs) (met-flatten deeper (λ n. n - 1) deeper-back 0 code)

-- how many enclose what comes behind the marks
abbrev depth : ℕ → List (Mark Instr BlockType) → ℕ
depth k [] = k
depth k (plain i ∷ ms) = depth k ms
depth k (begin r t ∷ ms) = depth (k + 1) ms
depth k (begin_if t ∷ ms) = depth (k + 1) ms
depth k (otherwise ∷ ms) = depth k ms
depth k (close ∷ ms) = depth (k - 1) ms

along-more : (s : Needs) (k : ℕ) (ms : List (Mark Instr BlockType)) (m : Mark Instr BlockType)
    → needs_along s k (ms ++ m ∷ []) ≡ with_mark (needs_along s k ms) (depth k ms) m
along-more s k [] (plain i) = refl
along-more s k [] (begin r t) = refl
along-more s k [] (begin_if t) = refl
along-more s k [] otherwise = refl
along-more s k [] close = refl
along-more s k (plain i ∷ ms) m = along-more (with_mark s k (plain i)) k ms m
along-more s k (begin r t ∷ ms) m = along-more (with_mark s k (begin r t)) (k + 1) ms m
along-more s k (begin_if t ∷ ms) m = along-more (with_mark s k (begin_if t)) (k + 1) ms m
along-more s k (otherwise ∷ ms) m = along-more s k ms m
along-more s k (close ∷ ms) m = along-more s (k - 1) ms m

turned-length : (around : List (Frame Instr BlockType)) (last : Code Instr BlockType)
    → length (turned around last).around ≡ length around
turned-length [] last = refl
turned-length (in_region before r h ∷ around) last = refl
turned-length (in_then before h ∷ around) last = refl
turned-length (in_else before h first ∷ around) last = refl

closed-length : (around : List (Frame Instr BlockType)) (last : Code Instr BlockType)
    → length (closed around last).around ≡ length around - 1
closed-length [] last = refl
closed-length (in_region before r h ∷ around) last = omega arith
closed-length (in_then before h ∷ around) last = omega arith
closed-length (in_else before h first ∷ around) last = omega arith

-- as many enclose it as are open
depth-steps : (d : Draft Instr BlockType) (ms : List (Mark Instr BlockType))
    → length (steps d ms).around ≡ depth (length d.around) ms
depth-steps d [] = refl
depth-steps d (plain i ∷ ms) = depth-steps (step d (plain i)) ms
depth-steps d (begin r t ∷ ms) = depth-steps (step d (begin r t)) ms
    ∙ ap (λ k. depth k ms) (omega arith)
depth-steps d (begin_if t ∷ ms) = depth-steps (step d (begin_if t)) ms
    ∙ ap (λ k. depth k ms) (omega arith)
depth-steps d (otherwise ∷ ms) = depth-steps (step d otherwise) ms
    ∙ ap (λ k. depth k ms) (turned-length d.around d.last)
depth-steps d (close ∷ ms) = depth-steps (step d close) ms
    ∙ ap (λ k. depth k ms) (closed-length d.around d.last)

-- one more mark
pub needs-more : (ms : List (Mark Instr BlockType)) (m : Mark Instr BlockType)
    → needs_along nothing 0 (ms ++ m ∷ [])
    ≡ with_mark (needs_along nothing 0 ms) (length (built ms).around) m
needs-more ms m =
    along-more nothing 0 ms m
    ∙ ap (λ k. with_mark (needs_along nothing 0 ms) k m) (sym (depth-steps (whole empty) ms))

-- an end, also in the place of an else that stands last
along-ended : (s : Needs) (k : ℕ) (ms : List (Mark Instr BlockType)) → needs_along s k (ended ms) ≡ needs_along s k ms
along-ended s k [] = refl
along-ended s k (plain i ∷ []) = refl
along-ended s k (begin r t ∷ []) = refl
along-ended s k (begin_if t ∷ []) = refl
along-ended s k (otherwise ∷ []) = refl
along-ended s k (close ∷ []) = refl
along-ended s k (plain i ∷ n ∷ ms) = along-ended (with_mark s k (plain i)) k (n ∷ ms)
along-ended s k (begin r t ∷ n ∷ ms) = along-ended (with_mark s k (begin r t)) (k + 1) (n ∷ ms)
along-ended s k (begin_if t ∷ n ∷ ms) = along-ended (with_mark s k (begin_if t)) (k + 1) (n ∷ ms)
along-ended s k (otherwise ∷ n ∷ ms) = along-ended s k (n ∷ ms)
along-ended s k (close ∷ n ∷ ms) = along-ended s (k - 1) (n ∷ ms)

pub needs-ended : (ms : List (Mark Instr BlockType)) → needs_along nothing 0 (ended ms) ≡ needs_along nothing 0 ms
needs-ended ms = along-ended nothing 0 ms
