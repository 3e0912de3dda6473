-- The bytes that a buffered reader hands over at once.
use Rattle.std.proofs.Common.{◌≡◌, ℕ, suc, ◌+◌, ◌-◌, ◌≤◌, ◌<◌, List, [], ◌∷◌, ◌++◌, length, take, drop, get_or}
use Rattle.std.proofs.Common.{append_assoc, refl, sym, ◌∙◌, ap, subst, arith}
use Rattle.std.specs.List.{AllByRecursion}
use Rattle.wc_binary.specs.Standard.Values.{IsByte}
use Rattle.std.proofs.lemmas.List.{length-take-le, take-append-drop, drop-take, drop-drop, take-take, length-drop}
use Rattle.std.proofs.lemmas.List.{length-append, take_at, drop_at, take-append-le}

-- the first of the bytes that lie in the buffer, and those behind them
pub pending-split : (buffer : List ℕ) (at end n k : ℕ) → k ≡ n → at + n ≤ end → end ≤ length buffer
    → (length (take k (drop at buffer)) ≡ n)
    × ((after : List ℕ) → drop at (take end buffer) ++ after
    ≡ take k (drop at buffer) ++ (drop (at + n) (take end buffer) ++ after))
pending-split buffer at end n k same le within =
    let rest = take (end - at) (drop at buffer) in
    let sum : end ≡ at + (end - at) = omega (arith, le) in
    let pending : drop at (take end buffer) ≡ rest =
    ap (λ e. drop at (take e buffer)) sum ∙ drop-take at (end - at) buffer in
    let first : take n rest ≡ take n (drop at buffer) = take-take n (end - at) (drop at buffer) (omega (arith, le)) in
    let behind : drop (at + n) (take end buffer) ≡ drop n rest =
    sym (drop-drop n at (take end buffer)) ∙ ap (drop n) pending in (
      rw same (length-take-le n (drop at buffer) (rw (length-drop at buffer) (omega (arith, le, within)))),
      λ after. rw (same, behind, pending, sym first)
          (ap (λ l. l ++ after) (sym (take-append-drop n rest)) ∙ append_assoc (take n rest) (drop n rest) after),
    )

-- a list whose items are bytes, whichever is taken
pub each-byte : (xs : List ℕ) → ((k : ℕ) → get_or xs k 0 < 256) → AllByRecursion IsByte xs
each-byte [] h = tt
each-byte (x ∷ xs) h = (h 0, each-byte xs (λ k. h (suc k)))

-- the same where they are dropped, which are bytes
pub pending-dropped : (buffer : List ℕ) (at end n k : ℕ) → k ≡ n → at + n ≤ end → end ≤ length buffer
    → AllByRecursion IsByte (take k (drop at buffer)) → (after left : List ℕ)
    → left ≡ drop at (take end buffer) ++ after
    → (n ≤ length left) × (drop (at + n) (take end buffer) ++ after ≡ drop n left) × AllByRecursion IsByte (take n left)
pending-dropped buffer at end n k same le within are after left is =
    let split = pending-split buffer at end n k same le within in
    let first = take k (drop at buffer) in
    let behind = drop (at + n) (take end buffer) ++ after in
    let whole : left ≡ first ++ behind = is ∙ split.1 after in
    let sum : length left ≡ length first + length behind = rw whole (length-append first behind) in (
      omega (arith, sum, split.0),
      sym (ap (drop n) whole ∙ drop_at first behind n split.0),
      subst (AllByRecursion IsByte) (sym (ap (take n) whole ∙ take_at first behind n split.0)) are,
    )

-- the first of the bytes that lie in the buffer are the next ones
pub pending-ahead : (buffer : List ℕ) (at end count : ℕ) (bytes : List ℕ) → at ≤ end → end ≤ length buffer
    → count ≤ end - at → bytes ≡ take count (take (end - at) (drop at buffer))
    → (length bytes ≡ count) × ((after : List ℕ) → bytes ≡ take count (drop at (take end buffer) ++ after))
pending-ahead buffer at end count bytes ordered within has are =
    let rest = take (end - at) (drop at buffer) in
    let sum : end ≡ at + (end - at) = omega (arith, ordered) in
    let pending : drop at (take end buffer) ≡ rest =
    ap (λ e. drop at (take e buffer)) sum ∙ drop-take at (end - at) buffer in
    let long : length rest ≡ end - at =
    length-take-le (end - at) (drop at buffer) (rw (length-drop at buffer) (omega (arith, ordered, within))) in
    let le : count ≤ length rest = omega (arith, long, has) in (
      rw are (length-take-le count rest le),
      λ after. rw (are, pending) (sym (take-append-le count rest after le)),
    )

-- the same where as many are taken as lie there
pub pending-front : (buffer : List ℕ) (at end n k : ℕ) → k ≡ n → at + n ≤ end → end ≤ length buffer
    → (after : List ℕ)
    → take k (drop at buffer) ≡ take (length (take k (drop at buffer))) (drop at (take end buffer) ++ after)
pending-front buffer at end n k same le within after =
    let first = take k (drop at buffer) in
    let split = pending-split buffer at end n k same le within in
    sym (ap (take (length first)) (split.1 after)
    ∙ take_at first (drop (at + n) (take end buffer) ++ after) (length first) refl)
