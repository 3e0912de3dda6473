-- A set of names after one more name.
use Rattle.std.proofs.Common.{◌≡◌, ℕ, Bool, true, false, ◌||◌, List, [], ◌∷◌, refl, ap, ◌∙◌}
use Rattle.std.specs.List.{list_any}
use Rattle.std.specs.Str.{bytes_eq}
use Rattle.std.specs.BTreeMap.{is_at}
use Rattle.std.specs.BTreeSet.{insert_key}
use Rattle.std.specs.Cmp.Lexicographic.{slice_cmp}
use Rattle.std.specs.Ordering.{nat_cmp, match_ordering}
use Rattle.std.specs.declared.cmp.Ordering.{Ordering}
use Rattle.std.specs.declared.cmp.Ordering.TheVariants.{Less, Equal, Greater}
use Rattle.std.proofs.lemmas.Map.Text.{is_eq-slice_cmp}
use Rattle.std.proofs.lemmas.Map.Lookups.{exact_bytes}
use denote.Ref.{Bor}

abbrev text_order : Bor (List ℕ) → Bor (List ℕ) → Ordering
text_order x y = slice_cmp nat_cmp x.now y.now

abbrev is_text : List ℕ → Bor (List ℕ) → Bool
is_text q k = is_at (λ (x : Bor (List ℕ)). slice_cmp nat_cmp q x.now) k

or_swap : (a b c : Bool) → (a || (b || c)) ≡ (b || (a || c))
or_swap true true c = refl
or_swap true false c = refl
or_swap false true c = refl
or_swap false false c = refl

or_twice : (b c : Bool) → (b || c) ≡ (b || (b || c))
or_twice true c = refl
or_twice false c = refl

inserted : (q : List ℕ) (k x : Bor (List ℕ)) (xs more : List (Bor (List ℕ))) (o : Ordering)
    → slice_cmp nat_cmp k.now x.now ≡ o
    → list_any (is_text q) more ≡ (is_text q k || list_any (is_text q) xs)
    → list_any (is_text q) (match_ordering o (k ∷ x ∷ xs) (x ∷ xs) (x ∷ more))
    ≡ (is_text q k || list_any (is_text q) (x ∷ xs))
inserted q k x xs more Less e rest = refl
inserted q k x xs more Equal e rest =
    let same : is_text q k
    ≡ is_text q x = ap (λ (n : List ℕ). is_at (λ (m : List ℕ). slice_cmp nat_cmp q m) n)
    (exact_bytes k.now x.now e) in
    rw same (or_twice (is_text q x) (list_any (is_text q) xs))
inserted q k x xs more Greater e rest =
    ap (λ b. is_text q x || b) rest ∙ or_swap (is_text q x) (is_text q k) (list_any (is_text q) xs)

has-inserted : (q : List ℕ) (k : Bor (List ℕ)) (ks : List (Bor (List ℕ)))
    → list_any (is_text q) (insert_key text_order ks k) ≡ (is_text q k || list_any (is_text q) ks)
has-inserted q k [] = refl
has-inserted q k (x ∷ xs) = inserted q k x xs (insert_key text_order xs k) (text_order k x) refl (has-inserted q k xs)

-- the set has a name where it is the new one, or where it was there
pub has_text-insert_key : (ks new : List (Bor (List ℕ))) (k : Bor (List ℕ))
    → new ≡ insert_key (λ (x y : Bor (List ℕ)). slice_cmp nat_cmp x.now y.now) ks k → (q : List ℕ)
    → list_any (is_at (λ (x : Bor (List ℕ)). slice_cmp nat_cmp q x.now)) new
    ≡ (bytes_eq q k.now || list_any (is_at (λ (x : Bor (List ℕ)). slice_cmp nat_cmp q x.now)) ks)
has_text-insert_key ks new k e q =
    ap (λ xs. list_any (is_text q) xs) e ∙ has-inserted q k ks
    ∙ ap (λ b. b || list_any (is_text q) ks) (is_eq-slice_cmp q k.now)
