-- One more declaration.
use Rattle.std.proofs.Common.{◌≡◌, ℕ, zero, suc, ◌+◌, Bool, true, false, not, cond, List, [], ◌∷◌, ◌++◌, length, Option}
use Rattle.std.proofs.Common.{Some, None, is_some, refl, sym, ap, ◌∙◌, arith, length-append, replicate, subst}
use Rattle.std.proofs.lemmas.List.{length-replicate}
use Rattle.std.specs.List.{list_any, position_from}
use Rattle.std.specs.Str.{bytes_eq}
use Rattle.wc_spaces.specs.declared.noted.Fault.{Fault}
use Rattle.wc_spaces.specs.declared.directory.Directory.{Directory}
use Rattle.wc_spaces.specs.declared.space.Space.{Space}
use Rattle.wc_spaces.specs.Kept.Directory.{found_in, AreApart}
use Rattle.wc_spaces.specs.Kept.Spaces.{IsSpace, size_of}
use Rattle.wc_spaces.specs.Standard.Least.{earlier, least_from}
use Rattle.wc_spaces.specs.Standard.Spaces.{is_named, place_of}
use Rattle.wc_spaces.proofs.FirstStays.{kept}
use Rattle.wc_spaces.proofs.Positions.{position-push, position-any}

-- what is found in directories that are equal
same-found : (old new : Directory) (q : List ℕ) → new ≡ old → found_in new q ≡ found_in old q
same-found old new q h = ap (λ (x : Directory). found_in x q) h

same-apart : (old new : Directory) → new ≡ old → AreApart old → AreApart new
same-apart old new h w = subst (λ (x : Directory). AreApart x) (sym h) w

pub unnamed : (ds : List (Option (List ℕ))) (old new : Space) → IsSpace ds old
    → new.places ≡ old.places → size_of new ≡ size_of old + 1
    → IsSpace (ds ++ None ∷ []) new
unnamed ds old new w h e = record {
  placed = λ q. same-found old.places new.places q h ∙ w.placed q ∙ kept (place_of q ds)
      ∙ sym (position-push (is_named q) 0 (length ds) ds None (omega arith));
  counted = omega (arith, e, w.counted, length-append ds (None ∷ []));
  apart = same-apart old.places new.places h w.apart;
}

unnamed-places : (q : List ℕ) (i n : ℕ) (ds : List (Option (List ℕ)))
    → position_from (is_named q) i (ds ++ replicate n None) ≡ position_from (is_named q) i ds
unnamed-places q i zero [] = refl
unnamed-places q i (suc n) [] = unnamed-places q (i + 1) n []
unnamed-places q i n (d ∷ ds) = ap (λ (o : Option ℕ). cond (is_named q d) (Some i) o) (unnamed-places q (i + 1) n ds)

pub unnamed-many : (ds : List (Option (List ℕ))) (old new : Space) (n : ℕ) → IsSpace ds old
    → new.places ≡ old.places → size_of new ≡ size_of old + n
    → IsSpace (ds ++ replicate n None) new
unnamed-many ds old new n w h e = record {
  placed = λ q. same-found old.places new.places q h ∙ w.placed q ∙ sym (unnamed-places q 0 n ds);
  counted = omega (
    arith,
    e,
    w.counted,
    length-append ds (replicate n None),
    length-replicate {A = Option (List ℕ)} n None,
  );
  apart = same-apart old.places new.places h w.apart;
}

pub named : (ds : List (Option (List ℕ))) (old new : Space) (text : List ℕ) → IsSpace ds old
    → ((q : List ℕ) → found_in new.places q
    ≡ cond (is_some (found_in old.places q)) (found_in old.places q) (cond (bytes_eq text q) (Some (size_of old)) None))
    → size_of new ≡ size_of old + 1
    → AreApart new.places
    → IsSpace (ds ++ Some text ∷ []) new
named ds old new text w h e apart = record {
  placed = λ q. h q
      ∙ ap (λ (o : Option ℕ). cond (is_some o) o (cond (bytes_eq text q) (Some (size_of old)) None)) (w.placed q)
      ∙ sym (position-push (is_named q) 0 (size_of old) ds (Some text) (omega (arith, w.counted)));
  counted = omega (arith, e, w.counted, length-append ds (Some text ∷ []));
  apart = apart;
}

module _ {W : Type 0} (first now : Option (Fault W)) (f : Fault W) where
  told_by : (b told : Bool) → told ≡ not b → now ≡ cond told first (earlier first f)
      → now ≡ least_from first (cond b (f ∷ []) [])
  told_by true told e g = rw e at g
  told_by false told e g = rw e at g

  -- the fault of a text that one before it has
  pub told-fault : (ds : List (Option (List ℕ))) (text : List ℕ) (old : Space) (told : Bool) → IsSpace ds old
      → told ≡ not (is_some (found_in old.places text)) → now ≡ cond told first (earlier first f)
      → now ≡ least_from first (cond (list_any (is_named text) ds) (f ∷ []) [])
  told-fault ds text old told w e g = told_by (list_any (is_named text) ds) told
      (e ∙ ap (λ (o : Option ℕ). not (is_some o)) (w.placed text)
      ∙ ap (λ b. not b) (position-any (is_named text) 0 ds)) g
