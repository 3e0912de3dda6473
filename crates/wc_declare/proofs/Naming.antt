-- Identifiers inside functions, one after another.
use Rattle.std.proofs.Common.{◌≡◌, ℕ, zero, suc, ◌+◌, ◌-◌, ◌<◌, Bool, true, false, ◌||◌, List, [], ◌∷◌, ◌++◌}
use Rattle.std.proofs.Common.{length, drop, get_or, Option, Some, None, is_some, refl, sym, ap, ◌∙◌, arith}
use Rattle.std.proofs.lemmas.List.{map-append}
use Rattle.std.proofs.lemmas.List.Folds.{list_any-append}
use Rattle.std.specs.List.{list_any}
use Rattle.wc_ops.specs.declared.val_type.ValType.{ValType}
use Rattle.wc_resolve_code.specs.declared.why.NameWhy.{NameWhy}
use Rattle.wc_spaces.specs.declared.noted.Fault.{Fault}
use Rattle.wc_spaces.specs.declared.places.Places.{Places}
use Rattle.wc_spaces.specs.Kept.Places.{place_in}
use Rattle.wc_spaces.specs.Standard.Least.{least_from}
use Rattle.wc_spaces.specs.Standard.Spaces.{is_named}
use Rattle.wc_spaces.proofs.Least.{least-append}
use Rattle.wc_surface.specs.Standard.Identifiers.{Identifier}
use Rattle.wc_surface.specs.Standard.WrittenLocals.{locals_from, locals_of, written_out}
use Rattle.wc_surface.specs.declared.type_use.ParamName.{ParamName}
use Rattle.wc_surface.specs.declared.local.Local.{Local}
use Rattle.wc_surface.specs.declared.local.LocalGroup.{LocalGroup}
use Rattle.wc_declare.specs.Standard.Spaces.{texts, repeated_after}
use Rattle.wc_declare.specs.Standard.Inner.{param_ids, local_ids}
use Rattle.wc_declare.specs.Kept.Seen.{HaveNames, copies}
use Rattle.wc_declare.proofs.Faults.{next}
use Rattle.wc_declare.proofs.Adding.{repeated-append}

or-false : (b : Bool) → (b || false) ≡ b
or-false true = refl
or-false false = refl

pub none-seen : (seen : Places) → ((q : List ℕ) → place_in seen q ≡ None) → HaveNames [] seen
none-seen seen h = record { has = λ q. ap (λ (o : Option ℕ). is_some o) (h q) }

-- ---- parameters

pub params-next : (names : List ParamName) (i : ℕ) (n : ParamName) → i < length names → n ≡ get_or names i n
    → param_ids (drop i names) ≡ (Some n.id ∷ []) ++ param_ids (drop (i + 1) names)
params-next names i n lt e = ap (λ (x : List ParamName). param_ids x) (next names i n lt)
    ∙ ap (λ (x : ParamName). Some x.id ∷ param_ids (drop (i + 1) names)) (sym e)

-- ---- one identifier so many times

pub copies-next : (n k : ℕ) (id : Identifier) → k < n → copies (n - k) id ≡ (Some id ∷ []) ++ copies (n - (k + 1)) id
copies-next n k id lt =
    let e : n - k ≡ suc (n - (k + 1)) = omega (arith, lt) in
    ap (λ (m : ℕ). copies m id) e

pub same-copies : (id : Identifier) (ty : ValType) (token n : ℕ)
    → local_ids (locals_from (Some id) ty token n) ≡ copies n id
same-copies id ty token zero = refl
same-copies id ty token (suc n) = ap (λ (x : List (Option Identifier)). Some id ∷ x) (same-copies id ty (suc token) n)

-- ---- locals without identifiers

no-name : (q : List ℕ) (ty : ValType) (token n : ℕ)
    → list_any (is_named q) (texts (local_ids (locals_from None ty token n))) ≡ false
no-name q ty token zero = refl
no-name q ty token (suc n) = no-name q ty (suc token) n

pub unnamed-seen : (ds : List (Option (List ℕ))) (g : LocalGroup) (seen : Places) → g.id ≡ None → HaveNames ds seen
    → HaveNames (ds ++ texts (local_ids (locals_of g))) seen
unnamed-seen ds g seen e w = rw e (record {
  has = λ q. w.has q ∙ sym (or-false (list_any (is_named q) ds))
      ∙ ap (λ (b : Bool). list_any (is_named q) ds || b) (sym (no-name q g.ty g.token g.count))
      ∙ sym (list_any-append (is_named q) ds (texts (local_ids (locals_from None g.ty g.token g.count))));
})

none-repeated : (ds : List (Option (List ℕ))) (ty : ValType) (token n : ℕ)
    → repeated_after ds (local_ids (locals_from None ty token n)) ≡ []
none-repeated ds ty token zero = refl
none-repeated ds ty token (suc n) = none-repeated (ds ++ None ∷ []) ty (suc token) n

pub unnamed-fault : (ds : List (Option (List ℕ))) (g : LocalGroup) (o : Option (Fault NameWhy)) → g.id ≡ None
    → o ≡ least_from o (repeated_after ds (local_ids (locals_of g)))
unnamed-fault ds g o e = rw (e, none-repeated ds g.ty g.token g.count) refl

pub group-copies : (g : LocalGroup) (id : Identifier) → g.id ≡ Some id → local_ids (locals_of g) ≡ copies g.count id
group-copies g id e = rw e (same-copies id g.ty g.token g.count)

-- ---- locals

pub groups-next : (gs : List LocalGroup) (i : ℕ) (g : LocalGroup) → i < length gs → g ≡ get_or gs i g
    → local_ids (written_out (drop i gs)) ≡ local_ids (locals_of g) ++ local_ids (written_out (drop (i + 1) gs))
groups-next gs i g lt e = ap (λ (x : List LocalGroup). local_ids (written_out x)) (next gs i g lt)
    ∙ ap (λ (x : LocalGroup). local_ids (locals_of x ++ written_out (drop (i + 1) gs))) (sym e)
    ∙ map-append (λ (l : Local). l.id) (locals_of g) (written_out (drop (i + 1) gs))

-- ---- a field

pub field-faults : (o p q r : Option (Fault NameWhy)) (xs ys front back : List (Option Identifier))
    (fs gs : List (Fault NameWhy))
    → xs ≡ front → ys ≡ back → fs ≡ gs
    → p ≡ least_from o (repeated_after [] xs) → q ≡ least_from p (repeated_after (texts xs) ys) → r ≡ least_from q fs
    → r ≡ least_from o (repeated_after [] (front ++ back) ++ gs)
field-faults o p q r xs ys front back fs gs ex ey ef e g h =
    h ∙ ap (λ (x : Option (Fault NameWhy)). least_from x fs)
    (g ∙ ap (λ (x : Option (Fault NameWhy)). least_from x (repeated_after (texts xs) ys)) e
    ∙ sym (least-append o (repeated_after [] xs) (repeated_after (texts xs) ys))
    ∙ ap (λ (x : List (Fault NameWhy)). least_from o x) (sym (repeated-append [] xs ys)))
    ∙ sym (least-append o (repeated_after [] (xs ++ ys)) fs)
    ∙ ap (λ (x : List (Option Identifier)). least_from o (repeated_after [] (x ++ ys) ++ fs)) ex
    ∙ ap (λ (x : List (Option Identifier)). least_from o (repeated_after [] (front ++ x) ++ fs)) ey
    ∙ ap (λ (x : List (Fault NameWhy)). least_from o (repeated_after [] (front ++ back) ++ x)) ef
