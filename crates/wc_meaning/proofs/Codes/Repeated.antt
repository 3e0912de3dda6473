-- What is declared twice inside a function: parameters without an identifier make no difference.
use Rattle.std.proofs.Common.{◌≡◌, ℕ, suc, Bool, true, false, ◌||◌, List, [], ◌∷◌, ◌++◌, map, Option, Some, None}
use Rattle.std.proofs.Common.{slice_get, refl, sym, ap, ◌∙◌, append-nil}
use Rattle.std.proofs.lemmas.Option.{slice_get-map}
use Rattle.std.specs.Prelude.{option_map, if◌then◌else◌}
use Rattle.std.specs.List.{list_any}
use Rattle.wc_ast.specs.Standard.LocalGroups.{locals_limit}
use Rattle.wc_resolve_code.specs.declared.why.NameWhy.TheVariants.{DuplicateId}
use Rattle.wc_spaces.specs.Standard.Spaces.{is_named, duplicates_after}
use Rattle.wc_surface.specs.Standard.Identifiers.{Identifier}
use Rattle.wc_surface.specs.Standard.Written.TypeUses.{Param}
use Rattle.wc_surface.specs.Standard.Written.Fields.{Local, Desc, Function, Field, import_field, func_field}
use Rattle.wc_parse_code.specs.Stored.TypeUses.{name_at, names_from}
use Rattle.wc_parse_field.specs.Stored.Fields.{local_as, field_as}
use Rattle.wc_declare.specs.Standard.Spaces as old_spaces
use Rattle.wc_declare.specs.Standard.Inner as old
use Rattle.wc_meaning.specs.Standard.Contexts.{Space, Faults, fault}
use Rattle.wc_meaning.specs.Standard.Spaces.{repeated}
use Rattle.wc_meaning.specs.Standard.Inner.{beyond, inner_faults}
use Rattle.wc_meaning.proofs.Lists.{both, mapped-same}
use Rattle.wc_meaning.proofs.Spaced.{repeated-same}

abbrev Texts : Type 0
Texts = List (Option (List ℕ))

-- the same identifiers stand in both
abbrev Alike : Texts → Texts → Type 0
Alike xs ys = (q : List ℕ) → list_any (is_named q) xs ≡ list_any (is_named q) ys

or-turned : (a b c : Bool) → (a || (b || c)) ≡ ((a || b) || c)
or-turned true b c = refl
or-turned false b c = refl

or-false : (a : Bool) → (a || false) ≡ a
or-false true = refl
or-false false = refl

any-append : (t : Option (List ℕ) → Bool) (xs ys : Texts) → list_any t (xs ++ ys) ≡ (list_any t xs || list_any t ys)
any-append t [] ys = refl
any-append t (x ∷ xs) ys =
    ap (λ (b : Bool). t x || b) (any-append t xs ys) ∙ or-turned (t x) (list_any t xs) (list_any t ys)

alike-push : (xs ys : Texts) (d : Option (List ℕ)) → Alike xs ys → Alike (xs ++ d ∷ []) (ys ++ d ∷ [])
alike-push xs ys d h q =
    any-append (is_named q) xs (d ∷ []) ∙ ap (λ (b : Bool). b || list_any (is_named q) (d ∷ [])) (h q)
    ∙ sym (any-append (is_named q) ys (d ∷ []))

alike-none : (xs ys : Texts) → Alike xs ys → Alike xs (ys ++ None ∷ [])
alike-none xs ys h q =
    h q ∙ sym (any-append (is_named q) ys (None ∷ []) ∙ or-false (list_any (is_named q) ys))

-- the fault of one of these
abbrev if_named : ℕ → Bool → Faults
if_named token b = if b then fault token DuplicateId else []

duplicates-alike : (xs ys : Texts) → Alike xs ys → (ds : List (Option (ℕ × List ℕ)))
    → duplicates_after DuplicateId xs ds ≡ duplicates_after DuplicateId ys ds
duplicates-alike xs ys h [] = refl
duplicates-alike xs ys h (None ∷ ds) =
    duplicates-alike (xs ++ None ∷ []) (ys ++ None ∷ []) (alike-push xs ys None h) ds
duplicates-alike xs ys h (Some d ∷ ds) =
    both (ap (if_named d.0) (h d.1))
    (duplicates-alike (xs ++ Some d.1 ∷ []) (ys ++ Some d.1 ∷ []) (alike-push xs ys (Some d.1) h) ds)

-- what is declared, by its tokens and its bytes
abbrev told : Space → List (Option (ℕ × List ℕ))
told ds = map (option_map (λ i. (i.token, i.text))) ds

abbrev ids_of : List Param → Space
ids_of ps = map (λ p. p.id) ps

-- parameters have the faults that their identifiers have
abbrev Same : ℕ → List Param → Space → Type 0
Same place ps rest = (xs ys : Texts) → Alike xs ys
    → duplicates_after DuplicateId xs (told (old.param_ids (names_from place ps) ++ rest))
    ≡ duplicates_after DuplicateId ys (told (ids_of ps ++ rest))

one-more : (place : ℕ) (o : Option Identifier) (ps : List Param) (rest : Space) → Same (suc place) ps rest
    → (xs ys : Texts) → Alike xs ys
    → duplicates_after DuplicateId xs (told (old.param_ids (name_at place o ++ names_from (suc place) ps) ++ rest))
    ≡ duplicates_after DuplicateId ys (told (o ∷ (ids_of ps ++ rest)))
one-more place None ps rest same xs ys h = same xs (ys ++ None ∷ []) (alike-none xs ys h)
one-more place (Some i) ps rest same xs ys h =
    both (ap (if_named i.token) (h i.text))
    (same (xs ++ Some i.text ∷ []) (ys ++ Some i.text ∷ []) (alike-push xs ys (Some i.text) h))

params-same : (place : ℕ) (ps : List Param) (rest : Space) → Same place ps rest
params-same place [] rest xs ys h = duplicates-alike xs ys h (told rest)
params-same place (p ∷ ps) rest xs ys h = one-more place p.id ps rest (params-same (suc place) ps rest) xs ys h

-- ---- inside a field

beyond-same : (o : Option Local) → old.too_many (option_map (λ l. l.token) (option_map local_as o)) ≡ beyond o
beyond-same None = refl
beyond-same (Some l) = refl

beyond-stored : (ls : List Local)
    → old.too_many (old.token_beyond (map local_as ls)) ≡ beyond (slice_get ls locals_limit)
beyond-stored ls =
    ap (λ o. old.too_many (option_map (λ l. l.token) o)) (slice_get-map local_as ls locals_limit)
    ∙ beyond-same (slice_get ls locals_limit)

abbrev ids_in : List Local → Space
ids_in ls = map (λ l. l.id) ls

repeated-inside : (ps : List Param) (ls : List Local)
    → old_spaces.repeated (old.param_ids (names_from 0 ps) ++ old.local_ids (map local_as ls))
    ≡ repeated (ids_of (ps ++ []) ++ ids_in ls)
repeated-inside ps ls =
    ap (λ (ds : Space). old_spaces.repeated (old.param_ids (names_from 0 ps) ++ ds))
    (mapped-same local_as (λ l. l.id) (λ l. l.id) (λ l. refl) ls)
    ∙ repeated-same (old.param_ids (names_from 0 ps) ++ ids_in ls)
    ∙ params-same 0 ps (ids_in ls) [] [] (λ q. refl)
    ∙ ap (λ (qs : List Param). repeated (ids_of qs ++ ids_in ls)) (sym (append-nil ps))

inside : (ps : List Param) (ls : List Local)
    → old_spaces.repeated (old.param_ids (names_from 0 ps) ++ old.local_ids (map local_as ls))
    ++ old.too_many (old.token_beyond (map local_as ls))
    ≡ repeated (ids_of (ps ++ []) ++ ids_in ls) ++ beyond (slice_get ls locals_limit)
inside ps ls = both (repeated-inside ps ls) (beyond-stored ls)

pub inner-stored : (f : Field) → old.inner_faults (field_as f) ≡ inner_faults f
inner-stored (import_field m i (Desc.func u)) = inside u.signature.params []
inner-stored (func_field token d (Function.imported m u)) = inside u.signature.params []
inner-stored (func_field token d (Function.code u ls c)) = inside u.signature.params ls
inner-stored _ = refl
