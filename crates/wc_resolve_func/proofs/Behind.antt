-- Declarations one behind another, in a local space.
use Rattle.std.proofs.Common.{◌≡◌, ℕ, zero, suc, ◌+◌, ◌-◌, ◌<◌, ◌≤◌, List, [], ◌∷◌, ◌++◌, length, drop, get_or, map}
use Rattle.std.proofs.Common.{replicate, Option, None, refl, sym, ap, ◌∙◌, subst, arith, append_assoc, length-append}
use Rattle.std.specs.Prelude.{true, ◌==◌}
use Rattle.std.proofs.lemmas.Bool.{eqb-true}
use Rattle.std.proofs.lemmas.List.{append-nil, map-append, length-map}
use Rattle.wc_ops.specs.declared.val_type.ValType.{ValType}
use Rattle.wc_spaces.specs.declared.space.Space.{Space}
use Rattle.wc_spaces.specs.Kept.Spaces.{IsSpace}
use Rattle.wc_surface.specs.Standard.Identifiers.{Identifier}
use Rattle.wc_surface.specs.Standard.WrittenLocals.{locals_from, locals_of, written_out}
use Rattle.wc_surface.specs.declared.type_use.ParamName.{ParamName}
use Rattle.wc_surface.specs.declared.local.Local.{Local}
use Rattle.wc_surface.specs.declared.local.LocalGroup.{LocalGroup}
use Rattle.wc_declare.specs.Standard.Spaces.{texts}
use Rattle.wc_declare.specs.Standard.Inner.{local_ids}
use Rattle.wc_declare.proofs.Adding.{texts-append}
use Rattle.wc_declare.proofs.Faults.{next}
use Rattle.wc_resolve_func.specs.Standard.Locals.{params_from, id_at, behind}

-- of the declarations `all` behind `start`, the `rest` is still to come
pub record Growing (space : Space) (start : List (Option (List ℕ))) (all rest : List (Option Identifier)) : Type 0 where
  pub so_far : List (Option (List ℕ))
  pub kept : IsSpace so_far space
  pub whole : so_far ++ texts rest ≡ start ++ texts all

pub begun : (space : Space) (start : List (Option (List ℕ))) (all : List (Option Identifier)) → IsSpace start space
    → Growing space start all all
begun space start all w = record { so_far = start; kept = w; whole = refl }

-- one more step
pub grown : (old new : Space) (start : List (Option (List ℕ))) (all from ds rest : List (Option Identifier))
    → from ≡ ds ++ rest
    → Growing old start all from → ((x : List (Option (List ℕ))) → IsSpace x old → IsSpace (x ++ texts ds) new)
    → Growing new start all rest
grown old new start all from ds rest e w h = record {
  so_far = w.so_far ++ texts ds;
  kept = h w.so_far w.kept;
  whole = append_assoc w.so_far (texts ds) (texts rest)
      ∙ ap (λ (x : List (Option (List ℕ))). w.so_far ++ x) (sym (texts-append ds rest))
      ∙ ap (λ (x : List (Option Identifier)). w.so_far ++ texts x) (sym e) ∙ w.whole;
}

-- nothing is left
pub finished : (space : Space) (start : List (Option (List ℕ))) (all rest : List (Option Identifier)) → rest ≡ []
    → Growing space start all rest → IsSpace (start ++ texts all) space
finished space start all rest e w =
    subst (λ (x : List (Option (List ℕ))). IsSpace x space)
    (sym (append-nil w.so_far) ∙ ap (λ (x : List (Option Identifier)). w.so_far ++ texts x) (sym e) ∙ w.whole) w.kept

-- parameters without identifiers
pub none-named : (place count : ℕ) → replicate count None ≡ texts (params_from place count [])
none-named place zero = refl
none-named place (suc count) = ap (λ (x : List (Option (List ℕ))). None ∷ x) (none-named (suc place) count)

-- locals without identifiers
unnamed-locals : (ty : ValType) (token count : ℕ)
    → replicate count None ≡ texts (local_ids (locals_from None ty token count))
unnamed-locals ty token zero = refl
unnamed-locals ty token (suc count) = ap (λ (x : List (Option (List ℕ))). None
    ∷ x) (unnamed-locals ty (suc token) count)

pub unnamed-group : (g : LocalGroup) → g.id ≡ None → replicate g.count None ≡ texts (local_ids (locals_of g))
unnamed-group g e = rw e (unnamed-locals g.ty g.token g.count)

-- ---- types of locals

same-types : (id : Option Identifier) (ty : ValType) (token count : ℕ)
    → map (λ (l : Local). l.ty) (locals_from id ty token count) ≡ replicate count ty
same-types id ty token zero = refl
same-types id ty token (suc count) = ap (λ (x : List ValType). ty ∷ x) (same-types id ty (suc token) count)

pub split : (gs : List LocalGroup) (i : ℕ) (g : LocalGroup) → i < length gs → g ≡ get_or gs i g
    → written_out (drop i gs) ≡ locals_of g ++ written_out (drop (i + 1) gs)
split gs i g lt e = ap (λ (x : List LocalGroup). written_out x) (next gs i g lt)
    ∙ ap (λ (x : LocalGroup). locals_of x ++ written_out (drop (i + 1) gs)) (sym e)

group-length : (id : Option Identifier) (ty : ValType) (token count : ℕ)
    → length (locals_from id ty token count) ≡ count
group-length id ty token zero = refl
group-length id ty token (suc count) = ap (λ n. suc n) (group-length id ty (suc token) count)

-- how many are still to come
pub split-length : (gs : List LocalGroup) (i : ℕ) (g : LocalGroup) → i < length gs → g ≡ get_or gs i g
    → length (written_out (drop i gs)) ≡ g.count + length (written_out (drop (i + 1) gs))
split-length gs i g lt e = ap (λ (x : List Local). length x) (split gs i g lt e)
    ∙ length-append (locals_of g) (written_out (drop (i + 1) gs))
    ∙ ap (λ n. n + length (written_out (drop (i + 1) gs))) (group-length g.id g.ty g.token g.count)

-- the types of one more group
pub types-more : (gs : List LocalGroup) (i : ℕ) (g : LocalGroup) (old new all : List ValType) → i < length gs
    → g ≡ get_or gs i g
    → new ≡ old ++ replicate g.count g.ty
    → old ++ map (λ (l : Local). l.ty) (written_out (drop i gs)) ≡ all
    → new ++ map (λ (l : Local). l.ty) (written_out (drop (i + 1) gs)) ≡ all
types-more gs i g old new all lt e f h =
    let rest = map (λ (l : Local). l.ty) (written_out (drop (i + 1) gs)) in
    ap (λ (x : List ValType). x ++ rest) f
    ∙ append_assoc old (replicate g.count g.ty) rest
    ∙ ap (λ (x : List ValType). old ++ (x ++ rest)) (sym (same-types g.id g.ty g.token g.count))
    ∙ ap (λ (x : List ValType). old ++ x) (sym (map-append (λ (l : Local).
    l.ty) (locals_of g) (written_out (drop (i + 1) gs))))
    ∙ ap (λ (x : List Local). old ++ map (λ (l : Local). l.ty) x) (sym (split gs i g lt e)) ∙ h

-- they are within what all need
pub types-room : (gs : List LocalGroup) (i : ℕ) (g : LocalGroup) (types : List ValType) → i < length gs
    → g ≡ get_or gs i g
    → types ++ map (λ (l : Local). l.ty) (written_out (drop i gs)) ≡ map (λ (l : Local). l.ty) (written_out gs)
    → length types + g.count ≤ length (written_out gs)
types-room gs i g types lt e h =
    let rest = written_out (drop i gs) in
    omega (
      arith,
      split-length gs i g lt e,
      ap (λ (x : List ValType). length x) h,
      length-append types (map (λ (l : Local). l.ty) rest),
      length-map rest (λ (l : Local). l.ty),
      length-map (written_out gs) (λ (l : Local). l.ty),
    )

-- ---- parameters

pub params-next : (place count used after : ℕ) (names : List ParamName) → place < count
    → drop after names ≡ behind place (drop used names)
    → params_from place (count - place) (drop used names)
    ≡ (id_at place (drop used names) ∷ []) ++ params_from (place + 1) (count - (place + 1)) (drop after names)
params-next place count used after names lt e =
    let s : count - place ≡ suc (count - (place + 1)) = omega (arith, lt) in
    let p : suc place ≡ place + 1 = omega arith in
    ap (λ (n : ℕ). params_from place n (drop used names)) s
    ∙ ap (λ (n : ℕ). id_at place (drop used names)
    ∷ params_from n (count - (place + 1)) (behind place (drop used names))) p
    ∙ ap (λ (x : List ParamName). id_at place (drop used names)
    ∷ params_from (place + 1) (count - (place + 1)) x) (sym e)

pub unnamed-params : (count : ℕ) (names : List ParamName) (space : Space) (ds : List (Option (List ℕ)))
    → true ≡ (length names == 0)
    → IsSpace (ds ++ replicate count None) space → IsSpace (ds ++ texts (params_from 0 count names)) space
unnamed-params count [] space ds e w = subst (λ (x : List (Option (List ℕ))).
    IsSpace (ds ++ x) space) (none-named 0 count) w
unnamed-params count (n ∷ ns) space ds e w = absurd (omega (arith, eqb-true (length (n ∷ ns)) 0 (sym e)))
