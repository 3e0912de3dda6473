-- Value types as they are put.
use Rattle.std.proofs.Common.{◌≡◌, ◌≢◌, ℕ, zero, suc, ◌-◌, ◌<◌, ◌≤◌, ◌==◌, Bool, true, false, not, List, [], ◌∷◌, ◌++◌}
use Rattle.std.proofs.Common.{◌+◌, ◌∙◌, map, replicate, length, refl, ap, sym, subst}
use Rattle.std.proofs.Common.{sub-one, arith}
use Rattle.std.proofs.lemmas.List.{replicate-append-replicate}
use Rattle.wc_ops.specs.declared.val_type.ValType.{ValType}
use Rattle.wc_ast.specs.declared.locals.Group.{Group}
use Rattle.wc_ast.specs.Standard.LocalGroups.{written_out}
use Rattle.wc_print.specs.Standard.Printed.{Item, opening, closing, word, next, after, printed}
use Rattle.wc_print.specs.Standard.Printable.{is_word}
use Rattle.wc_print.specs.Standard.Going.{Says, Puts, Leaves}
use Rattle.wc_print.specs.Standard.Lines.{type_item}
use Rattle.wc_print.specs.Standard.Layout.{values_items}
use Rattle.wc_print.proofs.Writing.Going.{chain, literal, text, leaves-less, leaves-none}

pub is-true : (b : Bool) → not b ≡ false → b ≡ true
is-true true e = refl
is-true false e = absurd cc

pub not-empty : (ts : List ValType) → false ≡ (length ts == 0) → ts ≢ []
not-empty [] e = absurd cc
not-empty (t ∷ ts) e = λ f. absurd cc

pub not-zero : {n : ℕ} (ts : List ValType) → n ≢ 0 → n ≡ length ts → ts ≢ []
not-zero [] some e = absurd (some e)
not-zero (t ∷ ts) some e = λ f. absurd cc

map-append : (a b : List ValType) → map type_item (a ++ b) ≡ map type_item a ++ map type_item b
map-append [] b = refl
map-append (t ∷ a) b = ap (λ (x : List Item). type_item t ∷ x) (map-append a b)

replicate-apart : (k n : ℕ) (t : ValType) → k ≤ n
    → map type_item (replicate n t) ≡ map type_item (replicate k t) ++ map type_item (replicate (n - k) t)
replicate-apart k n t le =
    let e : n ≡ k + (n - k) = omega (arith, le) in
    ap (λ (m : ℕ). map type_item (replicate m t)) e
    ∙ ap (map type_item) (sym (replicate-append-replicate k (n - k) t))
    ∙ map-append (replicate k t) (replicate (n - k) t)

module _ {F S : Type 0} {Has : F → S → List ℕ → Type 0} where
  -- values behind a word, where there are some
  pub values-put : (w : List ℕ) (ts : List ValType) {head : List ℕ} {old mid out new : S} → ts ≢ [] → is_word w ≡ true
      → head ≡ printed (after opening ∷ next (word w) ∷ []) → Says Has head old mid
      → Puts Has (map type_item ts) mid out
      → Says Has (41 ∷ []) out new → Puts Has (values_items w ts) old new
  values-put w [] some h is e k f = absurd (some refl)
  values-put w (t ∷ ts) some h is e k f =
      chain (text (after opening ∷ next (word w) ∷ []) (tt, (h, tt)) is e)
      (chain k (literal (next closing ∷ []) (tt, tt) f))

  -- so many of one type
  pub count-less : (n : ℕ) (t : ValType) {all : List Item} {out mid old : S} → 0 < n
      → Puts Has (type_item t ∷ []) out mid
      → Leaves Has (map type_item (replicate n t)) all out old
      → Leaves Has (map type_item (replicate (n - 1) t)) all mid old
  count-less zero t lt h k = absurd (omega arith)
  count-less (suc n) t lt h k = rw sub-one (leaves-less h k)

  -- some of them
  pub count-by : (k n : ℕ) (t : ValType) {all : List Item} {out mid old : S} → k ≤ n
      → Puts Has (map type_item (replicate k t)) out mid
      → Leaves Has (map type_item (replicate n t)) all out old
      → Leaves Has (map type_item (replicate (n - k) t)) all mid old
  count-by k n t {all = all} {out = out} {old = old} le h l =
      leaves-less h (subst (λ (items : List Item). Leaves Has items all out old) (replicate-apart k n t le) l)

  pub count-none : (n : ℕ) (t : ValType) {all : List Item} {out old : S} → n ≤ 0
      → Leaves Has (map type_item (replicate n t)) all out old → Puts Has all old out
  count-none zero t le k = leaves-none k
  count-none (suc n) t le k = absurd (omega arith)

pub map-written : (g : Group) (gs : List Group)
    → map type_item (written_out (g ∷ gs)) ≡ map type_item (replicate g.count g.value_type) ++ map type_item
    (written_out gs)
map-written g gs = map-append (replicate g.count g.value_type) (written_out gs)
