-- How what is put where a text goes follows one another.
use Rattle.std.proofs.Common.{◌≡◌, ℕ, suc, ◌+◌, ◌<◌, ◌≤◌, List, [], ◌∷◌, ◌++◌, length, get_or, drop, sym, ap, subst}
use Rattle.std.proofs.Common.{◌∙◌, append_assoc, add-one}
use Rattle.std.proofs.lemmas.List.{append-nil, drop_all}
use Rattle.wc_print.specs.Standard.Printed.{Item, printed}
use Rattle.wc_print.specs.Standard.Printable.{AreSpelled, Put}
use Rattle.wc_print.specs.Standard.Going.{Says, Puts, Behind, Leaves}
use Rattle.wc_print.proofs.Writing.Putting.{printed-append, spelled-append, drop-first}

module _ {F S : Type 0} {Has : F → S → List ℕ → Type 0} where
  -- the same bytes
  pub says-same : {bytes same : List ℕ} {old new : S} → bytes ≡ same → Says Has bytes old new → Says Has same old new
  says-same {old = old} {new = new} e h = subst (λ (x : List ℕ). Says Has x old new) e h

  -- bytes, and then others
  pub says-then : {a b : List ℕ} {old mid new : S} → Says Has a old mid → Says Has b mid new → Says Has (a ++ b) old new
  says-then {a = a} {b = b} {new = new} h k = record {
    all = λ first said has.
        subst (λ (x : List ℕ). Has first new x) (append_assoc said a b)
        (k.all first (said ++ a) (h.all first said has));
  }

  -- items, and then others
  pub chain : {a b : List Item} {old mid new : S} → Puts Has a old mid → Puts Has b mid new → Puts Has (a ++ b) old new
  chain {a = a} {b = b} h k = record {
    spelled = spelled-append a b h.spelled k.spelled;
    bytes = says-same (sym (printed-append a b)) (says-then h.bytes k.bytes);
  }

  -- nothing was put
  pub says-none : (old : S) → Says Has [] old old
  says-none old = record { all = λ first said has. subst (λ (x : List ℕ). Has first old x) (sym (append-nil said)) has }

  pub nothing : (old : S) → Puts Has [] old old
  nothing old = record { spelled = tt; bytes = says-none old }

  -- words, parentheses and spaces
  pub literal : (items : List Item) {old new : S} → AreSpelled items → Says Has (printed items) old new
      → Puts Has items old new
  literal items h k = record { spelled = h; bytes = k }

  -- a text that is known to be these items
  pub text : (items : List Item) {bytes : List ℕ} {old new : S} → AreSpelled items → bytes ≡ printed items
      → Says Has bytes old new → Puts Has items old new
  text items h e k = record { spelled = h; bytes = says-same e k }

  -- items that were put together elsewhere
  pub written : {items : List Item} {bytes : List ℕ} {old new : S} → Put items [] bytes → Says Has bytes old new
      → Puts Has items old new
  written {items = items} h k = text items h.spelled h.bytes k

  -- ---- loops

  pub leaves-less : {first left all : List Item} {out mid old : S} → Puts Has first out mid
      → Leaves Has (first ++ left) all out old → Leaves Has left all mid old
  leaves-less h k = record { finish = λ new p. k.finish new (chain h p) }

  -- some of those that were left, and then others
  pub leaves-then : {less left all : List Item} {out mid old : S} → Leaves Has less left out mid
      → Leaves Has left all mid old
      → Leaves Has less all out old
  leaves-then h k = record { finish = λ new p. k.finish new (h.finish new p) }

  -- the same behind a step that puts no item
  pub leaves-same : {left all : List Item} {out mid old : S} → Puts Has [] out mid → Leaves Has left all out old
      → Leaves Has left all mid old
  leaves-same h k = record { finish = λ new p. k.finish new (chain h p) }

  pub leaves-none : {all : List Item} {out old : S} → Leaves Has [] all out old → Puts Has all old out
  leaves-none {out = out} k = k.finish out (nothing out)

  -- over a list by an index: g is what all items put, and f what the first one does
  module _ {A : Type 0} (g : List A → List Item) (f : A → List Item) (none : g [] ≡ [])
      (some : (x : A) (xs : List A) → g (x ∷ xs) ≡ f x ++ g xs) where
    pub each-less : (xs : List A) (i : ℕ) (x d : A) {all : List Item} {out mid old : S} → x ≡ get_or xs i d
        → i < length xs
        → Puts Has (f x) out mid → Leaves Has (g (drop i xs)) all out old → Leaves Has (g (drop (i + 1) xs)) all mid old
    each-less xs i x d {all = all} {out = out} {old = old} is lt h k =
        let e : g (drop i xs) ≡ f x ++ g (drop (suc i) xs) = ap g (drop-first xs i x d is lt)
        ∙ some x (drop (suc i) xs) in
        rw add-one (leaves-less h (subst (λ (l : List Item). Leaves Has l all out old) e k))

    pub each-none : (xs : List A) (i : ℕ) {all : List Item} {out old : S} → length xs ≤ i
        → Leaves Has (g (drop i xs)) all out old → Puts Has all old out
    each-none xs i {all = all} {out = out} {old = old} le k =
        let e : g (drop i xs) ≡ [] = ap g (drop_all i xs le) ∙ none in
        leaves-none (subst (λ (l : List Item). Leaves Has l all out old) e k)

-- ---- with bytes behind

module _ {F S : Type 0} {Has : F → S → List ℕ → Type 0} where
  -- items that are written behind it
  pub on-page : {items : List Item} (out : S) {old new : List ℕ} → Put items old new
      → Puts (Behind Has) items (out, old) (out, new)
  on-page {items = items} out {old = old} h = record {
    spelled = h.spelled;
    bytes = record {
      all = λ first said has. record {
        front = has.front;
        has = has.has;
        is =
            ap (λ (x : List ℕ). x ++ printed items) has.is ∙ append_assoc has.front old (printed items)
            ∙ ap (λ (x : List ℕ). has.front ++ x) (sym h.bytes);
      };
    };
  }

  -- what was behind is put
  pub then-out : {items : List Item} {old mid new : S} {front page : List ℕ}
      → Puts (Behind Has) items (old, front) (mid, page)
      → Says Has page mid new → Puts (Behind Has) items (old, front) (new, [])
  then-out {page = page} h k = record {
    spelled = h.spelled;
    bytes = record {
      all = λ first said has.
          let out = h.bytes.all first said has in
          record {
            front = out.front ++ page;
            has = k.all first out.front out.has;
            is = out.is ∙ sym (append-nil (out.front ++ page));
          };
    };
  }

  pub page-out : {old new : S} {page : List ℕ} → Says Has page old new → Puts (Behind Has) [] (old, page) (new, [])
  page-out {old = old} {page = page} k = then-out (nothing (old, page)) k

  -- items with nothing behind
  pub none-behind : {items : List Item} {old new : S} → Puts Has items old new
      → Puts (Behind Has) items (old, []) (new, [])
  none-behind {items = items} h = record {
    spelled = h.spelled;
    bytes = record {
      all = λ first said has. record {
        front = has.front ++ printed items;
        has = h.bytes.all first has.front has.has;
        is =
            ap (λ (x : List ℕ). x ++ printed items) (has.is ∙ append-nil has.front)
            ∙ sym (append-nil (has.front ++ printed items));
      };
    };
  }

  pub all-out : {items : List Item} {old new : S} → Puts (Behind Has) items (old, []) (new, []) → Puts Has items old new
  all-out {new = new} h = record {
    spelled = h.spelled;
    bytes = record {
      all = λ first said has.
          let out = h.bytes.all first said (record { front = said; has = has; is = sym (append-nil said) }) in
          subst (λ (x : List ℕ). Has first new x) (sym (out.is ∙ append-nil out.front)) out.has;
    };
  }
