-- What fields declare, one field after another.
use Rattle.std.proofs.Common.{◌≡◌, ℕ, ◌+◌, ◌-◌, ◌^◌, ◌<◌, ◌≤◌, false, List, [], ◌++◌, length, drop, get_or, map, Option}
use Rattle.std.proofs.Common.{None, refl, sym, ap, ◌∙◌, subst, append_assoc, arith}
use Rattle.std.proofs.lemmas.List.{append-nil}
use Rattle.std.specs.List.{flat_map}
use Rattle.wc_ast.specs.declared.func_type.FuncType.{FuncType}
use Rattle.wc_spaces.specs.declared.noted.Fault.{Fault}
use Rattle.wc_spaces.specs.declared.space.Space.{Space}
use Rattle.wc_spaces.specs.declared.types.Types.{Types}
use Rattle.wc_spaces.specs.Kept.Spaces.{IsSpace, size_of}
use Rattle.wc_spaces.specs.Kept.Types.{AreTypes}
use Rattle.wc_spaces.specs.Standard.Least.{least, least_from}
use Rattle.wc_surface.specs.Standard.Identifiers.{Identifier}
use Rattle.wc_surface.specs.Standard.Keys.{key_of}
use Rattle.wc_surface.specs.declared.field.Field.{Field}
use Rattle.wc_resolve_code.specs.declared.why.NameWhy.{NameWhy}
use Rattle.wc_declare.specs.declared.kind.SpaceKind.{SpaceKind}
use Rattle.wc_declare.specs.declared.kind.SpaceKind.TheVariants as kind
use Rattle.wc_declare.specs.declared.declared.Spaces.{Spaces}
use Rattle.wc_declare.specs.declared.gathering.Gathered.{Gathered}
use Rattle.wc_declare.specs.declared.gathering.Repeats.{Repeats}
use Rattle.wc_declare.specs.declared.gathering.Notes.{Notes}
use Rattle.wc_declare.specs.Standard.Spaces.{declares, space, texts, repeated, repeated_after}
use Rattle.wc_declare.specs.Standard.Order.{sort_of, late_after, second_after}
use Rattle.wc_declare.specs.Standard.Inner.{inner_faults}
use Rattle.wc_declare.specs.Standard.Types.{written_type, written_types}
use Rattle.wc_declare.specs.Kept.Declaring.{AreSpaces}
use Rattle.wc_declare.specs.Kept.Gathered.{NoSpaces, NoNotes, AtMost, Adds, Declares, Lists, Grows, AreTold}
use Rattle.wc_declare.proofs.Faults.{next, faults-next}
use Rattle.wc_declare.proofs.Adding.{Adding, begun, added, space-next}
use Rattle.wc_declare.proofs.Ordering.{late-next, second-next}

-- ---- how many there are

-- one field adds one at most to each index space
pub few-more : (most : ℕ) (f : Field) (old new : Spaces) (told now : Repeats) → AtMost most old
    → Declares f old new told now
    → AtMost (most + 1) new
few-more most f old new told now a d = record {
  types = omega (arith, a.types, d.types.size);
  funcs = omega (arith, a.funcs, d.funcs.size);
  tables = omega (arith, a.tables, d.tables.size);
  memories = omega (arith, a.memories, d.memories.size);
  globals = omega (arith, a.globals, d.globals.size);
}

pub few-enough : (i n : ℕ) (s : Spaces) → i < n → n < 2 ^ 32 → AtMost i s → AtMost (2 ^ 32 - 2) s
few-enough i n s lt few a = record {
  types = omega (arith, lt, few, a.types);
  funcs = omega (arith, lt, few, a.funcs);
  tables = omega (arith, lt, few, a.tables);
  memories = omega (arith, lt, few, a.memories);
  globals = omega (arith, lt, few, a.globals);
}

-- ---- what is declared

-- what was found of a field is what it declares
pub adds-found : (k : SpaceKind) (f : Field) (ds : List (Option Identifier)) (old new : Space)
    (o p : Option (Fault NameWhy))
    → ds ≡ declares k f → size_of new ≤ size_of old + 1
    → ((x : List (Option (List ℕ))) → IsSpace x old → IsSpace (x ++ texts ds) new)
    → ((x : List (Option (List ℕ))) → IsSpace x old → p ≡ least_from o (repeated_after x ds))
    → Adds (declares k f) old new o p
adds-found k f ds old new o p e n w g =
    subst (λ (x : List (Option Identifier)). Adds x old new o p) e (record { size = n; space = w; noted = g })

-- of all that is declared in an index space, what the rest of the fields declare is still to come
abbrev pub Placing : SpaceKind → List Field → List Field → Space → Option (Fault NameWhy) → Type 0
Placing k all rest s noted = Adding (λ (ds : List (Option (List ℕ))).
    IsSpace ds s) [] (least (repeated (space k all))) noted
    (space k all) (space k rest)

-- of all types that fields define, those of the rest of the fields are still to come
pub record Defining (all rest : List Field) (types : Types) : Type 0 where
  pub so_far : List FuncType
  pub listed : AreTypes (map key_of so_far) types
  pub whole : so_far ++ written_types rest ≡ written_types all

-- with what the rest of the fields declares and with what is wrong with it, these are what all fields declare and what
-- is wrong with it
pub record Walking (all rest : List Field) (g : Gathered) (n : Notes) : Type 0 where
  pub types : Placing kind.Type all rest g.spaces.types n.repeats.types.first
  pub funcs : Placing kind.Func all rest g.spaces.funcs n.repeats.funcs.first
  pub tables : Placing kind.Table all rest g.spaces.tables n.repeats.tables.first
  pub memories : Placing kind.Memory all rest g.spaces.memories n.repeats.memories.first
  pub globals : Placing kind.Global all rest g.spaces.globals n.repeats.globals.first
  pub defining : Defining all rest g.types
  pub late : least_from n.order.late.first (late_after n.order.defined rest) ≡ least (late_after false all)
  pub second : least_from n.order.second.first (second_after n.order.started rest) ≡ least (second_after false all)
  pub inner : least_from n.inner.first (flat_map inner_faults rest) ≡ least (flat_map inner_faults all)

-- ---- no field was gone through

placed-first : (k : SpaceKind) (fs : List Field) (s : Space) (o : Option (Fault NameWhy)) → IsSpace [] s → o ≡ None
    → Placing k fs fs s o
placed-first k fs s o w e = rw e (begun (λ (ds : List (Option (List ℕ))). IsSpace ds s) [] None (space k fs) w)

pub walking-begins : (fs : List Field) (g : Gathered) (n : Notes) → NoSpaces g.spaces → AreTypes [] g.types → NoNotes n
    → Walking fs fs g n
walking-begins fs g n s t w = record {
  types = placed-first kind.Type fs g.spaces.types n.repeats.types.first s.types w.types;
  funcs = placed-first kind.Func fs g.spaces.funcs n.repeats.funcs.first s.funcs w.funcs;
  tables = placed-first kind.Table fs g.spaces.tables n.repeats.tables.first s.tables w.tables;
  memories = placed-first kind.Memory fs g.spaces.memories n.repeats.memories.first s.memories w.memories;
  globals = placed-first kind.Global fs g.spaces.globals n.repeats.globals.first s.globals w.globals;
  defining = record { so_far = []; listed = t; whole = refl };
  late = rw (w.late, w.defined) refl;
  second = rw (w.second, w.started) refl;
  inner = rw w.inner refl;
}

-- ---- one more field

module _ (fs : List Field) (i : ℕ) (f : Field) (lt : i < length fs) (e : f ≡ get_or fs i f) where
  placed-more : (k : SpaceKind) (old new : Space) (o p : Option (Fault NameWhy)) → Adds (declares k f) old new o p
      → Placing k fs (drop i fs) old o → Placing k fs (drop (i + 1) fs) new p
  placed-more k old new o p a w =
      added (λ (ds : List (Option (List ℕ))). IsSpace ds old) (λ (ds : List (Option (List ℕ))). IsSpace ds new) []
      (least (repeated (space k fs))) o p (space k fs) (space k (drop i fs)) (declares k f) (space k (drop (i + 1) fs))
      (space-next k fs i f (declares k f) lt e refl) w a.space a.noted

  types-next : written_types (drop i fs) ≡ written_type f ++ written_types (drop (i + 1) fs)
  types-next = ap (λ (x : List Field). written_types x) (next fs i f lt)
      ∙ ap (λ (x : Field). written_type x ++ written_types (drop (i + 1) fs)) (sym e)

  defined-more : (old new : Types) → Lists f old new → Defining fs (drop i fs) old → Defining fs (drop (i + 1) fs) new
  defined-more old new a w = record {
    so_far = w.so_far ++ written_type f;
    listed = a.types w.so_far w.listed;
    whole = append_assoc w.so_far (written_type f) (written_types (drop (i + 1) fs))
        ∙ ap (λ (x : List FuncType). w.so_far ++ x) (sym types-next) ∙ w.whole;
  }

  pub walking-more : (old new : Gathered) (told now : Notes) → Grows f old new told now
      → Walking fs (drop i fs) old told
      → Walking fs (drop (i + 1) fs) new now
  walking-more old new told now g w = record {
    types = placed-more kind.Type old.spaces.types new.spaces.types _ _ g.spaces.types w.types;
    funcs = placed-more kind.Func old.spaces.funcs new.spaces.funcs _ _ g.spaces.funcs w.funcs;
    tables = placed-more kind.Table old.spaces.tables new.spaces.tables _ _ g.spaces.tables w.tables;
    memories = placed-more kind.Memory old.spaces.memories new.spaces.memories _ _ g.spaces.memories w.memories;
    globals = placed-more kind.Global old.spaces.globals new.spaces.globals _ _ g.spaces.globals w.globals;
    defining = defined-more old.types new.types g.types w.defining;
    late = late-next fs i f (sort_of f) told.order.defined now.order.defined told.order.late.first now.order.late.first
        _
        lt e refl g.order.defined g.order.late w.late;
    second = second-next fs i f (sort_of f) told.order.started now.order.started told.order.second.first
        now.order.second.first _ lt e refl g.order.started g.order.second w.second;
    inner = faults-next inner_faults fs i f told.inner.first now.inner.first _ lt e g.inner w.inner;
  }

-- ---- behind the last field

placed-all : (k : SpaceKind) (fs : List Field) (s : Space) (o : Option (Fault NameWhy)) → Placing k fs [] s o
    → IsSpace (texts (space k fs)) s
placed-all k fs s o w =
    subst (λ (x : List (Option (List ℕ))). IsSpace x s) (sym (append-nil w.so_far) ∙ w.whole) w.kept

pub spaces-end : (fs : List Field) (g : Gathered) (n : Notes) → Walking fs [] g n → AreSpaces fs g.spaces
spaces-end fs g n w = record {
  types = placed-all kind.Type fs g.spaces.types _ w.types;
  funcs = placed-all kind.Func fs g.spaces.funcs _ w.funcs;
  tables = placed-all kind.Table fs g.spaces.tables _ w.tables;
  memories = placed-all kind.Memory fs g.spaces.memories _ w.memories;
  globals = placed-all kind.Global fs g.spaces.globals _ w.globals;
}

pub types-end : (fs : List Field) (g : Gathered) (n : Notes) → Walking fs [] g n
    → AreTypes (map key_of (written_types fs)) g.types
types-end fs g n w =
    subst (λ (x : List FuncType). AreTypes (map key_of x) g.types) (sym (append-nil w.defining.so_far)
    ∙ w.defining.whole)
    w.defining.listed

pub notes-end : (fs : List Field) (g : Gathered) (n : Notes) → Walking fs [] g n → AreTold fs n
notes-end fs g n w = record {
  types = w.types.faults;
  funcs = w.funcs.faults;
  tables = w.tables.faults;
  memories = w.memories.faults;
  globals = w.globals.faults;
  late = w.late;
  second = w.second;
  inner = w.inner;
}
