-- Where no import stands behind a definition, imports come first in each index space.
use Rattle.std.proofs.Common.{◌≡◌, Bool, true, false, List, [], ◌∷◌, ◌++◌, Option, refl, sym, ap, ◌∙◌, append_assoc}
use Rattle.wc_surface.specs.Standard.Identifiers.{Identifier}
use Rattle.wc_surface.specs.declared.field.Field.{Field}
use Rattle.wc_surface.specs.declared.field.Field.TheVariants as field
use Rattle.wc_surface.specs.declared.field.TypeField.{TypeField}
use Rattle.wc_surface.specs.declared.field.ImportDesc.{ImportDesc}
use Rattle.wc_surface.specs.declared.field.ImportDesc.TheVariants as import
use Rattle.wc_surface.specs.declared.field.FuncDesc.{FuncDesc}
use Rattle.wc_surface.specs.declared.field.FuncDesc.TheVariants as func
use Rattle.wc_surface.specs.declared.field.TableDesc.{TableDesc}
use Rattle.wc_surface.specs.declared.field.TableDesc.TheVariants as table
use Rattle.wc_surface.specs.declared.field.MemoryDesc.{MemoryDesc}
use Rattle.wc_surface.specs.declared.field.MemoryDesc.TheVariants as memory
use Rattle.wc_surface.specs.declared.field.GlobalDesc.{GlobalDesc}
use Rattle.wc_surface.specs.declared.field.GlobalDesc.TheVariants as global
use Rattle.wc_declare.specs.declared.kind.SpaceKind.{SpaceKind}
use Rattle.wc_declare.specs.declared.kind.SpaceKind.TheVariants as kind
use Rattle.wc_declare.specs.declared.order.Sort.{Sort}
use Rattle.wc_declare.specs.declared.order.Sort.TheVariants.{Import, Definition, Start, Other}
use Rattle.wc_declare.specs.Standard.Spaces.{brings, declares, space}
use Rattle.wc_declare.specs.Standard.Order.{func_sort, table_sort, memory_sort, global_sort, sort_of, late, late_after}
use Rattle.wc_declare.specs.Standard.Order.{defines, if_import, unless_import, imported, defined}

first-none : {X : Type 0} (a b : List X) → a ++ b ≡ [] → (a ≡ []) × (b ≡ [])
first-none [] b e = (refl, e)
first-none (x ∷ a) b e = absurd cc

no-import : (s : Sort) (ds : List (Option Identifier)) → late true s ≡ [] → if_import s ds ≡ []
no-import (Import token) ds e = absurd cc
no-import Definition ds e = refl
no-import (Start token) ds e = refl
no-import Other ds e = refl

all-defined : (s : Sort) (ds : List (Option Identifier)) → late true s ≡ [] → unless_import s ds ≡ ds
all-defined (Import token) ds e = absurd cc
all-defined Definition ds e = refl
all-defined (Start token) ds e = refl
all-defined Other ds e = refl

-- behind a definition nothing is imported
none-imported : (k : SpaceKind) (fs : List Field) → late_after true fs ≡ [] → imported k fs ≡ []
none-imported k [] e = refl
none-imported k (f ∷ fs) e =
    let h = first-none (late true (sort_of f)) (late_after true fs) e in
    rw (no-import (sort_of f) (declares k f) h.0) (none-imported k fs h.1)

rest-defined : (k : SpaceKind) (fs : List Field) → late_after true fs ≡ [] → defined k fs ≡ space k fs
rest-defined k [] e = refl
rest-defined k (f ∷ fs) e =
    let h = first-none (late true (sort_of f)) (late_after true fs) e in
    rw (all-defined (sort_of f) (declares k f) h.0, rest-defined k fs h.1) refl

-- types are not imported
brings-no_type : (d : ImportDesc) (id : Option Identifier) → brings kind.Type d id ≡ []
brings-no_type (import.Func u) id = refl
brings-no_type (import.Table l) id = refl
brings-no_type (import.Memory l) id = refl
brings-no_type (import.Global t) id = refl

of-none : (s : Sort) → if_import s [] ≡ []
of-none (Import token) = refl
of-none Definition = refl
of-none (Start token) = refl
of-none Other = refl

no-type : (f : Field) → if_import (sort_of f) (declares kind.Type f) ≡ []
no-type (field.FuncType f) = refl
no-type (field.Import f) = brings-no_type f.desc f.id
no-type (field.Func f) = of-none (func_sort f.desc)
no-type (field.Table f) = of-none (table_sort f.desc)
no-type (field.Memory f) = of-none (memory_sort f.desc)
no-type (field.Global f) = of-none (global_sort f.desc)
no-type (field.Export f) = refl
no-type (field.Start f) = refl
no-type (field.Elem f) = refl
no-type (field.Data f) = refl

no-types : (fs : List Field) → imported kind.Type fs ≡ []
no-types [] = refl
no-types (f ∷ fs) = rw (no-type f) (no-types fs)

-- another field declares nothing
abbrev is_silent : Field → Bool
is_silent (field.Export f) = true
is_silent (field.Start f) = true
is_silent (field.Elem f) = true
is_silent (field.Data f) = true
is_silent _ = false

silent : (k : SpaceKind) (f : Field) → is_silent f ≡ true → declares k f ≡ []
silent kind.Type (field.FuncType f) e = absurd cc
silent kind.Type (field.Import f) e = absurd cc
silent kind.Type (field.Func f) e = absurd cc
silent kind.Type (field.Table f) e = absurd cc
silent kind.Type (field.Memory f) e = absurd cc
silent kind.Type (field.Global f) e = absurd cc
silent kind.Type (field.Export f) e = refl
silent kind.Type (field.Start f) e = refl
silent kind.Type (field.Elem f) e = refl
silent kind.Type (field.Data f) e = refl
silent kind.Func (field.FuncType f) e = absurd cc
silent kind.Func (field.Import f) e = absurd cc
silent kind.Func (field.Func f) e = absurd cc
silent kind.Func (field.Table f) e = absurd cc
silent kind.Func (field.Memory f) e = absurd cc
silent kind.Func (field.Global f) e = absurd cc
silent kind.Func (field.Export f) e = refl
silent kind.Func (field.Start f) e = refl
silent kind.Func (field.Elem f) e = refl
silent kind.Func (field.Data f) e = refl
silent kind.Table (field.FuncType f) e = absurd cc
silent kind.Table (field.Import f) e = absurd cc
silent kind.Table (field.Func f) e = absurd cc
silent kind.Table (field.Table f) e = absurd cc
silent kind.Table (field.Memory f) e = absurd cc
silent kind.Table (field.Global f) e = absurd cc
silent kind.Table (field.Export f) e = refl
silent kind.Table (field.Start f) e = refl
silent kind.Table (field.Elem f) e = refl
silent kind.Table (field.Data f) e = refl
silent kind.Memory (field.FuncType f) e = absurd cc
silent kind.Memory (field.Import f) e = absurd cc
silent kind.Memory (field.Func f) e = absurd cc
silent kind.Memory (field.Table f) e = absurd cc
silent kind.Memory (field.Memory f) e = absurd cc
silent kind.Memory (field.Global f) e = absurd cc
silent kind.Memory (field.Export f) e = refl
silent kind.Memory (field.Start f) e = refl
silent kind.Memory (field.Elem f) e = refl
silent kind.Memory (field.Data f) e = refl
silent kind.Global (field.FuncType f) e = absurd cc
silent kind.Global (field.Import f) e = absurd cc
silent kind.Global (field.Func f) e = absurd cc
silent kind.Global (field.Table f) e = absurd cc
silent kind.Global (field.Memory f) e = absurd cc
silent kind.Global (field.Global f) e = absurd cc
silent kind.Global (field.Export f) e = refl
silent kind.Global (field.Start f) e = refl
silent kind.Global (field.Elem f) e = refl
silent kind.Global (field.Data f) e = refl

module _ (k : SpaceKind) (fs : List Field) (ih : late_after false fs ≡ []
    → imported k fs ++ defined k fs ≡ space k fs) where
  from-import : (ds : List (Option Identifier)) → late_after false fs ≡ []
      → (ds ++ imported k fs) ++ defined k fs ≡ ds ++ space k fs
  from-import ds e = append_assoc ds (imported k fs) (defined k fs)
      ∙ ap (λ (x : List (Option Identifier)). ds ++ x) (ih e)

  from-definition : (ds : List (Option Identifier)) → late_after true fs ≡ []
      → imported k fs ++ (ds ++ defined k fs) ≡ ds ++ space k fs
  from-definition ds e = rw (none-imported k fs e, rest-defined k fs e) refl

  from-silence : (ds : List (Option Identifier)) → ds ≡ [] → late_after false fs ≡ []
      → imported k fs ++ (ds ++ defined k fs) ≡ ds ++ space k fs
  from-silence ds none e = rw none (ih e)

  from-func : (d : FuncDesc) (ds : List (Option Identifier)) → late_after (defines (func_sort d)) fs ≡ []
      → (if_import (func_sort d) ds ++ imported k fs) ++ (unless_import (func_sort d) ds ++ defined k fs) ≡ ds ++ space
      k fs
  from-func (func.Import names) ds e = from-import ds e
  from-func (func.Code locals body) ds e = from-definition ds e

  from-table : (d : TableDesc) (ds : List (Option Identifier)) → late_after (defines (table_sort d)) fs ≡ []
      → (if_import (table_sort d) ds ++ imported k fs) ++ (unless_import (table_sort d) ds ++ defined k fs) ≡ ds ++
      space k fs
  from-table (table.Import names limits) ds e = from-import ds e
  from-table (table.Limits limits) ds e = from-definition ds e
  from-table (table.Elems funcs) ds e = from-definition ds e

  from-memory : (d : MemoryDesc) (ds : List (Option Identifier)) → late_after (defines (memory_sort d)) fs ≡ []
      → (if_import (memory_sort d) ds ++ imported k fs) ++ (unless_import (memory_sort d) ds ++ defined k fs) ≡ ds ++
      space k fs
  from-memory (memory.Import names limits) ds e = from-import ds e
  from-memory (memory.Limits limits) ds e = from-definition ds e
  from-memory (memory.Bytes bytes) ds e = from-definition ds e

  from-global : (d : GlobalDesc) (ds : List (Option Identifier)) → late_after (defines (global_sort d)) fs ≡ []
      → (if_import (global_sort d) ds ++ imported k fs) ++ (unless_import (global_sort d) ds ++ defined k fs) ≡ ds ++
      space k fs
  from-global (global.Import names) ds e = from-import ds e
  from-global (global.Init body) ds e = from-definition ds e

-- a type field: types are not imported, and no other space has it
from-type : (k : SpaceKind) (fs : List Field) (f : TypeField)
    → (late_after false fs ≡ [] → imported k fs ++ defined k fs ≡ space k fs)
    → late_after false fs ≡ []
    → imported k fs ++ (declares k (field.FuncType f) ++ defined k fs) ≡ declares k (field.FuncType f) ++ space k fs
from-type kind.Type fs f ih e =
    let same : defined kind.Type fs ≡ space kind.Type fs =
    ap (λ (x : List (Option Identifier)). x ++ defined kind.Type fs) (sym (no-types fs)) ∙ ih e in
    rw (no-types fs, same) refl
from-type kind.Func fs f ih e = ih e
from-type kind.Table fs f ih e = ih e
from-type kind.Memory fs f ih e = ih e
from-type kind.Global fs f ih e = ih e

pub imports-first : (k : SpaceKind) (fs : List Field) → late_after false fs ≡ []
    → imported k fs ++ defined k fs ≡ space k fs
imports-first k [] e = refl
imports-first k (field.FuncType f ∷ fs) e = from-type k fs f (imports-first k fs) e
imports-first k (field.Import f ∷ fs) e = from-import k fs (imports-first k fs) (declares k (field.Import f)) e
imports-first k (field.Func f ∷ fs) e = from-func k fs (imports-first k fs) f.desc (declares k (field.Func f)) e
imports-first k (field.Table f ∷ fs) e = from-table k fs (imports-first k fs) f.desc (declares k (field.Table f)) e
imports-first k (field.Memory f ∷ fs) e = from-memory k fs (imports-first k fs) f.desc (declares k (field.Memory f)) e
imports-first k (field.Global f ∷ fs) e = from-global k fs (imports-first k fs) f.desc (declares k (field.Global f)) e
imports-first k (field.Export f ∷ fs) e = from-silence k fs (imports-first k fs) _ (silent k (field.Export f) refl) e
imports-first k (field.Start f ∷ fs) e = from-silence k fs (imports-first k fs) _ (silent k (field.Start f) refl) e
imports-first k (field.Elem f ∷ fs) e = from-silence k fs (imports-first k fs) _ (silent k (field.Elem f) refl) e
imports-first k (field.Data f ∷ fs) e = from-silence k fs (imports-first k fs) _ (silent k (field.Data f) refl) e
