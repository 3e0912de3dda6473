-- Counts along fields.
use Rattle.std.proofs.Common.{◌≡◌, ℕ, ◌+◌, ◌-◌, ◌<◌, ◌≤◌, ◌^◌, List, ◌++◌, length, drop, get_or, Option, sym, ap, ◌∙◌}
use Rattle.std.proofs.Common.{arith}
use Rattle.wc_surface.specs.Standard.Identifiers.{Identifier}
use Rattle.wc_surface.specs.declared.field.Field.{Field}
use Rattle.wc_surface.specs.declared.field.Field.TheVariants as field
use Rattle.wc_surface.specs.declared.field.ImportField.{ImportField}
use Rattle.wc_declare.specs.declared.kind.SpaceKind.{SpaceKind}
use Rattle.wc_declare.specs.declared.kind.SpaceKind.TheVariants as kind
use Rattle.wc_declare.specs.Standard.Spaces.{brings, declares}
use Rattle.wc_declare.proofs.Faults.{next}
use Rattle.wc_resolve.specs.declared.counts.Counts.{Counts}
use Rattle.wc_resolve.specs.Standard.Counts.{counts_after, along}
use Rattle.wc_resolve.specs.Kept.Counted.{AtMost}
use Rattle.wc_resolve.proofs.Rows.{part}

brought-count : (k : SpaceKind) (f : ImportField) (n : ℕ) → ((id : Option Identifier) → n ≡ length (brings k f.desc id))
    → n ≡ length (declares k (field.Import f))
brought-count kind.Type f n h = h f.id
brought-count kind.Func f n h = h f.id
brought-count kind.Table f n h = h f.id
brought-count kind.Memory f n h = h f.id
brought-count kind.Global f n h = h f.id

-- an import declares what it brings
pub import-count : (k : SpaceKind) (x : Field) (f : ImportField) (n : ℕ) → x ≡ field.Import f
    → ((id : Option Identifier) → n ≡ length (brings k f.desc id)) → n ≡ length (declares k x)
import-count k x f n e h = brought-count k f n h ∙ ap (λ (y : Field). length (declares k y)) (sym e)

module _ {X : Type 0} (g : Counts → Field → List X) where
  pub along-more : (c d : Counts) (fs : List Field) (i : ℕ) (f : Field) (out new all : List X) → i < length fs
      → f ≡ get_or fs i f
      → d ≡ counts_after c f → new ≡ out ++ g c f
      → out ++ along g c (drop i fs) ≡ all → new ++ along g d (drop (i + 1) fs) ≡ all
  along-more c d fs i f out new all lt e k h w =
      part out new all (g c f) (along g d (drop (i + 1) fs)) (along g c (drop i fs))
      (ap (λ (x : List Field). along g c x) (next fs i f lt)
      ∙ ap (λ (y : Field). g c y ++ along g (counts_after c y) (drop (i + 1) fs)) (sym e)
      ∙ ap (λ (x : Counts). g c f ++ along g x (drop (i + 1) fs)) (sym k)) h w
