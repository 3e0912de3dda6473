-- The order of fields, one field after another.
use Rattle.std.proofs.Common.{◌≡◌, ℕ, ◌+◌, ◌<◌, Bool, ◌||◌, List, ◌++◌, length, drop, get_or, Option, sym, ap, ◌∙◌}
use Rattle.wc_resolve_code.specs.declared.why.NameWhy.{NameWhy}
use Rattle.wc_spaces.specs.declared.noted.Fault.{Fault}
use Rattle.wc_spaces.specs.Standard.Least.{least_from}
use Rattle.wc_surface.specs.declared.field.Field.{Field}
use Rattle.wc_declare.specs.declared.order.Sort.{Sort}
use Rattle.wc_declare.specs.Standard.Order.{sort_of, late, late_after, defines, second, second_after, starts}
use Rattle.wc_declare.proofs.Faults.{next, told}

module _ (fs : List Field) (i : ℕ) (f : Field) (s : Sort) (seen now : Bool) (o p all : Option (Fault NameWhy)) where
  pub late-next : i < length fs → f ≡ get_or fs i f → s ≡ sort_of f → now ≡ (seen || defines s)
      → p ≡ least_from o (late seen s)
      → least_from o (late_after seen (drop i fs)) ≡ all → least_from p (late_after now (drop (i + 1) fs)) ≡ all
  late-next lt e g n h w = rw (n, g)
      (told o p all (late seen (sort_of f)) (late_after (seen || defines (sort_of f)) (drop (i + 1) fs)) (rw g at h)
      (ap (λ (x : Field). least_from o (late seen (sort_of x) ++ late_after (seen || defines (sort_of x))
      (drop (i + 1) fs))) e
      ∙ ap (λ (x : List Field). least_from o (late_after seen x)) (sym (next fs i f lt)) ∙ w))

  pub second-next : i < length fs → f ≡ get_or fs i f → s ≡ sort_of f → now ≡ (seen || starts s)
      → p ≡ least_from o (second seen s)
      → least_from o (second_after seen (drop i fs)) ≡ all → least_from p (second_after now (drop (i + 1) fs)) ≡ all
  second-next lt e g n h w = rw (n, g)
      (told o p all (second seen (sort_of f)) (second_after (seen || starts (sort_of f)) (drop (i + 1) fs)) (rw g at h)
      (ap (λ (x : Field). least_from o (second seen (sort_of x) ++ second_after (seen || starts (sort_of x))
      (drop (i + 1) fs))) e
      ∙ ap (λ (x : List Field). least_from o (second_after seen x)) (sym (next fs i f lt)) ∙ w))
