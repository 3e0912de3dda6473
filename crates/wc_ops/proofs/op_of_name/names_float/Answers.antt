-- A word that is none of those that are compared is a float's name by how it begins.
use Rattle.std.proofs.Common.{◌≡◌, ℕ, Bool, true, false, List, codes, nat_eq, ◌||◌, refl}
use Rattle.std.specs.Str.{bytes_eq}
use Rattle.std.specs.List.{starts_with}
use Rattle.std.proofs.Math.Bool.{or-false}
use Rattle.std.proofs.lemmas.Slice.Eq.{bytes_eq-Decides}
use Rattle.wc_ops.specs.Standard.NameMeaning.{is_float_name}
use Rattle.wc_ops.proofs.op_of_name.names_float.Goals as goal

differs : (w v : List ℕ) → (w ≡ v → ⊥) → bytes_eq w v ≡ false
differs w v n = go (bytes_eq w v) refl
  where
    go : (b : Bool) → bytes_eq w v ≡ b → b ≡ false
    go true e = absurd (n ((bytes_eq-Decides w v).0 e))
    go false e = refl

begins : (w : List ℕ)
    → (w ≡ codes "i32.trunc_f32_s" → ⊥)
    → (w ≡ codes "i32.trunc_f32_u" → ⊥)
    → (w ≡ codes "i32.trunc_f64_s" → ⊥)
    → (w ≡ codes "i32.trunc_f64_u" → ⊥)
    → (w ≡ codes "i64.trunc_f32_s" → ⊥)
    → (w ≡ codes "i64.trunc_f32_u" → ⊥)
    → (w ≡ codes "i64.trunc_f64_s" → ⊥)
    → (w ≡ codes "i64.trunc_f64_u" → ⊥)
    → (w ≡ codes "i32.reinterpret_f32" → ⊥)
    → (w ≡ codes "i64.reinterpret_f64" → ⊥)
    → is_float_name w ≡ (starts_with nat_eq w (codes "f32.") || starts_with nat_eq w (codes "f64."))
begins w n0 n1 n2 n3 n4 n5 n6 n7 n8 n9 =
    rw (
      differs w _ n0,
      differs w _ n1,
      differs w _ n2,
      differs w _ n3,
      differs w _ n4,
      differs w _ n5,
      differs w _ n6,
      differs w _ n7,
      differs w _ n8,
      differs w _ n9,
    ) (simp or-false)

pub returns-then-starts_with : goal.returns-then-starts_with
returns-then-starts_with c =
    let e = begins c.args.word.now
    c.in_default.not-text c.in_default.not-text-2 c.in_default.not-text-3 c.in_default.not-text-4
    c.in_default.not-text-5 c.in_default.not-text-6 c.in_default.not-text-7
    c.in_default.not-text-8 c.in_default.not-text-9 c.in_default.not-text-10 in
    let b = c.as_bytes-bytes.ensures.value in
    let s = c.starts_with.ensures.value in
    rw (e, ← b, ← s, c.if-starts_with.true) refl

pub returns-else-starts_with : goal.returns-else-starts_with
returns-else-starts_with c =
    let e = begins c.args.word.now
    c.in_default.not-text c.in_default.not-text-2 c.in_default.not-text-3 c.in_default.not-text-4
    c.in_default.not-text-5 c.in_default.not-text-6 c.in_default.not-text-7
    c.in_default.not-text-8 c.in_default.not-text-9 c.in_default.not-text-10 in
    let b = c.as_bytes-bytes.ensures.value in
    let s = c.starts_with.ensures.value in
    let t = c.starts_with-else-starts_with.ensures.value in
    rw (e, ← b, ← s, c.if-starts_with.false) t
