-- What one instruction names stands in the order of the text.
use Rattle.std.proofs.Common.{ℕ, suc, ◌≤◌, List, [], ◌∷◌, ◌++◌, arith}
use Rattle.std.specs.Prelude.{flat_map}
use Rattle.wc_syntax.specs.declared.role.Role.{Role}
use Rattle.wc_surface.specs.Standard.Written.Indices.{Index}
use Rattle.wc_surface.specs.Standard.Written.Instructions.{Plain}
use Rattle.wc_parse_code.specs.Standard.Tokens.{KeptToken}
use Rattle.wc_parse_code.specs.Standard.Productions.Tokens.{Said, IsIndex, u32, id, bytes}
use Rattle.wc_parse_code.specs.Standard.Productions.Plain.{AreLabels, IsPlain}
use Rattle.wc_parse_code.specs.Stored.Rows.{id_in, index_token}
use Rattle.wc_parse_code.proofs.Storing.Ordered.Order.{Rises, rises-from, rises-append}
use Rattle.wc_parse_code.proofs.Storing.Ordered.Following.{Follow, follow-range}
use Rattle.wc_parse_code.proofs.Storing.Ordered.Rows.{PlainRises}

index-rises : (lo hi : ℕ) {w : KeptToken} {x : Index} → IsIndex w x → lo ≤ w.token → suc w.token ≤ hi
    → Rises index_token lo (x ∷ []) hi
index-rises lo hi (u32 h) e f = (e, f)
index-rises lo hi (id (bytes h)) e f = (e, f)

id-rises : (lo hi : ℕ) {w : KeptToken} {x : Index} → IsIndex w x → lo ≤ w.token → suc w.token ≤ hi
    → Rises (λ i. i.token) lo (id_in x) hi
id-rises lo hi (u32 h) e f = omega (arith, e, f)
id-rises lo hi (id (bytes h)) e f = (e, f)

labels-rise : (lo hi : ℕ) {us : List Said} {xs : List Index} {x : Index} → AreLabels us xs x → Follow lo us hi
    → Rises index_token lo (xs ++ x ∷ []) hi
labels-rise lo hi (AreLabels.default i) f = index-rises lo hi i f.2 f.3
labels-rise lo hi (AreLabels.label {w = w} {x = x} {last = last} {xs = xs} i more) f =
    rises-append index_token lo (suc w.token) hi (x ∷ []) (xs ++ last ∷ [])
    (index-rises lo (suc w.token) i f.2 (omega arith)) (labels-rise (suc w.token) hi more f.3)

ids-rise : (lo hi : ℕ) {us : List Said} {xs : List Index} {x : Index} → AreLabels us xs x → Follow lo us hi
    → Rises (λ i. i.token) lo (flat_map id_in (xs ++ x ∷ [])) hi
ids-rise lo hi (AreLabels.default {x = x} i) f =
    rises-append (λ i. i.token) lo hi hi (id_in x) [] (id-rises lo hi i f.2 f.3) (omega arith)
ids-rise lo hi (AreLabels.label {w = w} {x = x} {last = last} {xs = xs} i more) f =
    rises-append (λ i. i.token) lo (suc w.token) hi (id_in x) (flat_map id_in (xs ++ last ∷ []))
    (id-rises lo (suc w.token) i f.2 (omega arith)) (ids-rise (suc w.token) hi more f.3)

pub plain-rises : (lo hi : ℕ) {r : Role} {us : List Said} {p : Plain} → IsPlain r us p → Follow lo us hi
    → PlainRises lo hi p
plain-rises lo hi {us = us} (IsPlain.simple_name n) f =
    let e = follow-range lo hi us f in record { range = e; uses = e; ids = e; labels = e }
plain-rises lo hi {us = us} (IsPlain.index_name {w = w} {v = v} n i) f =
    let e = follow-range lo hi us f in
    record { range = e; uses = e; ids = id-rises lo hi i (omega (arith, f.2, f.3.2)) f.3.3; labels = e }
plain-rises lo hi {us = us} (IsPlain.br_table_name {w = w} {us = vs} {xs = xs} {last = x} n l) f =
    let e = follow-range lo hi us f in
    record {
      range = e;
      uses = e;
      ids = rises-from (λ i. i.token) lo (suc w.token) hi (flat_map id_in (xs ++ x ∷ [])) (omega (arith, f.2))
          (ids-rise (suc w.token) hi l f.3);
      labels = rises-from index_token lo (suc w.token) hi (xs ++ x ∷ []) (omega (arith, f.2))
          (labels-rise (suc w.token) hi l f.3);
    }
plain-rises lo hi {us = us} (IsPlain.call_indirect_name {w = w} {us = vs} n h) f =
    let e = follow-range lo hi us f in
    record { range = e; uses = (f.2, follow-range (suc w.token) hi vs f.3); ids = e; labels = e }
plain-rises lo hi {us = us} (IsPlain.access_name n m) f =
    let e = follow-range lo hi us f in record { range = e; uses = e; ids = e; labels = e }
plain-rises lo hi {us = us} (IsPlain.i32_const_name n h) f =
    let e = follow-range lo hi us f in record { range = e; uses = e; ids = e; labels = e }
plain-rises lo hi {us = us} (IsPlain.i64_const_name n h) f =
    let e = follow-range lo hi us f in record { range = e; uses = e; ids = e; labels = e }
