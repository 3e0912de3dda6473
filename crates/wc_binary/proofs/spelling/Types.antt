-- The canonical bytes of types.
use Rattle.std.proofs.Common.{◌≡◌, ℕ, Bool, true, false, nat_eq, List, [], ◌∷◌, ◌++◌, Option, Some, None, Result, Ok}
use Rattle.std.proofs.Common.{refl, sym, ap}
use Rattle.std.specs.Option.{is_some, ok_or}
use Rattle.std.proofs.lemmas.Bool.{eqb-true}
use Rattle.wc_leb128.specs.Writing.Bytes.{unsigned_bytes}
use Rattle.wc_ops.specs.declared.val_type.ValType.{ValType}
use Rattle.wc_ops.specs.declared.val_type.ValType.TheVariants.{I32, I64}
use Rattle.wc_ops.specs.Standard.ValueTypes.{value_type_of_byte}
use Rattle.wc_ops.proofs.Meanings.OfTypes.{type-byte}
use Rattle.wc_ast.specs.declared.func_type.FuncType.{FuncType}
use Rattle.wc_ast.specs.declared.limits.Limits.{Limits}
use Rattle.wc_ast.specs.declared.limits.GlobalType.{GlobalType}
use Rattle.wc_binary.specs.declared.fault.BinWhy.{BinWhy}
use Rattle.wc_binary.specs.declared.fault.BinWhy.TheVariants.{WrongType}
use Rattle.wc_binary.specs.Standard.Style.{Style, canonical}
use Rattle.wc_binary.specs.Standard.Phrase.{gives, byte, ◌>>=◌, SpellsBy}
use Rattle.wc_binary.specs.Standard.Values.{u32, vector, only}
use Rattle.wc_binary.specs.Standard.Types.{value_type, value_type_of, no_type, func_type, flag, flag_of, maximum}
use Rattle.wc_binary.specs.Standard.Types.{limits, table_type, global_type}
use Rattle.wc_body.specs.Standard.ValueBytes.{vector_bytes, value_type_bytes}
use Rattle.wc_binary.specs.Writing.Values.{func_type_bytes, flag_bytes, maximum_bytes}
use Rattle.wc_body.specs.Standard.ValueBytes.{Fits32, FitsVector}
use Rattle.wc_binary.specs.Writing.Values.{limits_bytes, table_type_bytes, global_type_bytes, FitsFuncType}
use Rattle.wc_binary.specs.Writing.Values.{FitsMaximum, FitsLimits, Anything}
use Rattle.wc_binary.proofs.spelling.Judging.{HasBytes}
use Rattle.wc_binary.proofs.spelling.Phrases.{of, writes-as, u32-writes, byte-writes, only-writes, then-writes}
use Rattle.wc_binary.proofs.spelling.Phrases.{seen-writes, made-writes, vector-writes}

-- what isn't refused was there
found : {A E : Type 0} (o : Option A) (why : E) (v : A) → ok_or o why ≡ Ok v → o ≡ Some v
found None why v h = absurd cc
found (Some u) why v h = let e : u ≡ v = cc in cc

-- the byte of each value type
pub value_type-only : (x : ℕ) (v : ValType) → value_type_of x ≡ Ok v → x ∷ [] ≡ value_type_bytes v
value_type-only x v h =
    let known = found (value_type_of_byte x) (no_type x) v h in
    ap (λ (y : ℕ). y ∷ []) (sym ((type-byte x v).0 known))

pub value_type-writes : HasBytes (of value_type) Anything value_type_bytes
unfolding value_type
value_type-writes =
    byte-writes value_type_of value_type_bytes (elim [
      | I32 ↦ (0x7F, refl, refl)
      | I64 ↦ (
        0x7E,
        refl,
        refl,
      )
    ]) value_type-only

pub types-writes : HasBytes (of (vector value_type)) (FitsVector Anything) (vector_bytes value_type_bytes)
types-writes = vector-writes value_type Anything value_type_bytes value_type-writes

-- ---- function types

abbrev func_type_fits : FuncType → Type 0
func_type_fits s =
    Unit {0} ×
    (FitsVector Anything s.params × (FitsVector Anything s.results
    × (s ≡ record { params = s.params; results = s.results })))

pub func_type-writes : HasBytes (of func_type) FitsFuncType func_type_bytes
unfolding func_type
func_type-writes =
    writes-as (of func_type) func_type_fits FitsFuncType func_type_bytes func_type_bytes
    (then-writes (byte (only 0x60 WrongType)) (λ _. vector value_type >>= λ ps. vector value_type >>= λ rs.
    gives (record { params = ps; results = rs }))
    Anything (λ _. 0x60 ∷ [])
    (λ _ s. FitsVector Anything s.params × (FitsVector Anything s.results
    × (s ≡ record { params = s.params; results = s.results })))
    (λ _ s. vector_bytes value_type_bytes s.params ++ vector_bytes value_type_bytes s.results)
    (λ s. tt)
    (only-writes 0x60 WrongType)
    (λ _. then-writes (vector value_type) (λ ps. vector value_type >>= λ rs.
    gives (record { params = ps; results = rs }))
    (FitsVector Anything) (vector_bytes value_type_bytes)
    (λ ps s. FitsVector Anything s.results × (s ≡ record { params = ps; results = s.results }))
    (λ ps s. vector_bytes value_type_bytes s.results)
    (λ s. s.params)
    types-writes
    (λ ps. seen-writes (vector value_type) (FitsVector Anything) (vector_bytes value_type_bytes) types-writes
    (λ rs. record { params = ps; results = rs }) (λ s. s.results) (λ rs. refl))
    (λ s ps b v h. sym (ap (λ (x : FuncType). x.params) h.5.1)))
    (λ s u b v h. refl))
    (λ s h. (h.1.0, h.1.1.0)) (λ s h. (tt, (h.0, (h.1, refl)))) (λ s. refl)

-- ---- limits

abbrev ok_flag : Bool → Result Bool BinWhy
ok_flag v = Ok v

flag-only : (x : ℕ) (v : Bool) → flag_of x ≡ Ok v → x ∷ [] ≡ flag_bytes v
flag-only x v h = go (nat_eq x 0) (nat_eq x 1) refl refl
  where
    go : (a b : Bool) → nat_eq x 0 ≡ a → nat_eq x 1 ≡ b → x ∷ [] ≡ flag_bytes v
    go true b p q =
        let e : ok_flag false ≡ Ok v = rw p at h in
        let f : false ≡ v = cc in rw (← f) (ap (λ (y : ℕ). y ∷ []) (eqb-true x 0 p))
    go false true p q =
        let e : ok_flag true ≡ Ok v = rw (p, q) at h in
        let f : true ≡ v = cc in rw (← f) (ap (λ (y : ℕ). y ∷ []) (eqb-true x 1 q))
    go false false p q = let e = rw (p, q) at h in absurd cc

pub flag-writes : HasBytes (of flag) Anything flag_bytes
unfolding flag
flag-writes = byte-writes flag_of flag_bytes (elim [ false ↦ (0, refl, refl) | true ↦ (1, refl, refl) ]) flag-only

abbrev FitsBehind : Bool → Option ℕ → Type 0
FitsBehind has_max v = (has_max ≡ is_some v) × FitsMaximum v

no-maximum : (v : Option ℕ) → FitsBehind false v → SpellsBy canonical (maximum false) (maximum_bytes v) v
no-maximum None h = (refl, refl)
no-maximum (Some n) h = let e = h.0 in absurd cc

some-back : (v : Option ℕ) → FitsBehind true v → (n : ℕ) × (v ≡ Some n) × Fits32 n
some-back None h = let e = h.0 in absurd cc
some-back (Some n) h = (n, refl, h.1)

maximum-writes : (has_max : Bool) → HasBytes (of (maximum has_max)) (FitsBehind has_max) maximum_bytes
maximum-writes false = record {
  written = no-maximum;
  told = λ s V j b v h. let is = h.1 in rw is ((refl, tt), j.equal b [] h.0);
}
maximum-writes true =
    made-writes u32 Fits32 unsigned_bytes (λ n. Some n) (FitsBehind true) maximum_bytes u32-writes (λ n f. (refl, f))
    (λ n. refl) some-back

abbrev limits_fits : Limits → Type 0
limits_fits l =
    Unit {0} × (Fits32 l.min × (FitsBehind (is_some l.max) l.max × (l ≡ record { min = l.min; max = l.max })))

pub limits-writes : HasBytes (of limits) FitsLimits limits_bytes
unfolding limits
limits-writes =
    writes-as (of limits) limits_fits FitsLimits limits_bytes limits_bytes
    (then-writes flag (λ m. u32 >>= λ min. maximum m >>= λ max. gives (record { min = min; max = max }))
    Anything flag_bytes
    (λ m l. Fits32 l.min × (FitsBehind m l.max × (l ≡ record { min = l.min; max = l.max })))
    (λ m l. unsigned_bytes l.min ++ maximum_bytes l.max)
    (λ l. is_some l.max)
    flag-writes
    (λ m. then-writes u32 (λ min. maximum m >>= λ max. gives (record { min = min; max = max }))
    Fits32 unsigned_bytes
    (λ min l. FitsBehind m l.max × (l ≡ record { min = min; max = l.max }))
    (λ min l. maximum_bytes l.max)
    (λ l. l.min)
    u32-writes
    (λ min. seen-writes (maximum m) (FitsBehind m) maximum_bytes (maximum-writes m) (λ max.
    record { min = min; max = max }) (λ l. l.max) (λ max. refl))
    (λ s min b v h. sym (ap (λ (x : Limits). x.min) h.5.1)))
    flag-is)
    (λ l h. (h.1.0, h.1.1.0.1)) (λ l h. (tt, (h.0, ((refl, h.1), refl)))) (λ l. refl)
  where
    maximum-is : (s : Style) (m : Bool) (b : List ℕ) (v : Option ℕ) → SpellsBy s (maximum m) b v → m ≡ is_some v
    maximum-is s false b v h = let is = h.1 in rw is refl
    maximum-is s true b v h = let is : v ≡ Some h.2 = h.5.1 in rw is refl

    flag-is : (s : Style) (m : Bool) (b : List ℕ) (v : Limits)
        → SpellsBy s (u32 >>= λ min. maximum m >>= λ max. gives (record { min = min; max = max })) b v
        → m ≡ is_some v.max
    flag-is s m b v h =
        let k = h.5 in
        let max-is : v.max ≡ k.2 = ap (λ (x : Limits). x.max) k.5.1 in
        rw max-is (maximum-is s m k.0 k.2 k.4)

pub table_type-writes : HasBytes (of table_type) FitsLimits table_type_bytes
unfolding table_type
table_type-writes =
    writes-as (of table_type) (λ l. Unit {0} × FitsLimits l) FitsLimits table_type_bytes table_type_bytes
    (then-writes (byte (only 0x70 WrongType)) (λ _. limits) Anything (λ _. 0x70 ∷ []) (λ _ l. FitsLimits l) (λ _ l.
    limits_bytes l) (λ l. tt)
    (only-writes 0x70 WrongType) (λ _. limits-writes) (λ s u b v h. refl))
    (λ l h. h.1) (λ l h. (tt, h)) (λ l. refl)

pub global_type-writes : HasBytes (of global_type) Anything global_type_bytes
unfolding global_type
global_type-writes =
    writes-as (of global_type)
    (λ g. Unit {0} × (Unit {0} × (g ≡ record { ty = g.ty; mutable = g.mutable }))) Anything global_type_bytes
    global_type_bytes
    (then-writes value_type (λ t. flag >>= λ m. gives (record { ty = t; mutable = m }))
    Anything value_type_bytes
    (λ t g. Unit {0} × (g ≡ record { ty = t; mutable = g.mutable }))
    (λ t g. flag_bytes g.mutable)
    (λ g. g.ty)
    value_type-writes
    (λ t. seen-writes flag Anything flag_bytes flag-writes (λ m. record { ty = t; mutable = m }) (λ g. g.mutable) (λ m.
    refl))
    (λ s t b v h. sym (ap (λ (x : GlobalType). x.ty) h.5.1)))
    (λ g h. tt) (λ g h. (tt, (tt, refl))) (λ g. refl)
