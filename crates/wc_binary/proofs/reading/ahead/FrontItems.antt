-- Items that bytes begin with, and that are added at once.
use Rattle.std.specs.Prelude.{IfSome}
use Rattle.std.specs.Borrow.{Bor}
use Rattle.std.specs.Str.{IsUtf8}
use Rattle.std.proofs.Common.{◌≡◌, ℕ, ◌≤◌, ◌<◌, List, [], ◌∷◌, ◌++◌, length, take, Option, Ok, refl, sym, ap, ◌∙◌}
use Rattle.std.proofs.Common.{append_assoc, drop, inl, subst, Some, None, arith}
use Rattle.std.proofs.lemmas.List.{length-append, take_at, take-append-drop}
use Rattle.std.proofs.lemmas.Str.{is_utf8-from_IsUtf8}
use Rattle.wc_ast.specs.declared.export.ExportKind.{ExportKind}
use Rattle.wc_ast.specs.declared.export.ExportKind.TheVariants as kinds
use Rattle.wc_ast.specs.declared.import.Desc.TheVariants as descs
use Rattle.wc_ast.specs.Standard.Externals.{import as import_of, export as export_of}
use Rattle.wc_binary.specs.Standard.Phrase.{Phrase, gives, ◌>>=◌, judged}
use Rattle.wc_binary.specs.Standard.Values.{u32, name, times, any_byte, utf8_fault}
use Rattle.wc_binary.specs.Standard.Externals.{kind, kind_of, desc, desc_of, import, export}
use Rattle.wc_binary.specs.Reading.Source.{Input, AreAhead, Passes, Gives}
use Rattle.wc_binary.specs.Reading.NextItem.{BeginsWith, AddsFirst}
use Rattle.wc_binary.proofs.phrases.Freed.{freed}
use Rattle.wc_ast.proofs.Utf8Bytes.{utf8-bytes}
use Rattle.wc_binary.proofs.spelling.whole.Externals.{raw-written}
use Rattle.wc_binary.proofs.reading.ahead.FrontCode.{passed-gives}

-- no byte, and one phrase behind another
gives-begins : {A : Type 0} (v : A) (x : List ℕ) → BeginsWith (gives v) x v x
gives-begins v x = ([], refl, (refl, refl))

then-begins : {A B : Type 0} (p : Phrase A) (f : A → Phrase B) (x y z : List ℕ) (u : A) (v : B)
    → BeginsWith p x u y → BeginsWith (f u) y v z → BeginsWith (p >>= f) x v z
then-begins p f x y z u v h k = (
  h.0 ++ k.0,
  h.1 ∙ ap (λ (r : List ℕ). h.0 ++ r) k.1 ∙ sym (append_assoc h.0 k.0 z),
  (h.0, k.0, u, refl, h.2, k.2),
)

-- ---- integers

pub short-begins : (x rest : List ℕ) (b : ℕ) → x ≡ b ∷ rest → b < 128 → BeginsWith u32 x b rest
unfolding u32
short-begins x rest b e lt = (b ∷ [], e, inl (omega (arith, lt), omega (arith, lt), refl, refl))

-- ---- names

raw-begins : (x v y : List ℕ) → x ≡ v ++ y → IsUtf8 v → BeginsWith (times (length v) any_byte) x v y
raw-begins x v y e h = (v, e, freed (times (length v) any_byte) v v (raw-written v (utf8-bytes v h)))

pub name-begins : (x v rest y : List ℕ) (n : ℕ) → BeginsWith u32 x n rest → rest ≡ v ++ y → length v ≡ n → IsUtf8 v
    → BeginsWith name x v y
unfolding name
name-begins x v rest y n count e long h =
    let good = is_utf8-from_IsUtf8 v h in
    let raw = raw-begins rest v y e h in
    then-begins u32 (λ n. judged (times n any_byte) utf8_fault) x rest y n v count
    (rw (← long) (raw.0, raw.1, (raw.2, rw good refl)))

-- the same, by how its bytes were cut off
pub name-cut : (x v first rest y : List ℕ) (n : ℕ) → BeginsWith u32 x n rest → first ≡ take n rest → y ≡ drop n rest
    → length first ≡ n → v ≡ first → IsUtf8 first → BeginsWith name x v y
name-cut x v first rest y n count front back long is h =
    name-begins x v rest y n count (rw (is, front, back) (sym (take-append-drop n rest))) (ap length is ∙ long)
    (subst IsUtf8 (sym is) h)

-- ---- imports and exports

pub kind-begins : (x y : List ℕ) (b : ℕ) (k : ExportKind) → x ≡ b ∷ y → kind_of b ≡ Ok k → BeginsWith kind x k y
unfolding kind
kind-begins x y b k e is = (b ∷ [], e, (b, refl, is))

pub func-begins : (x rest y : List ℕ) (b n : ℕ) → x ≡ b ∷ rest → b ≡ 0 → BeginsWith u32 rest n y
    → BeginsWith desc x (descs.Func n) y
unfolding desc
func-begins x rest y b n e none index =
    then-begins kind desc_of x rest y kinds.Func (descs.Func n) (kind-begins x rest b kinds.Func e (rw none refl))
    (then-begins u32 (λ i. gives (descs.Func i)) rest y y n (descs.Func n) index (gives-begins (descs.Func n) y))

-- the same of whichever integer stands there
pub func-found : (x rest : List ℕ) (b : ℕ) → x ≡ b ∷ rest → b ≡ 0 → (r : Option (ℕ × Bor (List ℕ)))
    → IfSome r (λ f. BeginsWith u32 rest f.0 f.1.now) → IfSome r (λ f. BeginsWith desc x (descs.Func f.0) f.1.now)
func-found x rest b e none None h = h
func-found x rest b e none (Some f) h = func-begins x rest f.1.now b f.0 e none h

module _ (x y z w m n : List ℕ) (index : ℕ) where
  pub import-begins : BeginsWith name x m y → BeginsWith name y n z → BeginsWith desc z (descs.Func index) w
      → BeginsWith import x (import_of m n (descs.Func index)) w
  unfolding import
  import-begins h k d =
      let i = import_of m n (descs.Func index) in
      then-begins name (λ m. name >>= λ n. desc >>= λ d. gives (import_of m n d)) x y w m i h
      (then-begins name (λ n. desc >>= λ d. gives (import_of m n d)) y z w n i k
      (then-begins desc (λ d. gives (import_of m n d)) z w w (descs.Func index) i d (gives-begins i w)))

pub export-begins : (x y z w n : List ℕ) (k : ExportKind) (index : ℕ) → BeginsWith name x n y → BeginsWith kind y k z
    → BeginsWith u32 z index w → BeginsWith export x (export_of n k index) w
unfolding export
export-begins x y z w n k index h b i =
    let e = export_of n k index in
    then-begins name (λ n. kind >>= λ k. u32 >>= λ i. gives (export_of n k i)) x y w n e h
    (then-begins kind (λ k. u32 >>= λ i. gives (export_of n k i)) y z w k e b
    (then-begins u32 (λ i. gives (export_of n k i)) z w w index e i (gives-begins e w)))

-- what is behind is no more
pub begins-within : {A : Type 0} (p : Phrase A) (x y : List ℕ) (v : A) → BeginsWith p x v y → length y ≤ length x
begins-within p x y v h = omega (arith, ap length h.1, length-append h.0 y)

-- ---- what was passed

pub first-passed : {A : Type 0} (p : Phrase A) (row after : List A) (old new : Input) (bytes : List ℕ) (n : ℕ)
    → AreAhead old (length bytes) bytes → (h : AddsFirst p row after bytes (Some n)) → Passes n old new n
    → Gives p old new (Ok h.0)
first-passed p row after old new bytes n ahead h passes =
    let begins = h.2 in
    let long : length begins.0 ≡ n = omega (arith, ap length begins.1, length-append begins.0 h.1, h.3) in
    let few : n ≤ length bytes = omega (arith, h.3) in
    let are : take n bytes ≡ begins.0 =
    ap (λ (z : List ℕ). take n z) begins.1 ∙ take_at begins.0 h.1 n long in
    passed-gives p old new bytes begins.0 n h.0 ahead few are begins.2 passes
