-- What is read behind a size.
use Rattle.std.proofs.Common.{◌≡◌, ℕ, ◌-◌, ◌≤◌, List, Result, Ok, refl}
use Rattle.std.proofs.lemmas.Bool.{le-ltb}
use Rattle.wc_binary.specs.declared.fault.BinFault.{BinFault}
use Rattle.wc_binary.specs.declared.fault.BinWhy.{BinWhy}
use Rattle.wc_binary.specs.Standard.Phrase.{Phrase, gives, ◌>>=◌, judged, measured}
use Rattle.wc_binary.specs.Standard.Values.{u32, name, sized, size_fault}
use Rattle.wc_binary.specs.Standard.Sections.{skip, custom, custom_fault}
use Rattle.wc_binary.specs.Reading.Reading.{read}
use Rattle.wc_binary.specs.Reading.Source.{Input, Fails, Gave}
use Rattle.wc_binary.proofs.reading.Going.{GoesOn-trans}
use Rattle.wc_binary.proofs.reading.Behind.{behind-fails, first-of, then-gives}

-- a fault in what the size is of
pub sized-fails : {A : Type 0} (why : BinWhy) (p : Phrase A) (old mid new : Input) (n : ℕ)
    → Gave old mid (Ok n) (λ x. read u32 old.place x) → (e : BinFault) → Fails mid new e (λ x. read p mid.place x)
    → Fails old new e (λ x. read (sized why p) old.place x)
unfolding sized
sized-fails why p old mid new n h e f =
    let content = u32 >>= λ n. measured p >>= λ m. gives (n, m) in
    first-of old new (λ x. read (judged content (size_fault why)) old.place x) _ e
    (first-of old new (λ x. read content old.place x) _ e
    (behind-fails u32 _ old mid new n h e
    (first-of mid new (λ x. read (measured p) mid.place x) _ e (first-of mid new (λ x. read p mid.place x) _ e f))))

-- a fault in the name of a custom section
pub custom-name-fails : (old mid new : Input) (n : ℕ) → Gave old mid (Ok n) (λ x. read u32 old.place x)
    → (e : BinFault) → Fails mid new e (λ x. read name mid.place x) → Fails old new e (λ x. read custom old.place x)
unfolding custom
custom-name-fails old mid new n h e f =
    let content = u32 >>= λ n. measured name >>= λ m. gives (n, m.0) in
    first-of old new (λ x. read (judged content custom_fault) old.place x) _ e
    (first-of old new (λ x. read content old.place x) _ e
    (behind-fails u32 _ old mid new n h e
    (first-of mid new (λ x. read (measured name) mid.place x) _ e
    (first-of mid new (λ x. read name mid.place x) _ e f))))

-- its size and its name, and then what is dropped
pub custom-gives : (old mid end new : Input) (n used : ℕ) (called : List ℕ)
    → Gave old mid (Ok n) (λ x. read u32 old.place x) → Gave mid end (Ok called) (λ x. read name mid.place x)
    → end.place - mid.place ≡ used → used ≤ n → (r : Result (Unit {0}) BinFault)
    → Gave end new r (λ x. read (skip (n - used)) end.place x) → Gave old new r (λ x. read custom old.place x)
unfolding custom
custom-gives old mid end new n used called h k is le r f =
    let fits = le-ltb n used le in
    then-gives (judged (u32 >>= λ n. measured name >>= λ m. gives (n, m.0)) custom_fault) (λ w.
    skip (w.0 - w.1)) old end
    new (n, used) (
      GoesOn-trans old mid end h.0 k.0,
      λ w. let s = h.1 w in let t = k.1 s.0 in (t.0, rw (s.1, t.1, is, fits) refl),
    ) r f
