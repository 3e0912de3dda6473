-- What is known where a read failed.
use Rattle.std.proofs.Common.{◌≡◌, ◌≤◌, ℕ, zero, suc, List, [], ◌∷◌, take, Option, Some, None, Result, Ok, Err, IfSome}
use Rattle.std.proofs.Common.{IfErr, IsErrAnd, true, false, length, subst, sym, refl, ◌∙◌}
use Rattle.std.specs.Option.{is_some}
use Rattle.std.proofs.lemmas.List.{length-take-le}
use Rattle.wc_device.specs.Standard.Device.{first_failure}
use Rattle.wc_binary.specs.declared.fault.BinFault.{BinFault}
use Rattle.wc_binary.specs.declared.fault.BinFault.TheVariants.{Bad, Read as Unread, Memory as NoMemoryToDecode}
use Rattle.wc_binary.specs.Standard.Decoding.{DecodesCut}
use Rattle.wc_canon.specs.declared.fault.Refusal.{Refusal}
use Rattle.wc_canon.specs.declared.fault.Refusal.TheVariants.{Binary, Lex, Syntax, Names, Check, Oversize}
use Rattle.wc_canon.specs.declared.fault.Refusal.TheVariants.{Memory as NoMemory}
use Rattle.wc_canon.specs.declared.fault.RunFault.{RunFault}
use Rattle.wc_canon.specs.declared.fault.RunFault.TheVariants.{Refused, Read, Write, Memory}
use Rattle.wc_canon.specs.Answering.Faults.{decoding_fault, refusing_fault}
use Rattle.wc_canon.specs.Standard.Input.{is_binary}
use Rattle.wc_canon.specs.Standard.Run.{IsCut, ReadsCut}

-- ---- the first read

pub first-fails : (failed new : Option ℕ) (count : ℕ) → is_some failed ≡ false → new ≡ first_failure failed count
    → new ≡ Some count
first-fails None new count well e = e
first-fails (Some at) new count well e = absurd cc

-- ---- what was told of decoding is told of the run

-- the first byte tells
begins-so : (n : ℕ) (x : List ℕ) → is_binary (take (suc n) x) ≡ is_binary x
begins-so n [] = refl
begins-so n (zero ∷ x) = refl
begins-so n (suc b ∷ x) = refl

cut-told : (x : List ℕ) (e : BinFault) → is_binary x ≡ true → DecodesCut x (Err e) → ReadsCut (decoding_fault e) x
cut-told x (Bad at why) s p = tt
cut-told x (Unread zero) s p = refl
cut-told x (Unread (suc n)) s p = subst (λ t. IsCut t (take (suc n) x) (suc n)) (sym (begins-so n x ∙ s)) p
cut-told x NoMemoryToDecode s p = tt

pub cut-decoded : {V : Type 0} (a : Option (List ℕ)) (e : BinFault) (r : Result V RunFault)
    → IfSome a (λ x. is_binary x ≡ true) → IfSome a (λ x. DecodesCut x (Err e)) → IsErrAnd r (λ f. f ≡ decoding_fault e)
    → IfErr r (λ f. IfSome a (ReadsCut f))
cut-decoded a e (Ok v) s p h = tt
cut-decoded None e (Err f) s p h = tt
cut-decoded (Some x) e (Err f) s p h = subst (λ g. ReadsCut g x) (sym h) (cut-told x e s p)

text-cut-to : (u : List ℕ) (at : ℕ) → is_binary u ≡ false → at ≤ length u → ReadsCut (Read at) u
text-cut-to u zero s le = refl
text-cut-to u (suc n) s le =
    let long = sym (length-take-le (suc n) u le) in
    subst (λ t. IsCut t (take (suc n) u) (suc n)) (sym (begins-so n u ∙ s)) long

-- a text was read to where the read failed
pub text-cut : (x : Option (List ℕ)) (f : RunFault) → IfSome x (λ u. is_binary u ≡ false)
    → ((at : ℕ) → f ≡ Read at → IfSome x (λ u. at ≤ length u)) → IfSome x (ReadsCut f)
text-cut None f s p = tt
text-cut (Some u) (Refused f) s p = tt
text-cut (Some u) (Read at) s p = text-cut-to u at s (p at refl)
text-cut (Some u) (Write written) s p = tt
text-cut (Some u) Memory s p = tt

pub text-cut-told : {V : Type 0} (x : Option (List ℕ)) (f : RunFault) (r : Result V RunFault)
    → IfSome x (λ u. is_binary u ≡ false) → ((at : ℕ) → f ≡ Read at → IfSome x (λ u. at ≤ length u))
    → IsErrAnd r (λ g. g ≡ f) → IfErr r (λ e. IfSome x (ReadsCut e))
text-cut-told x f (Ok v) s p h = absurd h
text-cut-told x f (Err g) s p h =
    let T : RunFault → Type 0 = λ e. IfSome x (ReadsCut e) in subst T (sym h) (text-cut x f s p)

cut-refusing : (x : List ℕ) (f : Refusal) → ReadsCut (refusing_fault f) x
cut-refusing x (Binary at why) = tt
cut-refusing x (Lex at why) = tt
cut-refusing x (Syntax token at why) = tt
cut-refusing x (Names token at why) = tt
cut-refusing x (Check item why) = tt
cut-refusing x Oversize = tt
cut-refusing x NoMemory = tt

pub cut-refused : {V : Type 0} (a : Option (List ℕ)) (f : Refusal) (r : Result V RunFault)
    → IsErrAnd r (λ g. g ≡ refusing_fault f) → IfErr r (λ g. IfSome a (ReadsCut g))
cut-refused a f (Ok v) h = tt
cut-refused None f (Err g) h = tt
cut-refused (Some x) f (Err g) h = subst (λ g. ReadsCut g x) (sym h) (cut-refusing x f)

-- the place of the failure is told as it was
same-place : (e : BinFault) (at : ℕ) → decoding_fault e ≡ Read at → e ≡ Unread at
same-place (Bad a why) at is = absurd cc
same-place (Unread a) at is = let same : a ≡ at = cc in subst (λ (q : ℕ). Unread a ≡ Unread q) same refl
same-place NoMemoryToDecode at is = absurd cc

pub fails-at : {V : Type 0} (failed : Option ℕ) (e : BinFault) (r : Result V RunFault)
    → ((at : ℕ) → e ≡ Unread at → failed ≡ Some at) → IsErrAnd r (λ f. f ≡ decoding_fault e)
    → IfErr r (λ f. (at : ℕ) → f ≡ Read at → failed ≡ Some at)
fails-at failed e (Ok v) p h = tt
fails-at failed e (Err f) p h = λ at is. p at (same-place e at (sym h ∙ is))

never-unread : (f : Refusal) (at : ℕ) → refusing_fault f ≡ Read at → ⊥
never-unread (Binary a why) at is = absurd cc
never-unread (Lex a why) at is = absurd cc
never-unread (Syntax token a why) at is = absurd cc
never-unread (Names token a why) at is = absurd cc
never-unread (Check item why) at is = absurd cc
never-unread Oversize at is = absurd cc
never-unread NoMemory at is = absurd cc

pub refused-fails-at : {V : Type 0} (failed : Option ℕ) (f : Refusal) (r : Result V RunFault)
    → IsErrAnd r (λ g. g ≡ refusing_fault f) → IfErr r (λ g. (at : ℕ) → g ≡ Read at → failed ≡ Some at)
refused-fails-at failed f (Ok v) h = tt
refused-fails-at failed f (Err g) h = λ at is. absurd (never-unread f at (sym h ∙ is))

pub refused-reads-at : {V : Type 0} (count : ℕ) (f : Refusal) (r : Result V RunFault)
    → IsErrAnd r (λ g. g ≡ refusing_fault f) → IfErr r (λ g. (at : ℕ) → g ≡ Read at → at ≡ count)
refused-reads-at count f (Ok v) h = tt
refused-reads-at count f (Err g) h = λ at is. absurd (never-unread f at (sym h ∙ is))
