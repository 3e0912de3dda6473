-- From what the bytes of a reader denote to what is answered to them.
use Rattle.std.proofs.Common.{◌≡◌, ◌∙◌, ℕ, zero, suc, ◌<◌, List, [], ◌∷◌, ◌++◌, length, Bool, true, false, Option, Some}
use Rattle.std.proofs.Common.{None, Result, Ok, Err, IfErr, IfSome, IsErrAnd, inl, inr, refl, sym, ap, subst, arith}
use Rattle.std.proofs.lemmas.List.{append-nil}
use Rattle.std.specs.Io.KnownBytes.{Consumes, IsAtEnd}
use Rattle.wc_ast.specs.declared.module.Module.{Module}
use Rattle.wc_binary.specs.declared.fault.BinFault.{BinFault}
use Rattle.wc_binary.specs.declared.fault.BinFault.TheVariants.{Bad, Read as Unread, Memory as NoMemoryToDecode}
use Rattle.wc_binary.specs.Standard.Module.{Bin, Canon}
use Rattle.wc_binary.specs.Standard.Decoding.{Decodes, DecodesNear}
use Rattle.wc_print.specs.Standard.Layout.{layout}
use Rattle.wc_print.specs.Standard.Printed.{text as text_of}
use Rattle.wc_read_text.specs.declared.fault.TextFault.{TextFault}
use Rattle.wc_read_text.specs.declared.fault.TextFault.TheVariants as text
use Rattle.wc_read_text.specs.Standard.Texts.{Txt}
use Rattle.wc_read_text.specs.Standard.Faults.{IsFault}
use Rattle.wc_canon.specs.declared.fault.Refusal.{Refusal}
use Rattle.wc_canon.specs.declared.fault.Refusal.TheVariants.{Binary, Lex, Syntax, Names, Check, Oversize}
use Rattle.wc_canon.specs.declared.fault.Refusal.TheVariants.{Memory as NoMemory}
use Rattle.wc_canon.specs.declared.fault.RunFault.{RunFault}
use Rattle.wc_canon.specs.declared.fault.RunFault.TheVariants.{Refused, Read, Write, Memory}
use Rattle.wc_canon.specs.declared.running.Job.TheVariants as job
use Rattle.wc_canon.specs.declared.from_reader.Found.{Found}
use Rattle.wc_canon.specs.Standard.Input.{is_binary, Denotes, KeepsRules, IsAccepted}
use Rattle.wc_canon.specs.Standard.Run.{IsAnswerOf, IsOutputOf, Judges, RefusesNear}
use Rattle.wc_canon.specs.Answering.Faults.{reading_refusal, decoding_fault, refusing_fault}
use Rattle.wc_canon.specs.Answering.Steps.{IsModuleFault, IsSized, JudgesModule, ReadsNear}
use Rattle.wc_canon.proofs.Laws.{binary-denotes, text-denotes, canon-denotes, denoted-means, has-answer}
use Rattle.wc_canon.proofs.Laws.{has-binary-fault, has-text-fault, has-broken-rule, has-oversize}
use Rattle.wc_canon.proofs.Judged.{binary-meant, has-text}

-- ---- an error that is handed on

judges-same : {V W : Type 0} (P : V → Type 0) (Q : W → Type 0) (a : Option (List ℕ)) (f : RunFault)
    → Judges a P (Err f) → Judges a Q (Err f)
judges-same P Q a (Refused f) p = p
judges-same P Q a (Read at) p = tt
judges-same P Q a (Write written) p = tt
judges-same P Q a Memory p = tt

-- what was told in place of an answer
pub judges-error : {V W : Type 0} (P : V → Type 0) (Q : W → Type 0) (a : Option (List ℕ)) (f : RunFault)
    (r : Result W RunFault) → Judges a P (Err f) → IsErrAnd r (λ g. g ≡ f) → Judges a Q r
judges-error P Q a f (Ok v) p h = absurd h
judges-error P Q a f (Err g) p h =
    let T : RunFault → Type 0 = λ e. Judges a Q (Err e) in subst T (sym h) (judges-same P Q a f p)

-- what was told in place of a module
pub module-unread : {W : Type 0} (Q : W → Type 0) (a : Option (List ℕ)) (f : RunFault) (r : Result W RunFault)
    → JudgesModule a (Err f) → IsErrAnd r (λ g. g ≡ f) → Judges a Q r
module-unread Q a f r p h =
    judges-error {V = Found} (λ m. IfSome a (λ x. Denotes x m.«module» × (m.binary ≡ is_binary x))) Q a f r p h

-- ---- the module is refused, or its answer is known

refusal-judged : {V : Type 0} (P : V → Type 0) (a : Option (List ℕ)) (m : Module) (s : Bool) (f : Refusal)
    → IfSome a (λ x. Denotes x m × (s ≡ is_binary x)) → IsModuleFault m f → Judges a P (Err (refusing_fault f))
refusal-judged P a m s (Binary at why) p q = absurd q
refusal-judged P a m s (Lex at why) p q = absurd q
refusal-judged P a m s (Syntax token at why) p q = absurd q
refusal-judged P a m s (Names token at why) p q = absurd q
refusal-judged P None m s (Check item why) p q = tt
refusal-judged P (Some x) m s (Check item why) p q = has-broken-rule x m item why p.0 q
refusal-judged P None m s Oversize p q = tt
refusal-judged P (Some x) m s Oversize p q = has-oversize x m p.0 q.0 q.1
refusal-judged P a m s NoMemory p q = tt

pub not-answered : {V : Type 0} (P : V → Type 0) (a : Option (List ℕ)) (m : Module) (s : Bool) (f : Refusal)
    (r : Result V RunFault) → IfSome a (λ x. Denotes x m × (s ≡ is_binary x)) → IsModuleFault m f
    → IsErrAnd r (λ g. g ≡ refusing_fault f) → Judges a P r
not-answered P a m s f (Ok v) p q h = absurd h
not-answered P a m s f (Err g) p q h =
    let Q : RunFault → Type 0 = λ g. Judges a P (Err g) in subst Q (sym h) (refusal-judged P a m s f p q)

-- where the bytes aren't known, canonical bytes are their own answer
pub answered : (a : Option (List ℕ)) (m : Module) (s : Bool) (b : List ℕ)
    → IfSome a (λ x. Denotes x m × (s ≡ is_binary x)) → KeepsRules m → Canon b m → IsAnswerOf a b
answered None m s b p k q = (b, has-answer b b m (canon-denotes b m q) k q)
answered (Some x) m s b p k q = has-answer x b m p.0 k q

pub printed : (a : Option (List ℕ)) (m : Module) (s : Bool) (b t : List ℕ)
    → IfSome a (λ x. Denotes x m × (s ≡ is_binary x)) → KeepsRules m → Canon b m → t ≡ text_of (layout m)
    → IsOutputOf job.Text a t
printed None m s b t p k q e = (b, has-text b t m (denoted-means b b m (canon-denotes b m q) k q) e)
printed (Some x) m s b t p k q e = has-text x t m (denoted-means x b m p.0 k q) e

pub accepts : (a : Option (List ℕ)) (m : Module) (s : Bool) → IfSome a (λ x. Denotes x m × (s ≡ is_binary x))
    → KeepsRules m → IsSized s m → IfSome a IsAccepted
accepts None m s p k z = tt
accepts (Some x) m true p k z = (m, binary-meant x m (sym p.1) p.0 k)
accepts (Some x) m false p k z = (m, denoted-means x z.0 m p.0 k z.1)

-- ---- how far a refused input was read

near-refusing : (count : ℕ) (x : List ℕ) (m : Module) (f : Refusal) → IsModuleFault m f → count ≡ length x
    → RefusesNear count (refusing_fault f) x
near-refusing count x m (Binary at why) q e = absurd q
near-refusing count x m (Lex at why) q e = absurd q
near-refusing count x m (Syntax token at why) q e = absurd q
near-refusing count x m (Names token at why) q e = absurd q
near-refusing count x m (Check item why) q e = e
near-refusing count x m Oversize q e = e
near-refusing count x m NoMemory q e = tt

pub near-refused : {V W : Type 0} (a : Option (List ℕ)) (count : ℕ) (m : Module) (v : W) (f : Refusal)
    (r : Result V RunFault) → IsModuleFault m f → IfSome a (ReadsNear {V = W} count (Ok v))
    → IsErrAnd r (λ g. g ≡ refusing_fault f) → IfErr r (λ g. IfSome a (RefusesNear count g))
near-refused a count m w f (Ok v) q e h = tt
near-refused None count m w f (Err g) q e h = tt
near-refused (Some x) count m w f (Err g) q e h =
    subst (λ g. RefusesNear count g x) (sym h) (near-refusing count x m f q e)

-- where memory is told
pub near-memory : {V : Type 0} (a : Option (List ℕ)) (count : ℕ) (r : Result V RunFault) → IsErrAnd r (λ g. g ≡ Memory)
    → IfErr r (λ g. IfSome a (RefusesNear count g))
near-memory a count (Ok v) h = tt
near-memory None count (Err g) h = tt
near-memory (Some x) count (Err g) h = let Q : RunFault → Type 0 = λ e. RefusesNear count e x in subst Q (sym h) tt

-- ---- a text

pub begins-alike : (front rest : List ℕ) → 0 < length front → is_binary (front ++ rest) ≡ is_binary front
begins-alike [] rest some = absurd (omega arith)
begins-alike (zero ∷ front) rest some = refl
begins-alike (suc n ∷ front) rest some = refl

-- the bytes of a reader that were all read
pub all-read : (x new : Option (List ℕ)) (bytes seen : List ℕ) → Consumes x new bytes → IsAtEnd new → seen ≡ bytes
    → IfSome x (λ u. u ≡ seen)
all-read None new bytes seen c e s = tt
all-read (Some u) None bytes seen c e s = absurd c
all-read (Some u) (Some v) bytes seen c e s = c ∙ ap (λ r. bytes ++ r) e ∙ append-nil bytes ∙ sym s

pub all-counted : (x : Option (List ℕ)) (bytes seen : List ℕ) (count : ℕ) → IfSome x (λ u. u ≡ seen) → seen ≡ bytes
    → length bytes ≡ count → IfSome x (λ u. count ≡ length u)
all-counted None bytes seen count e s c = tt
all-counted (Some u) bytes seen count e s c = sym c ∙ sym (ap length (e ∙ s))

-- they begin as their front does
pub begins-as : (x old : Option (List ℕ)) (front : List ℕ) (s : Bool) → 0 < length front → is_binary front ≡ s
    → Consumes x old front → IfSome x (λ u. is_binary u ≡ s)
begins-as None old front s some e c = tt
begins-as (Some u) None front s some e c = absurd c
begins-as (Some u) (Some v) front s some e c = ap is_binary c ∙ begins-alike front v some ∙ e

pub text-judged : (x : Option (List ℕ)) (bytes : List ℕ) (m : Module) → IfSome x (λ u. u ≡ bytes)
    → IfSome x (λ u. is_binary u ≡ false) → Txt bytes m → IfSome x (λ u. Denotes u m × (false ≡ is_binary u))
text-judged None bytes m e s p = tt
text-judged (Some u) bytes m e s p = (text-denotes u m s (subst (λ b. Txt b m) (sym e) p), sym s)

text-unread : (x : Option (List ℕ)) (bytes : List ℕ) (f : TextFault) → IfSome x (λ u. u ≡ bytes)
    → IfSome x (λ u. is_binary u ≡ false) → IsFault bytes f → JudgesModule x (Err (refusing_fault (reading_refusal f)))
text-unread None bytes (text.Lex at why) e s p = tt
text-unread None bytes (text.Syntax token at why) e s p = tt
text-unread None bytes (text.Names token at why) e s p = tt
text-unread (Some u) bytes (text.Lex at why) e s (inr p) = has-text-fault u (text.Lex at why) s (rw e p)
text-unread (Some u) bytes (text.Syntax token at why) e s (inr p) =
    has-text-fault u (text.Syntax token at why) s (rw e p)
text-unread (Some u) bytes (text.Names token at why) e s (inr p) = has-text-fault u (text.Names token at why) s (rw e p)
text-unread (Some u) bytes (text.Lex at why) e s (inl h) = absurd (cc)
text-unread (Some u) bytes (text.Syntax token at why) e s (inl h) = absurd (cc)
text-unread (Some u) bytes (text.Names token at why) e s (inl h) = absurd (cc)
text-unread x bytes text.Memory e s p = tt

pub text-refused : (x : Option (List ℕ)) (bytes : List ℕ) (f : TextFault) (r : Result Found RunFault)
    → IfSome x (λ u. u ≡ bytes) → IfSome x (λ u. is_binary u ≡ false) → IsFault bytes f
    → IsErrAnd r (λ g. g ≡ refusing_fault (reading_refusal f)) → JudgesModule x r
text-refused x bytes f (Ok v) e s p h = absurd h
text-refused x bytes f (Err g) e s p h =
    let Q : RunFault → Type 0 = λ g. JudgesModule x (Err g) in subst Q (sym h) (text-unread x bytes f e s p)

-- a text is refused after all its bytes were read
near-told-of-text : (count : ℕ) (x : List ℕ) (f : TextFault) → count ≡ length x
    → RefusesNear count (refusing_fault (reading_refusal f)) x
near-told-of-text count x (text.Lex at why) e = e
near-told-of-text count x (text.Syntax token at why) e = e
near-told-of-text count x (text.Names token at why) e = e
near-told-of-text count x text.Memory e = tt

pub near-read : {V : Type 0} (x : Option (List ℕ)) (count : ℕ) (f : TextFault) (r : Result V RunFault)
    → IfSome x (λ u. count ≡ length u) → IsErrAnd r (λ g. g ≡ refusing_fault (reading_refusal f))
    → IfSome x (ReadsNear count r)
near-read x count f (Ok v) e h = absurd h
near-read None count f (Err g) e h = tt
near-read (Some u) count f (Err g) e h =
    subst (λ d. RefusesNear count d u) (sym h) (near-told-of-text count u f e)

-- ---- a binary

-- what holds of the front and what is left holds of all the bytes
pub of-all : (x old : Option (List ℕ)) (front : List ℕ) (P : List ℕ → Type 0) → Consumes x old front
    → IfSome old (λ rest. P (front ++ rest)) → IfSome x P
of-all None old front P c p = tt
of-all (Some u) None front P c p = absurd c
of-all (Some u) (Some v) front P c p = subst P (sym c) p

pub binary-judged : (x : Option (List ℕ)) (m : Module) → IfSome x (λ u. is_binary u ≡ true) → IfSome x (λ u. Bin u m)
    → IfSome x (λ u. Denotes u m × (true ≡ is_binary u))
binary-judged None m s p = tt
binary-judged (Some u) m s p = (binary-denotes u m s p, sym s)

binary-unread : (x : Option (List ℕ)) (e : BinFault) → IfSome x (λ u. is_binary u ≡ true)
    → IfSome x (λ u. Decodes u (Err e)) → JudgesModule x (Err (decoding_fault e))
binary-unread None (Bad at why) s p = tt
binary-unread (Some u) (Bad at why) s p = has-binary-fault u at why s p
binary-unread x (Unread at) s p = tt
binary-unread x NoMemoryToDecode s p = tt

pub binary-refused : (x : Option (List ℕ)) (e : BinFault) (r : Result Found RunFault)
    → IfSome x (λ u. is_binary u ≡ true) → IfSome x (λ u. Decodes u (Err e)) → IsErrAnd r (λ g. g ≡ decoding_fault e)
    → JudgesModule x r
binary-refused x e (Ok v) s p h = absurd h
binary-refused x e (Err g) s p h =
    let Q : RunFault → Type 0 = λ g. JudgesModule x (Err g) in subst Q (sym h) (binary-unread x e s p)

near-told : (count : ℕ) (x : List ℕ) (e : BinFault) → DecodesNear count x (Err e)
    → RefusesNear count (decoding_fault e) x
near-told count x (Bad at why) p = p
near-told count x (Unread at) p = tt
near-told count x NoMemoryToDecode p = tt

pub near-decoded : {V : Type 0} (x : Option (List ℕ)) (count : ℕ) (e : BinFault) (r : Result V RunFault)
    → IfSome x (λ u. DecodesNear count u (Err e)) → IsErrAnd r (λ f. f ≡ decoding_fault e)
    → IfSome x (ReadsNear count r)
near-decoded x count e (Ok v) p h = absurd h
near-decoded None count e (Err f) p h = tt
near-decoded (Some u) count e (Err f) p h = subst (λ g. RefusesNear count g u) (sym h) (near-told count u e p)
