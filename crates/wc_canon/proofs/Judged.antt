-- From what decoding, checking and encoding answer to what is answered to an input.
use Rattle.std.proofs.Common.{◌≡◌, ℕ, List, [], true, false, Result, Ok, Err}
use Rattle.std.proofs.Common.{IfOk, IsErrAnd, OnOk}
use Rattle.std.proofs.Common.{MatchResult, IfErr, subst, sym, refl, ap, ◌⊎◌, inl, inr}
use Rattle.wc_ast.specs.declared.module.Module.{Module}
use Rattle.wc_binary.specs.Standard.Module.{Bin, Canon, IsShortestOf, IsOrLonger}
use Rattle.wc_binary.proofs.spelling.whole.Modules.{bin-canon}
use Rattle.wc_check.specs.declared.fault.CheckFault.{CheckFault}
use Rattle.wc_check.specs.declared.fault.CheckFault.TheVariants.{Broken, Memory as NoMemoryToCheck}
use Rattle.wc_check.specs.Standard.Rules.{IsFirstOf}
use Rattle.wc_check.specs.Standard.Broken.{broken}
use Rattle.wc_print.specs.Standard.Layout.{layout}
use Rattle.wc_print.specs.Standard.Printed.{text as text_of}
use Rattle.wc_read_text.specs.declared.fault.TextFault.{TextFault}
use Rattle.wc_read_text.specs.Standard.Faults.{IsFault}
use Rattle.wc_canon.specs.declared.fault.Refusal.{Refusal}
use Rattle.wc_canon.specs.declared.fault.Refusal.TheVariants.{Binary, Lex, Syntax, Names, Check, Oversize}
use Rattle.wc_canon.specs.declared.fault.Refusal.TheVariants.{Memory as NoMemory}
use Rattle.wc_canon.specs.Answering.Faults.{reading_refusal, checking_refusal}
use Rattle.wc_canon.specs.Standard.Input.{is_binary, Denotes, KeepsRules, BreaksFirst, Means, HasAnswer, HasFault}
use Rattle.wc_canon.specs.Standard.Input.{IsRefused}
use Rattle.wc_canon.specs.Standard.Printing.{HasText}
use Rattle.wc_canon.specs.Answering.Steps.{IsModuleFault, IsSized}
use Rattle.wc_canon.proofs.Laws.{denotes-binary, denoted-means, has-answer, has-text-fault, has-broken-rule}
use Rattle.wc_canon.proofs.Laws.{has-oversize, answer-canonical, meant-or-fault, never-both, one-fault}

pub if-error : {V E : Type 0} (r : Result V E) (e : E) (P : E → Type 0) → IsErrAnd r (λ f. f ≡ e) → P e → IfErr r P
if-error (Ok v) e P h p = absurd h
if-error (Err f) e P h p = subst P (sym h) p

pub match-error : {V E : Type 0} (r : Result V E) (e : E) (P : V → Type 0) (Q : E → Type 0) → IsErrAnd r (λ f. f ≡ e)
    → Q e → MatchResult r P Q
match-error (Ok v) e P Q h q = absurd h
match-error (Err f) e P Q h q = subst Q (sym h) q

-- ---- a module

pub keeps-rules : (m : Module) → broken m ≡ [] → KeepsRules m
unfolding KeepsRules
keeps-rules m p = p

pub broken-refusal : (m : Module) (e : CheckFault) → IsFirstOf (broken m) e → IsModuleFault m (checking_refusal e)
unfolding BreaksFirst
broken-refusal m (Broken item why) p = p
broken-refusal m NoMemoryToCheck p = tt

-- ---- a refusal of an input

pub module-refused : (x : List ℕ) (m : Module) (f : Refusal) → Denotes x m → IsModuleFault m f → IsRefused x f
module-refused x m (Binary at why) p q = absurd q
module-refused x m (Lex at why) p q = absurd q
module-refused x m (Syntax token at why) p q = absurd q
module-refused x m (Names token at why) p q = absurd q
module-refused x m (Check item why) p q = inr (has-broken-rule x m item why p q)
module-refused x m Oversize p q = inr (has-oversize x m p q.0 q.1)
module-refused x m NoMemory p q = inl refl

pub text-refused : (x : List ℕ) (f : TextFault) → is_binary x ≡ false → IsFault x f → IsRefused x (reading_refusal f)
text-refused x f e (inl h) = inl (ap reading_refusal h)
text-refused x f e (inr p) = inr (has-text-fault x f e p)

-- ---- the module of an accepted input

pub binary-meant : (x : List ℕ) (m : Module) → is_binary x ≡ true → Denotes x m → KeepsRules m → Means x m
binary-meant x m e p k = let c = bin-canon x m (denotes-binary x m e p) in denoted-means x c.0 m p k c.1

-- what is asked of the module of a binary, and of that of a text
pub binary-accepted : {V : Type 0} (r : Result V Refusal) (x : List ℕ) (m : Module) → is_binary x ≡ true → Denotes x m
    → OnOk r (KeepsRules m) → IfOk r (λ v. Means x m)
binary-accepted (Ok v) x m e p k = binary-meant x m e p k
binary-accepted (Err f) x m e p k = tt

pub text-accepted : {V : Type 0} (r : Result V Refusal) (x : List ℕ) (m : Module) → Denotes x m
    → OnOk r (KeepsRules m) → OnOk r (IsSized false m) → IfOk r (λ v. Means x m)
text-accepted (Ok v) x m p k z = denoted-means x z.0 m p k z.1
text-accepted (Err f) x m p k z = tt

pub module-refuses : {V : Type 0} (r : Result V Refusal) (x : List ℕ) (m : Module) → Denotes x m
    → IfErr r (IsModuleFault m) → IfErr r (IsRefused x)
module-refuses (Ok v) x m p h = tt
module-refuses (Err f) x m p h = module-refused x m f p h

pub never-meant : (x : List ℕ) (m : Module) (f : Refusal) → IsRefused x f → Means x m → f ≡ NoMemory
never-meant x m f (inl e) p = e
never-meant x m f (inr q) p = absurd (meant-or-fault x m f p q)

pub that-fault : (x : List ℕ) (f g : Refusal) → IsRefused x f → HasFault x g → (f ≡ NoMemory) ⊎ (f ≡ g)
that-fault x f g (inl e) p = inl e
that-fault x f g (inr q) p = inr (one-fault x f g q p)

-- ---- the answer, or the refusal

module _ {V : Type 0} (bytes : V → List ℕ) (r : Result V Refusal) (x : List ℕ) where
  -- a result that meets its clauses
  abbrev pub IsJudged : Type 0
  IsJudged = IfOk r (λ v. HasAnswer x (bytes v)) × IfErr r (IsRefused x)

module _ {V : Type 0} (bytes : V → List ℕ) where
  pub module-judged : (r : Result V Refusal) (x : List ℕ) (m : Module) → Denotes x m → IfOk r (λ v. KeepsRules m)
      → IfOk r (λ v. Canon (bytes v) m) → IfErr r (IsModuleFault m) → IsJudged bytes r x
  module-judged (Ok v) x m p k q h = (has-answer x (bytes v) m p k q, tt)
  module-judged (Err f) x m p k q h = (tt, module-refused x m f p h)

  pub judged-only : (r : Result V Refusal) (x : List ℕ) → IsJudged bytes r x → (m : Module) → Means x m
      → MatchResult r (λ v. Canon (bytes v) m) (λ f. f ≡ NoMemory)
  judged-only (Ok v) x j m p = answer-canonical x (bytes v) m p j.0
  judged-only (Err f) x j m p = never-meant x m f j.1 p

  pub judged-fault : (r : Result V Refusal) (x : List ℕ) → IsJudged bytes r x → (g : Refusal) → HasFault x g
      → MatchResult r (λ v. ⊥) (λ f. (f ≡ NoMemory) ⊎ (f ≡ g))
  judged-fault (Ok v) x j g p = never-both x (bytes v) g j.0 p
  judged-fault (Err f) x j g p = that-fault x f g j.1 p

-- the bytes of the module are the input, or shorter
pub none-longer : {V : Type 0} (bytes : V → List ℕ) (r : Result V Refusal) (x : List ℕ) (m : Module) → Bin x m
    → IfOk r (λ v. IsShortestOf (bytes v) m) → IfOk r (λ v. IsOrLonger x (bytes v))
none-longer bytes (Ok v) x m p h = h x p
none-longer bytes (Err f) x m p h = tt

-- ---- the printed text

pub has-text : (x t : List ℕ) (m : Module) → Means x m → t ≡ text_of (layout m) → HasText x t
unfolding HasText
has-text x t m p e = (m, p, e)
