-- Answers and faults exclude one another, and there is one of them: from the laws of the two formats.
use Rattle.std.proofs.Common.{◌≡◌, ℕ, ◌↔◌, ◌∙◌, List, [], ◌∷◌, Bool, true, false, Some, ◌⊎◌, inl, inr, sym, subst, ap}
use Rattle.std.proofs.Common.{refl}
use Rattle.wc_ast.specs.declared.module.Module.{Module}
use Rattle.wc_check.specs.declared.fault.Item.{Item}
use Rattle.wc_check.specs.declared.fault.CheckWhy.{CheckWhy}
use Rattle.wc_check.specs.Standard.Rules.{first}
use Rattle.wc_check.specs.Standard.Broken.{broken}
use Rattle.wc_binary.specs.declared.fault.BinWhy.{BinWhy}
use Rattle.wc_binary.specs.Standard.Phrase.{Halt, halt}
use Rattle.wc_binary.specs.Standard.Module.{Bin, Canon, StopB, FirstFault}
use Rattle.wc_binary.specs.Standard.Style.{free}
use Rattle.wc_binary.proofs.sections.Order.{bin-rises}
use Rattle.wc_binary.proofs.sections.OneModule.{rises-one, rises-or-stop, one-fault as one-stop}
use Rattle.wc_binary.proofs.sections.Total.{bin-judged}
use Rattle.wc_binary.proofs.phrases.Freed.{canon-bin}
use Rattle.wc_binary.proofs.spelling.whole.Modules.{one-canonical, bin-canon, canon-only}
use Rattle.wc_read_text.specs.declared.fault.TextFault.{TextFault}
use Rattle.wc_read_text.specs.declared.fault.TextFault.TheVariants as text
use Rattle.wc_read_text.specs.Standard.Texts.{Txt}
use Rattle.wc_read_text.specs.Standard.Faults.{FirstFault as FirstTextFault}
use Rattle.wc_read_text.proofs.Laws as source
use Rattle.wc_canon.specs.declared.fault.Refusal.{Refusal}
use Rattle.wc_canon.specs.declared.fault.Refusal.TheVariants.{Binary, Lex, Syntax, Names, Check, Oversize, Memory}
use Rattle.wc_canon.specs.Standard.Input.{is_binary, DenotesBy, Denotes, KeepsRules, BreaksFirst, Means, IsAccepted}
use Rattle.wc_canon.specs.Standard.Input.{HasAnswer, IsBinaryFault, IsTextFault, IsRefusedFor, HasFault}
use Rattle.wc_canon.specs.Answering.Faults.{reading_refusal}
use Rattle.wc_canon.proofs.Sizes.{canon-judged}

-- ---- of the binary format

one-module : (x : List ℕ) (m n : Module) → Bin x m → Bin x n → m ≡ n
one-module x m n p q = rises-one x m n (bin-rises free x m p) (bin-rises free x n q)

module-or-stop : (x : List ℕ) (m : Module) (f : Halt) → Bin x m → StopB x f → ⊥
module-or-stop x m f p q = rises-or-stop x m f (bin-rises free x m p) q

-- ---- of the rules

-- the first of no pairs
none-first : {X : Type 0} (xs : List X) (x : X) → xs ≡ [] → first xs ≡ Some x → ⊥
none-first [] x e p = absurd (cc)
none-first (y ∷ ys) x e p = absurd (cc)

same-pair : (p q : Item × CheckWhy) → Some p ≡ Some q → p ≡ q
same-pair p q e = cc

first-pair : (p q : Item × CheckWhy) → Some p ≡ Some q → Check p.0 p.1 ≡ Check q.0 q.1
first-pair p q e = ap (λ (r : Item × CheckWhy). Check r.0 r.1) (same-pair p q e)

keeps-or-breaks : (m : Module) (item : Item) (why : CheckWhy) → KeepsRules m → BreaksFirst m item why → ⊥
unfolding KeepsRules BreaksFirst
keeps-or-breaks m item why p q = none-first (broken m) (item, why) p q

one-break : (m : Module) (a b : Item) (c d : CheckWhy) → BreaksFirst m a c → BreaksFirst m b d → Check a c ≡ Check b d
unfolding BreaksFirst
one-break m a b c d p q = first-pair (a, c) (b, d) (sym p ∙ q)

empty-or-first : (xs : List (Item × CheckWhy))
    → (xs ≡ []) ⊎ ((item : Item) × (why : CheckWhy) × (first xs ≡ Some (item, why)))
empty-or-first [] = inl refl
empty-or-first (x ∷ xs) = inr (x.0, x.1, refl)

rules-judged : (m : Module) → KeepsRules m ⊎ ((item : Item) × (why : CheckWhy) × BreaksFirst m item why)
unfolding KeepsRules BreaksFirst
rules-judged m = empty-or-first (broken m)

-- ---- what an input denotes

pub binary-denotes : (x : List ℕ) (m : Module) → is_binary x ≡ true → Bin x m → Denotes x m
unfolding Denotes
binary-denotes x m e p = subst (λ s. DenotesBy s x m) (sym e) p

pub denotes-binary : (x : List ℕ) (m : Module) → is_binary x ≡ true → Denotes x m → Bin x m
unfolding Denotes
denotes-binary x m e p = subst (λ s. DenotesBy s x m) e p

pub text-denotes : (x : List ℕ) (m : Module) → is_binary x ≡ false → Txt x m → Denotes x m
unfolding Denotes
text-denotes x m e p = subst (λ s. DenotesBy s x m) (sym e) p

pub denotes-text : (x : List ℕ) (m : Module) → is_binary x ≡ false → Denotes x m → Txt x m
unfolding Denotes
denotes-text x m e p = subst (λ s. DenotesBy s x m) e p

one-by : (s : Bool) (x : List ℕ) (m n : Module) → DenotesBy s x m → DenotesBy s x n → m ≡ n
one-by true x m n p q = one-module x m n p q
one-by false x m n p q = source.one-module x m n p q

pub one-denoted : (x : List ℕ) (m n : Module) → Denotes x m → Denotes x n → m ≡ n
unfolding Denotes
one-denoted x m n p q = one-by (is_binary x) x m n p q

-- canonical bytes are a binary
pub canon-is-binary : (b : List ℕ) (m : Module) → Canon b m → is_binary b ≡ true
canon-is-binary b m p = ap is_binary (canon-only b m p).1

pub canon-denotes : (b : List ℕ) (m : Module) → Canon b m → Denotes b m
canon-denotes b m p = binary-denotes b m (canon-is-binary b m p) (canon-bin b m p)

-- ---- what answers and faults are made of

pub denoted-means : (x b : List ℕ) (m : Module) → Denotes x m → KeepsRules m → Canon b m → Means x m
unfolding Means
denoted-means x b m p k q = (p, k, (b, q))

pub means-denoted : (x : List ℕ) (m : Module) → Means x m → Denotes x m
unfolding Means
means-denoted x m p = p.0

pub means-kept : (x : List ℕ) (m : Module) → Means x m → KeepsRules m
unfolding Means
means-kept x m p = p.1

pub means-canon : (x : List ℕ) (m : Module) → Means x m → (b : List ℕ) × Canon b m
unfolding Means
means-canon x m p = p.2

pub has-answer : (x b : List ℕ) (m : Module) → Denotes x m → KeepsRules m → Canon b m → HasAnswer x b
unfolding HasAnswer
has-answer x b m p k q = (m, denoted-means x b m p k q, q)

pub means-answered : (x : List ℕ) (m : Module) → Means x m → (b : List ℕ) × HasAnswer x b
unfolding HasAnswer
means-answered x m p = let c = means-canon x m p in (c.0, (m, p, c.1))

-- a binary whose module breaks no rule has canonical bytes
pub binary-answered : (x : List ℕ) (m : Module) → is_binary x ≡ true → Denotes x m → KeepsRules m
    → (b : List ℕ) × HasAnswer x b
binary-answered x m e p k = let c = bin-canon x m (denotes-binary x m e p) in (c.0, has-answer x c.0 m p k c.1)

pub has-binary-fault : (x : List ℕ) (at : ℕ) (why : BinWhy) → is_binary x ≡ true → FirstFault x at why
    → HasFault x (Binary at why)
unfolding HasFault
has-binary-fault x at why e p = (
  λ a. module-or-stop x a.0 (halt at why p.0) (denotes-binary x a.0 e (means-denoted x a.0 a.1)) p.1,
  (e, p),
)

not-accepted : (x : List ℕ) (f : TextFault) → is_binary x ≡ false → FirstTextFault x f → IsAccepted x → ⊥
not-accepted x f e p a = source.never-both x a.0 f (denotes-text x a.0 e (means-denoted x a.0 a.1)) p

pub has-text-fault : (x : List ℕ) (f : TextFault) → is_binary x ≡ false → FirstTextFault x f
    → HasFault x (reading_refusal f)
unfolding HasFault
has-text-fault x (text.Lex at why) e p = (not-accepted x (text.Lex at why) e p, (e, p))
has-text-fault x (text.Syntax token at why) e p = (not-accepted x (text.Syntax token at why) e p, (e, p))
has-text-fault x (text.Names token at why) e p = (not-accepted x (text.Names token at why) e p, (e, p))
has-text-fault x text.Memory e p = absurd p

-- the module of an accepted input is the one that it denotes, so it breaks no rule
kept-by-meaning : (x : List ℕ) (m n : Module) → Denotes x m → Means x n → KeepsRules m
kept-by-meaning x m n p q = subst KeepsRules (one-denoted x n m (means-denoted x n q) p) (means-kept x n q)

pub has-broken-rule : (x : List ℕ) (m : Module) (item : Item) (why : CheckWhy) → Denotes x m → BreaksFirst m item why
    → HasFault x (Check item why)
unfolding HasFault
has-broken-rule x m item why p q = (λ a. keeps-or-breaks m item why (kept-by-meaning x m a.0 p a.1) q, (m, p, q))

-- and some bytes spell it
spelled-by-meaning : (x : List ℕ) (m n : Module) → Denotes x m → Means x n → (b : List ℕ) × Canon b m
spelled-by-meaning x m n p q =
    subst (λ (o : Module). (b : List ℕ) × Canon b o) (one-denoted x n m (means-denoted x n q) p) (means-canon x n q)

pub has-oversize : (x : List ℕ) (m : Module) → Denotes x m → KeepsRules m → ((b : List ℕ) → Bin b m → ⊥)
    → HasFault x Oversize
unfolding HasFault
has-oversize x m p k none = (
  λ a. let c = spelled-by-meaning x m a.0 p a.1 in none c.0 (canon-bin c.0 m c.1),
  (m, p, k),
)

-- ---- one module, one answer

pub one-meaning : (x : List ℕ) (m n : Module) → Means x m → Means x n → m ≡ n
one-meaning x m n p q = one-denoted x m n (means-denoted x m p) (means-denoted x n q)

-- an answer is canonical for whatever its input means
pub answer-canonical : (x b : List ℕ) (m : Module) → Means x m → HasAnswer x b → Canon b m
unfolding HasAnswer
answer-canonical x b m p a = subst (Canon b) (one-meaning x a.0 m a.1 p) a.2

pub answers-spell : (x b : List ℕ) (m : Module) → Means x m → HasAnswer x b → Bin b m
answers-spell x b m p a = canon-bin b m (answer-canonical x b m p a)

pub same-bytes-same-module : (x y b c : List ℕ) (m n : Module) → Means x m → Means y n → HasAnswer x b → HasAnswer y c
    → (b ≡ c) ↔ (m ≡ n)
same-bytes-same-module x y b c m n p q a d = (
  λ e. one-module c m n (subst (λ l. Bin l m) e (answers-spell x b m p a)) (answers-spell y c n q d),
  λ e. one-canonical b c n (subst (Canon b) e (answer-canonical x b m p a)) (answer-canonical y c n q d),
)

pub answers-are-fixed : (x b : List ℕ) → HasAnswer x b → HasAnswer b b
unfolding HasAnswer
answers-are-fixed x b a = has-answer b b a.0 (canon-denotes b a.0 a.2) (means-kept x a.0 a.1) a.2

pub one-answer : (x b c : List ℕ) → HasAnswer x b → HasAnswer x c → b ≡ c
unfolding HasAnswer
one-answer x b c a d = one-canonical b c d.0 (answer-canonical x b d.0 d.1 a) d.2

-- ---- an answer or a fault

pub accepted : (x b : List ℕ) → HasAnswer x b → IsAccepted x
unfolding HasAnswer
accepted x b a = (a.0, a.1)

pub never-both : (x b : List ℕ) (f : Refusal) → HasAnswer x b → HasFault x f → ⊥
unfolding HasFault
never-both x b f a p = p.0 (accepted x b a)

pub meant-or-fault : (x : List ℕ) (m : Module) (f : Refusal) → Means x m → HasFault x f → ⊥
unfolding HasFault
meant-or-fault x m f p q = q.0 (m, p)

pub never-too-large : (x : List ℕ) → is_binary x ≡ true → HasFault x Oversize → ⊥
unfolding HasFault
never-too-large x e p = let a = binary-answered x p.1.0 e p.1.1 p.1.2 in never-both x a.0 Oversize a.1 p

-- ---- one fault

-- a fault of the format: of the bytes of a binary, or of a text
abbrev IsUnformed : List ℕ → Refusal → Type 0
IsUnformed x f =
    ((at : ℕ) × (why : BinWhy) × (f ≡ Binary at why) × IsBinaryFault x at why)
    ⊎ ((t : TextFault) × (f ≡ reading_refusal t) × IsTextFault x t)

-- a fault of the module that is denoted: a rule, or its size
abbrev IsBroken : List ℕ → Refusal → Type 0
IsBroken x f = (m : Module) × (item : Item) × (why : CheckWhy) × (f ≡ Check item why) × Denotes x m
    × BreaksFirst m item why

abbrev IsLarge : List ℕ → Refusal → Type 0
IsLarge x f = (m : Module) × (f ≡ Oversize) × Denotes x m × KeepsRules m

kind : (x : List ℕ) (f : Refusal) → IsRefusedFor x f → IsUnformed x f ⊎ (IsBroken x f ⊎ IsLarge x f)
kind x (Binary at why) p = inl (inl (at, why, refl, p))
kind x (Lex at why) p = inl (inr (text.Lex at why, refl, p))
kind x (Syntax token at why) p = inl (inr (text.Syntax token at why, refl, p))
kind x (Names token at why) p = inl (inr (text.Names token at why, refl, p))
kind x (Check item why) p = inr (inl (p.0, item, why, refl, p.1, p.2))
kind x Oversize p = inr (inr (p.0, refl, p.1, p.2))
kind x Memory p = absurd p

both-formats : {A : Type 0} (s : Bool) → s ≡ true → s ≡ false → A
both-formats s e h = absurd (cc)

same-place : (x : List ℕ) (at to : ℕ) (why reason : BinWhy) → FirstFault x at why → FirstFault x to reason
    → Binary at why ≡ Binary to reason
same-place x at to why reason p q =
    let e : halt at why p.0 ≡ halt to reason q.0 = one-stop x _ _ p.1 q.1 in
    ap (λ (h : Halt). Binary h.at h.why) e

one-unformed : (x : List ℕ) (f g : Refusal) → IsUnformed x f → IsUnformed x g → f ≡ g
one-unformed x f g (inl p) (inl q) = p.2 ∙ same-place x p.0 q.0 p.1 q.1 p.3.1 q.3.1 ∙ sym q.2
one-unformed x f g (inl p) (inr q) = both-formats (is_binary x) p.3.0 q.2.0
one-unformed x f g (inr p) (inl q) = both-formats (is_binary x) q.3.0 p.2.0
one-unformed x f g (inr p) (inr q) =
    p.1 ∙ ap reading_refusal (source.one-fault x p.0 q.0 p.2.1 q.2.1) ∙ sym q.1

unformed-or-denotes : (x : List ℕ) (f : Refusal) (m : Module) → IsUnformed x f → Denotes x m → ⊥
unformed-or-denotes x f m (inl p) q =
    module-or-stop x m (halt p.0 p.1 p.3.1.0) (denotes-binary x m p.3.0 q) p.3.1.1
unformed-or-denotes x f m (inr p) q = source.never-both x m p.0 (denotes-text x m p.2.0 q) p.2.1

same-rule : (x : List ℕ) (m n : Module) (a b : Item) (c d : CheckWhy) → Denotes x m → Denotes x n → BreaksFirst m a c
    → BreaksFirst n b d → Check a c ≡ Check b d
same-rule x m n a b c d p q k l =
    one-break n a b c d (subst (λ (o : Module). BreaksFirst o a c) (one-denoted x m n p q) k) l

broken-or-large : (x : List ℕ) (f g : Refusal) → IsBroken x f → IsLarge x g → ⊥
broken-or-large x f g p q =
    keeps-or-breaks p.0 p.1 p.2 (subst KeepsRules (one-denoted x q.0 p.0 q.2 p.4) q.3) p.5

one-kind : (x : List ℕ) (f g : Refusal) → IsUnformed x f ⊎ (IsBroken x f ⊎ IsLarge x f)
    → IsUnformed x g ⊎ (IsBroken x g ⊎ IsLarge x g) → f ≡ g
one-kind x f g (inl p) (inl q) = one-unformed x f g p q
one-kind x f g (inl p) (inr (inl q)) = absurd (unformed-or-denotes x f q.0 p q.4)
one-kind x f g (inl p) (inr (inr q)) = absurd (unformed-or-denotes x f q.0 p q.2)
one-kind x f g (inr (inl p)) (inl q) = absurd (unformed-or-denotes x g p.0 q p.4)
one-kind x f g (inr (inl p)) (inr (inl q)) = p.3 ∙ same-rule x p.0 q.0 p.1 q.1 p.2 q.2 p.4 q.4 p.5 q.5 ∙ sym q.3
one-kind x f g (inr (inl p)) (inr (inr q)) = absurd (broken-or-large x f g p q)
one-kind x f g (inr (inr p)) (inl q) = absurd (unformed-or-denotes x g p.0 q p.2)
one-kind x f g (inr (inr p)) (inr (inl q)) = absurd (broken-or-large x g f q p)
one-kind x f g (inr (inr p)) (inr (inr q)) = p.1 ∙ sym q.1

pub one-fault : (x : List ℕ) (f g : Refusal) → HasFault x f → HasFault x g → f ≡ g
unfolding HasFault
one-fault x f g p q = one-kind x f g (kind x f p.1) (kind x g q.1)

-- ---- always one of them

abbrev IsAnswered : List ℕ → Type 0
IsAnswered x = ((b : List ℕ) × HasAnswer x b) ⊎ ((f : Refusal) × HasFault x f)

sized : (x : List ℕ) (m : Module) → Denotes x m → KeepsRules m → ((b : List ℕ) × Canon b m)
    ⊎ ((b : List ℕ) → Bin b m → ⊥)
    → IsAnswered x
sized x m p k (inl c) = inl (c.0, has-answer x c.0 m p k c.1)
sized x m p k (inr none) = inr (Oversize, has-oversize x m p k none)

module-judged : (x : List ℕ) (m : Module) → Denotes x m
    → KeepsRules m ⊎ ((item : Item) × (why : CheckWhy) × BreaksFirst m item why) → IsAnswered x
module-judged x m p (inl k) = sized x m p k (canon-judged m)
module-judged x m p (inr q) = inr (Check q.0 q.1, has-broken-rule x m q.0 q.1 p q.2)

binary-judged : (x : List ℕ) → is_binary x ≡ true → ((m : Module) × Bin x m) ⊎ ((f : Halt) × StopB x f) → IsAnswered x
binary-judged x e (inl p) = module-judged x p.0 (binary-denotes x p.0 e p.1) (rules-judged p.0)
binary-judged x e (inr p) = inr (Binary p.0.at p.0.why, has-binary-fault x p.0.at p.0.why e (p.0.taken, p.1))

text-judged : (x : List ℕ) → is_binary x ≡ false → ((m : Module) × Txt x m) ⊎ ((f : TextFault) × FirstTextFault x f)
    → IsAnswered x
text-judged x e (inl p) = module-judged x p.0 (text-denotes x p.0 e p.1) (rules-judged p.0)
text-judged x e (inr p) = inr (reading_refusal p.0, has-text-fault x p.0 e p.1)

judged-by : (s : Bool) (x : List ℕ) → is_binary x ≡ s → IsAnswered x
judged-by true x e = binary-judged x e (bin-judged x)
judged-by false x e = text-judged x e (source.always-one x)

pub always-judged : (x : List ℕ) → ((b : List ℕ) × HasAnswer x b) ⊎ ((f : Refusal) × HasFault x f)
always-judged x = judged-by (is_binary x) x refl
