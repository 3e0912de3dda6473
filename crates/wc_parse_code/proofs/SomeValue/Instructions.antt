-- What the kept tokens of instructions say.
use Rattle.std.proofs.Common.{ℕ, zero, suc, ◌≤◌, arith, List, [], ◌∷◌, ◌++◌, Option, inl, inr, refl, append_assoc}
use Rattle.wc_ops.specs.declared.op.Op.TheVariants as op
use Rattle.wc_body.specs.Standard.Nested.{nesting, Code, ◌⧺◌}
use Rattle.wc_syntax.specs.declared.kind.Kind.{Kind}
use Rattle.wc_syntax.specs.declared.kind.Kind.TheVariants as kind
use Rattle.wc_syntax.specs.declared.role.Role.TheVariants as role
use Rattle.wc_syntax.specs.Standard.Phrases.{Nonterminal, instr, foldedinstr, typeuse, param, result, Phrase, Keep, ◌·◌}
use Rattle.wc_syntax.specs.Standard.Phrases.{Many, The, Maybe}
use Rattle.wc_syntax.specs.Standard.Types.{lp, rp}
use Rattle.wc_syntax.specs.Standard.Instructions.{end_id, instrs, instr_body, foldedinstr_body}
use Rattle.wc_syntax.specs.Standard.Grammar.{body}
use Rattle.wc_syntax.specs.Standard.Deriving.{Event, numbered, Derives}
use Rattle.wc_surface.specs.Standard.Identifiers.{Identifier}
use Rattle.wc_surface.specs.Standard.Written.Instructions.{Instrs}
use Rattle.wc_parse_code.specs.Standard.Tokens.{KeptToken}
use Rattle.wc_parse_code.specs.Standard.Productions.Tokens.{Said, ◌⊳◌, NamesInstruction, IsId}
use Rattle.wc_parse_code.specs.Standard.Productions.Instructions.{Part, Says}
use Rattle.wc_parse_code.specs.Standard.Productions.Kept.{AreKept}
use Rattle.wc_parse_code.proofs.SomeValue.Phrases.{Star, Nothing, RuleSays, Are, AreTokens, behind, before}
use Rattle.wc_parse_code.proofs.SomeValue.Phrases.{parts, alone, word_then, derived-are}
use Rattle.wc_parse_code.proofs.SomeValue.Rules.{fits, plain-says, id-says, SomeHead, head-says, region-says}
use Rattle.wc_parse_code.proofs.SomeValue.Rules.{param-says, result-says, typeuse-says}

-- these kept tokens say some instructions, as this part, of which no more are nested in one another than this
abbrev pub SomeOf : ℕ → Part → List Said → Type 0
SomeOf d p us = (c : Instrs) × Says p us c × (nesting c ≤ d)

nesting-append : (d : ℕ) (b c : Instrs) → nesting b ≤ d → nesting c ≤ d → nesting (b ⧺ c) ≤ d
nesting-append d Code.empty c e f = f
nesting-append d (Code.op p next) c e f = nesting-append d next c e f
nesting-append d (Code.region r h inside next) c e f =
    omega (arith, e, nesting-append d next c (omega (arith, e)) f)
nesting-append d (Code.choice h first second next) c e f =
    omega (arith, e, nesting-append d next c (omega (arith, e)) f)

pub list-says : (d : ℕ) {us : List Said} → Are (instrs d) us → SomeOf d Part.instrs us
list-says d Star.stop = (_, Says.none, omega arith)
list-says d (Star.go h more) =
    let rest = list-says d more in (_, Says.more h.1 rest.1, nesting-append d h.0 rest.0 h.2 rest.2)

folded-list-says : (d : ℕ) {us : List Said} → Are (Many (The (foldedinstr d))) us → SomeOf d Part.foldedinstrs us
folded-list-says d Star.stop = (_, Says.no_folded, omega arith)
folded-list-says d (Star.go h more) =
    let rest = folded-list-says d more in (_, Says.more_folded h.1 rest.1, nesting-append d h.0 rest.0 h.2 rest.2)

-- ---- unfolded ones

-- the else part of an if
abbrev else_part : ℕ → Phrase
else_part d = Keep role.Else kind.ElseWord · end_id · instrs d

-- its end
abbrev end_part : Phrase
end_part = Keep role.End kind.EndWord · end_id

if-says : (d : ℕ) {w : KeptToken} {us is more last : List Said} → NamesInstruction w op.If → SomeHead us
    → SomeOf d Part.instrs is → Are (Maybe (else_part d)) more → Are end_part last
    → SomeOf (suc d) Part.instr (role.Begin ⊳ w ∷ (us ++ (is ++ (more ++ last))))
if-says d {w = w} {us = us} {is = is} n h c (inl Nothing.nothing) e =
    word_then (λ last. SomeOf (suc d) Part.instr (role.Begin ⊳ w ∷ (us ++ (is ++ last)))) e
    (λ z rest k s i. (
      _,
      simp append_assoc at (Says.if_then z {w = w} n h.is c.1 (id-says role.EndLabel i).1),
      omega (arith, c.2),
    ))
if-says d {w = w} {us = us} {is = is} {last = last} n h c (inr m) e =
    word_then (λ more. SomeOf (suc d) Part.instr (role.Begin ⊳ w ∷ (us ++ (is ++ (more ++ last))))) m
    (λ y rest k s m. parts
    (λ rest. SomeOf (suc d) Part.instr (role.Begin ⊳ w ∷ (us ++ (is ++ (role.Else ⊳ y ∷ rest ++ last))))) m
    (λ ys js i b. else-says y ys js (id-says role.EndLabel i) (list-says d b)))
  where
    else-says : (y : KeptToken) (ys js : List Said) → (i : Option Identifier) × IsId role.EndLabel ys i
        → SomeOf d Part.instrs js
        → SomeOf (suc d) Part.instr (role.Begin ⊳ w ∷ (us ++ (is ++ (role.Else ⊳ y ∷ (ys ++ js) ++ last))))
    else-says y ys js i b =
        rw append_assoc (word_then
        (λ last. SomeOf (suc d) Part.instr (role.Begin ⊳ w ∷ (us ++ (is ++ (role.Else ⊳ y ∷ (ys ++ (js ++ last))))))) e
        (λ z rest k s j. (
          _,
          simp append_assoc at (Says.if_else y z {w = w} n h.is c.1 i.1 b.1 (id-says role.EndLabel j).1),
          omega (arith, c.2, b.2),
        )))

pub instr-says : (d : ℕ) {us : List Said} → Are (instr_body d) us → SomeOf d Part.instr us
instr-says zero (inl h) = (_, Says.plain (plain-says role.Plain h).1, omega arith)
instr-says zero (inr (inl h)) = (_, Says.folded h.1, h.2)
instr-says zero (inr (inr h)) = absurd h
instr-says (suc d) (inl h) = (_, Says.plain (plain-says role.Plain h).1, omega arith)
instr-says (suc d) (inr (inl h)) = (_, Says.folded h.1, h.2)
instr-says (suc d) (inr (inr (inl m))) = word_then (SomeOf (suc d) Part.instr) m
    (λ w rest k s m. parts (λ us. SomeOf (suc d) Part.instr (role.Begin ⊳ w ∷ us)) m
    (λ us rest h m. parts (λ rest. SomeOf (suc d) Part.instr (role.Begin ⊳ w ∷ (us ++ rest))) m
    (λ is rest b m. word_then (λ rest. SomeOf (suc d) Part.instr (role.Begin ⊳ w ∷ (us ++ (is ++ rest)))) m
    (λ z xs e t i. (
      _,
      simp append_assoc at (Says.region z (region-says k s).1 (head-says h).is (list-says d b).1
          (id-says role.EndLabel i).1),
      omega (arith, (list-says d b).2),
    )))))
instr-says (suc d) (inr (inr (inr (inl m)))) = word_then (SomeOf (suc d) Part.instr) m
    (λ w rest k s m. parts (λ us. SomeOf (suc d) Part.instr (role.Begin ⊳ w ∷ us)) m
    (λ us rest h m. parts (λ rest. SomeOf (suc d) Part.instr (role.Begin ⊳ w ∷ (us ++ rest))) m
    (λ is rest b m. parts (λ rest. SomeOf (suc d) Part.instr (role.Begin ⊳ w ∷ (us ++ (is ++ rest)))) m
    (λ more last e f. if-says d (fits k s) (head-says h) (list-says d b) e f))))
instr-says (suc d) (inr (inr (inr (inr h)))) = absurd h

-- ---- folded ones

-- the second part of a folded if
abbrev folded_else : ℕ → Phrase
folded_else d = lp · Keep role.Else kind.ElseWord · instrs d · rp

folded-if-says : (d : ℕ) (t : KeptToken) {w : KeptToken} {us cs is more last : List Said}
    → NamesInstruction w op.If → SomeHead us
    → SomeOf d Part.foldedinstrs cs → SomeOf d Part.instrs is → Are (Maybe (folded_else d)) more
    → Are (Keep role.End kind.Close) last
    → SomeOf (suc d) Part.foldedinstr (role.HeldBegin ⊳ w ∷ (us ++ (cs ++ (role.Then ⊳ t ∷ (is ++ (more ++ last))))))
folded-if-says d t {w = w} {us = us} {cs = cs} {is = is} n h a b (inl Nothing.nothing) e =
    alone
    (λ last. SomeOf (suc d) Part.foldedinstr (role.HeldBegin ⊳ w ∷ (us ++ (cs ++ (role.Then ⊳ t ∷ (is ++ last)))))) e
    (λ z k s. (
      _,
      simp append_assoc at (Says.folded_then t z {w = w} n h.is a.1 b.1),
      nesting-append (suc d) a.0 _ (omega (arith, a.2)) (omega (arith, b.2)),
    ))
folded-if-says d t {w = w} {us = us} {cs = cs} {is = is} {last = last} n h a b (inr m) e =
    word_then
    (λ more. SomeOf (suc d) Part.foldedinstr
    (role.HeldBegin ⊳ w ∷ (us ++ (cs ++ (role.Then ⊳ t ∷ (is ++ (more ++ last)))))))
    (behind m)
    (λ y js k s m. alone
    (λ last. SomeOf (suc d) Part.foldedinstr
    (role.HeldBegin ⊳ w ∷ (us ++ (cs ++ (role.Then ⊳ t ∷ (is ++ (role.Else ⊳ y ∷ (js ++ last)))))))) e
    (λ z f g. let j = list-says d (before m) in (
      _,
      simp append_assoc at (Says.folded_else t y z {w = w} n h.is a.1 b.1 j.1),
      nesting-append (suc d) a.0 _ (omega (arith, a.2)) (omega (arith, b.2, j.2)),
    )))

pub folded-says : (d : ℕ) {us : List Said} → Are (foldedinstr_body d) us → SomeOf d Part.foldedinstr us
folded-says zero s = absurd s.second
folded-says (suc d) (inl m) = parts (SomeOf (suc d) Part.foldedinstr) (behind m)
    (λ us rest h m. parts (λ rest. SomeOf (suc d) Part.foldedinstr (us ++ rest)) m
    (λ vs last b e. alone (λ last. SomeOf (suc d) Part.foldedinstr (us ++ (vs ++ last))) e
    (λ z k s. let c = folded-list-says d b in (
      _,
      simp append_assoc at (Says.folded_plain z (plain-says role.HeldPlain h).1 c.1),
      nesting-append (suc d) c.0 _ (omega (arith, c.2)) (omega arith),
    ))))
folded-says (suc d) (inr (inl m)) = word_then (SomeOf (suc d) Part.foldedinstr) (behind m)
    (λ w rest k s m. parts (λ us. SomeOf (suc d) Part.foldedinstr (role.Begin ⊳ w ∷ us)) m
    (λ us rest h m. parts (λ rest. SomeOf (suc d) Part.foldedinstr (role.Begin ⊳ w ∷ (us ++ rest))) m
    (λ is last b e. alone (λ last. SomeOf (suc d) Part.foldedinstr (role.Begin ⊳ w ∷ (us ++ (is ++ last)))) e
    (λ z f g. let c = list-says d b in (
      _,
      simp append_assoc at (Says.folded_region z (region-says k s).1 (head-says h).is c.1),
      omega (arith, c.2),
    )))))
folded-says (suc d) (inr (inr (inl m))) = word_then (SomeOf (suc d) Part.foldedinstr) (behind m)
    (λ w rest k s m. parts (λ us. SomeOf (suc d) Part.foldedinstr (role.HeldBegin ⊳ w ∷ us)) m
    (λ us rest h m. parts (λ rest. SomeOf (suc d) Part.foldedinstr (role.HeldBegin ⊳ w ∷ (us ++ rest))) m
    (λ cs rest a m. word_then
    (λ rest. SomeOf (suc d) Part.foldedinstr (role.HeldBegin ⊳ w ∷ (us ++ (cs ++ rest)))) (behind m)
    (λ t rest f g m. parts
    (λ rest. SomeOf (suc d) Part.foldedinstr (role.HeldBegin ⊳ w ∷ (us ++ (cs ++ (role.Then ⊳ t ∷ rest))))) m
    (λ is rest b m. parts
    (λ rest. SomeOf (suc d) Part.foldedinstr (role.HeldBegin ⊳ w ∷ (us ++ (cs ++ (role.Then ⊳ t ∷ (is ++ rest))))))
    (behind m)
    (λ more last e z. folded-if-says d t (fits k s) (head-says h) (folded-list-says d a) (list-says d b) e z))))))
folded-says (suc d) (inr (inr (inr s))) = absurd s.second

-- ---- every rule

rules : (n : Nonterminal) (us : List Said) → Are (body n) us → RuleSays n us
rules (instr d) us h = instr-says d h
rules (foldedinstr d) us h = folded-says d h
rules typeuse us h = typeuse-says h
rules param us h = param-says h
rules result us h = result-says h
rules _ us h = tt

pub numbered-tokens : (n : ℕ) (ks : List Kind) → AreTokens (numbered n ks)
numbered-tokens n [] = AreTokens.none
numbered-tokens n (k ∷ ks) = AreTokens.more refl (numbered-tokens (suc n) ks)

-- derived instructions say some
pub instrs-say : (d n : ℕ) (ks : List Kind) (es : List Event) (us : List Said) → Derives (instrs d) (numbered n ks) es
    → AreKept es us → SomeOf d Part.instrs us
instrs-say d n ks es us h k = list-says d (derived-are RuleSays rules h (numbered-tokens n ks) us k)

-- and so do folded ones
pub folded-say : (d n : ℕ) (ks : List Kind) (es : List Event) (us : List Said)
    → Derives (The (foldedinstr d)) (numbered n ks) es → AreKept es us → SomeOf d Part.foldedinstr us
folded-say d n ks es us h k = derived-are RuleSays rules h (numbered-tokens n ks) us k
