-- An instruction in which none is nested has one value.
use Rattle.std.proofs.Common.{◌≡◌, ℕ, List, [], ◌∷◌, refl, sym, ap, ◌∙◌, subst}
use Rattle.wc_ops.specs.declared.op.Op.{Op}
use Rattle.wc_ops.specs.declared.op.Op.TheVariants as op
use Rattle.wc_syntax.specs.declared.role.Role.{Role}
use Rattle.wc_symbols.specs.declared.symbol.Value.TheVariants.{Instruction}
use Rattle.wc_surface.specs.Standard.Written.Indices.{Index}
use Rattle.wc_surface.specs.Standard.Written.Instructions.{Plain, simple, indexed, br_table, call_indirect, access}
use Rattle.wc_surface.specs.Standard.Written.Instructions.{i32_const, i64_const}
use Rattle.wc_parse_code.specs.Standard.Tokens.{KeptToken}
use Rattle.wc_parse_code.specs.Standard.Productions.Tokens.{Said, ◌⊳◌, IsLiteral}
use Rattle.wc_parse_code.specs.Standard.Productions.Plain.{AreLabels, IsPlain}
use Rattle.wc_parse_code.proofs.OneValue.Literals.{same-literal-32, same-literal-64}
use Rattle.wc_parse_code.proofs.OneValue.Parts.{index_of, read-index, same-index, read_use, read-use, read_mem}
use Rattle.wc_parse_code.proofs.OneValue.Parts.{read-mem}

-- the instruction is of this name, and says what follows it
abbrev SaysPlain : Op → KeptToken → List Said → Plain → Type 0
SaysPlain (op.Simple o) w us p = p ≡ simple o
SaysPlain (op.Index o) w us p = (r : Role) × (v : KeptToken) × (us ≡ r ⊳ v ∷ []) × (p ≡ indexed o (index_of v))
SaysPlain op.BrTable w us p = (xs : List Index) × (x : Index) × AreLabels us xs x × (p ≡ br_table xs x)
SaysPlain op.CallIndirect w us p = p ≡ call_indirect w.token (read_use us)
SaysPlain (op.Mem o) w us p = p ≡ access o (read_mem us)
SaysPlain op.I32Const w us p =
    (r : Role) × (v : KeptToken) × (b : ℕ) × (us ≡ r ⊳ v ∷ []) × IsLiteral 32 v b × (p ≡ i32_const b)
SaysPlain op.I64Const w us p =
    (r : Role) × (v : KeptToken) × (b : ℕ) × (us ≡ r ⊳ v ∷ []) × IsLiteral 64 v b × (p ≡ i64_const b)
SaysPlain _ w us p = ⊥

-- by its name
record ByName (w : KeptToken) (us : List Said) (p : Plain) : Type 0 where
  name : Op
  is : w.symbol.value ≡ Instruction name
  says : SaysPlain name w us p

by-name : {r s : Role} {w : KeptToken} {us : List Said} {p : Plain} → IsPlain r (s ⊳ w ∷ us) p → ByName w us p
by-name (IsPlain.simple_name {o = o} e) = record { name = op.Simple o; is = e; says = refl }
by-name (IsPlain.index_name {v = v} {o = o} e h) =
    record { name = op.Index o; is = e; says = (_, v, refl, ap (indexed o) (sym (read-index h))) }
by-name (IsPlain.br_table_name e h) = record { name = op.BrTable; is = e; says = (_, _, h, refl) }
by-name (IsPlain.call_indirect_name {w = w} e h) =
    record { name = op.CallIndirect; is = e; says = ap (call_indirect w.token) (sym (read-use h)) }
by-name (IsPlain.access_name {o = o} e h) =
    record { name = op.Mem o; is = e; says = ap (access o) (sym (read-mem h)) }
by-name (IsPlain.i32_const_name e h) = record { name = op.I32Const; is = e; says = (_, _, _, refl, h, refl) }
by-name (IsPlain.i64_const_name e h) = record { name = op.I64Const; is = e; says = (_, _, _, refl, h, refl) }

no-labels : {xs : List Index} {x : Index} → AreLabels [] xs x → ⊥
no-labels h = elim h [ ]

same-labels : {us : List Said} {xs ys : List Index} {x y : Index} → AreLabels us xs x → AreLabels us ys y
    → br_table xs x ≡ br_table ys y
same-labels (AreLabels.default a) (AreLabels.default b) = ap (br_table []) (same-index a b)
same-labels (AreLabels.default a) (AreLabels.label b more) = absurd (no-labels more)
same-labels (AreLabels.label a more) (AreLabels.default b) = absurd (no-labels more)
same-labels (AreLabels.label a more) (AreLabels.label b others) =
    one-more (same-index a b) (same-labels more others)
  where
    one-more : {v w x y : Index} {xs ys : List Index} → v ≡ w → br_table xs x ≡ br_table ys y
        → br_table (v ∷ xs) x ≡ br_table (w ∷ ys) y
    one-more e f = cc

the-token : {r s : Role} {v w : KeptToken} → r ⊳ v ∷ [] ≡ s ⊳ w ∷ [] → v ≡ w
the-token e = cc

same-says : (o : Op) (w : KeptToken) (us : List Said) {p q : Plain} → SaysPlain o w us p → SaysPlain o w us q → p ≡ q
same-says (op.Simple o) w us a b = a ∙ sym b
same-says (op.Index o) w us a b =
    a.3 ∙ ap (λ (v : KeptToken). indexed o (index_of v)) (the-token (sym a.2 ∙ b.2)) ∙ sym b.3
same-says op.BrTable w us a b = a.3 ∙ same-labels a.2 b.2 ∙ sym b.3
same-says op.CallIndirect w us a b = a ∙ sym b
same-says (op.Mem o) w us a b = a ∙ sym b
same-says op.I32Const w us a b =
    let same = the-token (sym a.3 ∙ b.3) in
    a.5 ∙ ap i32_const (same-literal-32 (subst (λ (v : KeptToken). IsLiteral 32 v a.2) same a.4) b.4) ∙ sym b.5
same-says op.I64Const w us a b =
    let same = the-token (sym a.3 ∙ b.3) in
    a.5 ∙ ap i64_const (same-literal-64 (subst (λ (v : KeptToken). IsLiteral 64 v a.2) same a.4) b.4) ∙ sym b.5
same-says op.Block w us a b = absurd a
same-says op.Loop w us a b = absurd a
same-says op.If w us a b = absurd a

the-name : {o n : Op} → Instruction o ≡ Instruction n → o ≡ n
the-name e = cc

pub same-plain : {r : Role} {w : KeptToken} {us : List Said} {p q : Plain} → IsPlain r (r ⊳ w ∷ us) p
    → IsPlain r (r ⊳ w ∷ us) q → p ≡ q
same-plain {w = w} {us = us} {q = q} a b =
    let x = by-name a in
    let y = by-name b in
    same-says x.name w us x.says
    (subst (λ (o : Op). SaysPlain o w us q) (the-name (sym y.is ∙ x.is)) y.says)
