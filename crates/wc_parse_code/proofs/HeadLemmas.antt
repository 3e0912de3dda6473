-- A head with one more identifier, written at its place.
use Rattle.std.proofs.Common.{◌≡◌, ℕ, zero, suc, ◌<◌, ◌≤◌, List, [], ◌∷◌, length, slice_index_or, slice_set}
use Rattle.std.proofs.Common.{Some, refl, ap, arith}
use Rattle.wc_surface.specs.declared.head.Head.{Head}
use Rattle.wc_surface.specs.Standard.Identifiers.{Identifier}
use Rattle.wc_parse_code.specs.Drafting.Heads.{with_else_id, with_end_id}

-- a head with this identifier behind `else`
abbrev pub else_set : Head → Identifier → Head
else_set head id =
    record { token = head.token; label = head.label; ty = head.ty; else_id = Some id; end_id = head.end_id }

-- a head with this identifier behind `end`
abbrev pub end_set : Head → Identifier → Head
end_set head id =
    record { token = head.token; label = head.label; ty = head.ty; else_id = head.else_id; end_id = Some id }

pub else-written : (heads : List Head) (h : ℕ) (x : Head) (id : Identifier) → h < length heads
    → x ≡ slice_index_or heads h x → slice_set heads h (else_set x id) ≡ with_else_id heads h id
else-written [] h x id less e = absurd (omega arith)
else-written (head ∷ heads) zero x id less e = ap (λ (y : Head). else_set y id ∷ heads) e
else-written (head ∷ heads) (suc h) x id less e =
    ap (λ (hs : List Head). head ∷ hs) (else-written heads h x id (omega arith) e)

pub else-past : (heads : List Head) (h : ℕ) (id : Identifier) → length heads ≤ h → heads ≡ with_else_id heads h id
else-past [] h id past = refl
else-past (head ∷ heads) zero id past = absurd (omega arith)
else-past (head ∷ heads) (suc h) id past = ap (λ (hs : List Head). head ∷ hs) (else-past heads h id (omega arith))

pub end-written : (heads : List Head) (h : ℕ) (x : Head) (id : Identifier) → h < length heads
    → x ≡ slice_index_or heads h x → slice_set heads h (end_set x id) ≡ with_end_id heads h id
end-written [] h x id less e = absurd (omega arith)
end-written (head ∷ heads) zero x id less e = ap (λ (y : Head). end_set y id ∷ heads) e
end-written (head ∷ heads) (suc h) x id less e =
    ap (λ (hs : List Head). head ∷ hs) (end-written heads h x id (omega arith) e)

pub end-past : (heads : List Head) (h : ℕ) (id : Identifier) → length heads ≤ h → heads ≡ with_end_id heads h id
end-past [] h id past = refl
end-past (head ∷ heads) zero id past = absurd (omega arith)
end-past (head ∷ heads) (suc h) id past = ap (λ (hs : List Head). head ∷ hs) (end-past heads h id (omega arith))
