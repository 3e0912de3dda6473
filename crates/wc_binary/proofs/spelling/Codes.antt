-- More ways of building, and the canonical bytes of what they build.
use Rattle.std.proofs.Common.{◌≡◌, ℕ, List, [], ◌++◌, refl, sym, ◌∙◌}
use Rattle.std.proofs.lemmas.List.{append-nil}
use Rattle.wc_leb128.specs.Standard.Shortest.{HoldsSigned}
use Rattle.wc_leb128.specs.Writing.Bytes.{signed_bytes}
use Rattle.wc_leb128.proofs.Writing.SignedShortest.{signed_bytes-spelled, signed_bytes-least}
use Rattle.wc_binary.specs.Standard.Phrase.{Phrase, gives, signed, ◌>>=◌}
use Rattle.wc_binary.proofs.spelling.Judging.{HasBytes}
use Rattle.wc_binary.proofs.spelling.Phrases.{of}

pub signed-writes : (N : ℕ) → HasBytes (of (signed N)) (HoldsSigned N) signed_bytes
signed-writes N = record {
  written = λ z h. (signed_bytes-spelled N z h, signed_bytes-least N z);
  told = λ s V j b z h. j.signed N b z h;
}

-- the one value of its kind, which no byte spells
pub given-writes : {A : Type 0} (u : A) (Fits : A → Type 0) (bytes : A → List ℕ) → Fits u → bytes u ≡ []
    → ((v : A) → Fits v → v ≡ u) → HasBytes (of (gives u)) Fits bytes
given-writes u Fits bytes fits none one = record {
  written = λ v f. let is = one v f in rw is (none, refl);
  told = λ s V j b v h. let is = h.1 in rw is (fits, j.equal b (bytes u) (h.0 ∙ sym none));
}

-- two parts, and the value that is made of them
module _ {A B C : Type 0} (p : Phrase A) (q : Phrase B) (fit : A → Type 0) (fit2 : B → Type 0)
    (w : A → List ℕ) (w2 : B → List ℕ) (make : A → B → C) (Fits : C → Type 0) (bytes : C → List ℕ)
    (first : HasBytes (of p) fit w) (second : HasBytes (of q) fit2 w2)
    (fits : (a : A) (b : B) → fit a → fit2 b → Fits (make a b))
    (same : (a : A) (b : B) → bytes (make a b) ≡ w a ++ w2 b)
    (back : (v : C) → Fits v → (a : A) × (b : B) × (v ≡ make a b) × fit a × fit2 b) where
  pub pair-writes : HasBytes (of (p >>= λ a. q >>= λ b. gives (make a b))) Fits bytes
  pair-writes = record {
    written = λ v f.
        let t = back v f in
        let is = t.2 in
        let a = first.written t.0 t.3 in
        let b = second.written t.1 t.4 in
        let none = sym (append-nil (w2 t.1)) in
        rw is (w t.0, w2 t.1, t.0, same t.0 t.1, a, (w2 t.1, [], t.1, none, b, (refl, refl)));
    told = λ s V j b v h.
        let k = h.5 in
        let x = first.told s V j h.0 h.2 h.4 in
        let y = second.told s V j k.0 k.2 k.4 in
        let v-is : v ≡ make h.2 k.2 = k.5.1 in
        let bytes-is : b ≡ h.0 ++ k.0 = rw (h.3, k.3, k.5.0, append-nil) refl in
        rw (bytes-is, v-is, same h.2 k.2) (fits h.2 k.2 x.0 y.0, j.join h.0 k.0 (w h.2) (w2 k.2) x.1 y.1);
  }
