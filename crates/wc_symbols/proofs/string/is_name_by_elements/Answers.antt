use Rattle.std.proofs.Common.{◌≡◌, ℕ, List, [], ◌++◌, Bool, true, false, ◌↔◌, IsTrue, IsUtf8, refl, ap, sym, ◌∙◌, subst}
use Rattle.std.proofs.Common.{option_map}
use Rattle.wc_tokens.specs.Reading.Elements.{first_element, bytes_of}
use Rattle.wc_tokens.proofs.Escapes.ElementLaws.{IsBegun-more, read_element-shorter}
use Rattle.wc_tokens.proofs.Escapes.StringLaws.{IsBegun-quote, IsBegun-end}
use Rattle.wc_symbols.proofs.Spelling.StringLemmas.{broken-front}
use Rattle.wc_symbols.proofs.Spelling.Utf8Lemmas.{broken-none}
use Rattle.wc_symbols.proofs.string.is_name_by_elements.Goals as goal

pub loop-element-init : goal.loop-element-init
loop-element-init c = (
  [],
  c.nothing_read-tail.ensures,
  IsBegun-quote c.args.text.now c.as_bytes.result.now c.requires c.as_bytes.ensures.value [] refl,
)

pub loop-element-smaller : goal.loop-element-smaller
loop-element-smaller c =
    read_element-shorter c.loop-element.rest.now (bytes_of c.in-Some.element.meaning) c.in-Some.element.rest.now
    (sym c.read_element.ensures ∙ ap (option_map first_element) c.in-Some.is)

pub loop-element-preserved : goal.loop-element-preserved
loop-element-preserved c =
    let read = c.loop-element.invariant.0 in
    let value = bytes_of c.in-Some.element.meaning in (
      read ++ value,
      c.followed_by-tail.ensures read c.loop-element.invariant.1,
      IsBegun-more c.args.text.now c.loop-element.rest.now read (read ++ value) value c.in-Some.element.rest.now
          c.loop-element.invariant.2 c.read_element.ensures (ap (option_map first_element) c.in-Some.is) refl,
    )

pub returns : goal.returns
returns c = λ bytes s.
    let read = c.loop-element.invariant.0 in
    let same : read ≡ bytes = IsBegun-end c.args.text.now c.loop-element.rest.now read c.loop-element.invariant.2
    c.read_element.ensures (ap (option_map first_element) c.in_default.is) bytes s in
    subst (λ (t : List ℕ). IsTrue c.is_whole.result
    ↔ IsUtf8 t) same (c.is_whole.ensures read c.loop-element.invariant.1)

pub returns-then-is_none : goal.returns-then-is_none
returns-then-is_none c = λ bytes s.
    let read = c.loop-element.invariant.0 in
    let value = bytes_of c.in-Some.element.meaning in
    let rest = c.in-Some.element.rest.now in
    let begun = IsBegun-more c.args.text.now c.loop-element.rest.now read (read ++ value) value rest
    c.loop-element.invariant.2 c.read_element.ensures (ap (option_map first_element) c.in-Some.is) refl in
    let broken = broken-none c.followed_by-tail.result (read ++ value) (c.if-is_none.ensures {u = tt})
    (c.followed_by-tail.ensures read c.loop-element.invariant.1) in (
      (λ (h : ◌≡◌ {A = Bool} false true). absurd cc),
      (λ u. absurd (broken-front c.args.text.now rest (read ++ value) bytes begun broken s u)),
    )
