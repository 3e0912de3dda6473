use Rattle.std.proofs.Common.{ℕ, ◌≤◌, List, ◌++◌, length, take, ap, sym, ◌∙◌, subst, option_map, arith}
use Rattle.std.proofs.lemmas.List.{take_rest}
use Rattle.wc_tokens.specs.Reading.Elements.{first_element, bytes_of}
use Rattle.wc_tokens.specs.Standard.Strings.{IsString}
use Rattle.wc_tokens.proofs.Escapes.ElementLaws.{IsBegun-more, read_element-shorter}
use Rattle.wc_tokens.proofs.Escapes.StringLaws.{IsBegun, IsBegun-quote, IsBegun-run, IsBegun-end}
use Rattle.wc_tokens.proofs.Escapes.SimpleLaws.{length-take_rest, Elements-plain}
use Rattle.wc_tokens.proofs.strings.string_bytes.Goals as goal

pub loop-element-init : goal.loop-element-init
loop-element-init c =
    IsBegun-quote c.args.token.now.text.now c.as_bytes.result.now c.requires c.as_bytes.ensures.value
    c.in_ok-bytes.bytes.items (c.in_ok-bytes.ensures {u = tt}).items

pub loop-element-smaller : goal.loop-element-smaller
loop-element-smaller c =
    let rest = c.in-Some.element.rest.now in
    let shorter = read_element-shorter c.loop-element.rest.now (bytes_of c.in-Some.element.meaning) rest
    (sym c.read_element.ensures ∙ ap (option_map first_element) c.in-Some.is) in
    let behind : length c.split_at.result.1.now ≤ length rest = omega (arith, c.split_at.ensures.back_len) in
    omega (arith, shorter, behind, length-take_rest c.split_at.result.1.now c.read_simple-run.result.len)

pub loop-element-preserved : goal.loop-element-preserved
loop-element-preserved c =
    let rest = c.in-Some.element.rest.now in
    let others = c.split_at.result.1.now in
    let text = c.args.token.now.text.now in
    let begun = IsBegun-more text c.loop-element.rest.now c.loop-element.bytes.items c.push_meaning.new.bytes.items
    (bytes_of c.in-Some.element.meaning) rest c.loop-element.invariant c.read_element.ensures
    (ap (option_map first_element) c.in-Some.is) (c.in_ok-push_meaning.ensures {u = tt}) in
    let plain = Elements-plain rest c.plain_chunks.result c.plain_chunks.ensures.within c.plain_chunks.ensures.plain in
    let put = (c.in_ok-extend_from_slice.ensures {u = tt}).items
    ∙ ap (λ (t : List ℕ). c.push_meaning.new.bytes.items ++ t) c.split_at.ensures.front in
    let first = IsBegun-run text rest c.push_meaning.new.bytes.items c.extend_from_slice.new.self.items
    (take c.plain_chunks.result rest) c.plain_chunks.result begun plain put in
    let behind = subst (λ (t : List ℕ). IsBegun text t c.extend_from_slice.new.self.items)
    (sym c.split_at.ensures.back) first in
    subst (λ (t : List ℕ). IsBegun text t c.extend_from_slice-in-Some.new.self.items)
    (sym (take_rest others c.read_simple-run.result.len))
    (IsBegun-run text others c.extend_from_slice.new.self.items c.extend_from_slice-in-Some.new.self.items
    _ c.read_simple-run.result.len behind c.read_simple-run.ensures.elements
    (c.in_ok-extend_from_slice-2.ensures {u = tt}).items)

pub returns-clause-string : goal.returns-clause-string
returns-clause-string c =
    let value = c.requires.0 in
    let same = IsBegun-end c.args.token.now.text.now c.loop-element.rest.now c.loop-element.bytes.items
    c.loop-element.invariant c.read_element.ensures (ap (option_map first_element) c.in_default.is) value c.requires.1
    in
    subst (IsString c.args.token.now.text.now) (sym same) c.requires.1

pub returns-clause-only : goal.returns-clause-only
returns-clause-only c =
    IsBegun-end c.args.token.now.text.now c.loop-element.rest.now c.loop-element.bytes.items c.loop-element.invariant
    c.read_element.ensures (ap (option_map first_element) c.in_default.is)
