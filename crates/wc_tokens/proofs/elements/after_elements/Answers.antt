use Rattle.std.proofs.Common.{ap, sym, ◌∙◌, option_map, arith, inl}
use Rattle.std.proofs.lemmas.List.{take_rest}
use Rattle.wc_tokens.specs.Reading.Elements.{first_element, bytes_of}
use Rattle.wc_tokens.proofs.Escapes.ElementLaws.{read_element-shorter}
use Rattle.wc_tokens.proofs.Escapes.SimpleLaws.{EndsElements-read, EndsElements-here, EndsElements-simple}
use Rattle.wc_tokens.proofs.elements.after_elements.Goals as goal

pub loop-element-init : goal.loop-element-init
loop-element-init c = λ end e.
    EndsElements-simple c.args.text.now c.plain_run.result (λ k lt. inl (c.plain_run.ensures.plain k lt)) end
    (rw (take_rest c.args.text.now c.plain_run.result) at e)

pub loop-element-preserved : goal.loop-element-preserved
loop-element-preserved c = λ end e.
    c.loop-element.invariant end
    (EndsElements-read c.loop-element.rest.now (bytes_of c.in-Some.element.meaning) c.in-Some.element.rest.now end
    (sym c.read_element.ensures ∙ ap (option_map first_element) c.in-Some.is)
    (c.after_simple-rest.ensures.same_end end e))

pub loop-element-smaller : goal.loop-element-smaller
loop-element-smaller c =
    let shorter = read_element-shorter c.loop-element.rest.now (bytes_of c.in-Some.element.meaning)
    c.in-Some.element.rest.now
    (sym c.read_element.ensures ∙ ap (option_map first_element) c.in-Some.is) in
    omega (arith, shorter, c.after_simple-rest.ensures.shorter)

pub returns : goal.returns
returns c =
    c.loop-element.invariant c.loop-element.rest.now
    (EndsElements-here c.loop-element.rest.now
    (sym c.read_element.ensures ∙ ap (option_map first_element) c.in_default.is))
