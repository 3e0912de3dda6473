use Rattle.std.proofs.Common.{◌≡◌, ℕ, ◌+◌, ◌<◌, ◌^◌, List, length, get_or, sym, subst, ◌∙◌}
use Rattle.std.specs.List.{All}
use Rattle.std.proofs.lemmas.List.Elements.{All-get_or}
use Rattle.wc_surface.specs.declared.field.Field.{Field}
use Rattle.wc_declare.specs.Standard.Inner.{locals_of}
use Rattle.wc_declare.proofs.Faults.{faults-next}
use Rattle.wc_resolve_func.specs.Standard.Fitting.{FieldFits}
use Rattle.wc_resolve.specs.Standard.Funcs.{field_funcs, field_func_faults}
use Rattle.wc_resolve.proofs.Rows.{flat-more}
use Rattle.wc_resolve.proofs.funcs.funcs.Goals as goal

fits : (fs : List Field) (i : ℕ) (f : Field) → i < length fs → f ≡ get_or fs i f → All (FieldFits fs) fs
    → FieldFits fs f
fits fs i f lt e h =
    let P : Field → Type 0 = λ x. FieldFits fs x in subst P (sym e) (All-get_or (FieldFits fs) fs i f lt h)

pub put_field-requires-clause-room : goal.put_field-requires-clause-room
put_field-requires-clause-room c =
    let fs = c.args.fields.now in
    let P : List ℕ → Type 0 = λ ns. All (λ n. n + length (locals_of c.field-item.result) < 2 ^ 32) ns in
    subst P (sym (c.as_slice.ensures.value ∙ c.in_ok-counts.ensures fs c.requires.declared))
    (fits fs c.loop-field.field-index c.field-item.result c.loop-field-test.true c.field-item.is c.requires.fit).room

pub put_field-requires-clause-within : goal.put_field-requires-clause-within
put_field-requires-clause-within c =
    (fits c.args.fields.now c.loop-field.field-index c.field-item.result c.loop-field-test.true c.field-item.is
    c.requires.fit).within

pub loop-field-preserved : goal.loop-field-preserved
loop-field-preserved c =
    let fs = c.args.fields.now in
    let known = c.as_slice.ensures.value ∙ c.in_ok-counts.ensures fs c.requires.declared in
    record {
      funcs = flat-more (field_funcs fs) fs c.loop-field.field-index c.field-item.result c.loop-field.out _ _
          c.loop-field-test.true c.field-item.is (c.in_ok-put_field.ensures.funcs fs c.requires.declared known)
          c.loop-field.invariant.funcs;
      noted = faults-next (field_func_faults fs) fs c.loop-field.field-index c.field-item.result
          c.loop-field.noted.first _ _
          c.loop-field-test.true c.field-item.is (c.in_ok-put_field.ensures.noted fs c.requires.declared known)
          c.loop-field.invariant.noted;
    }
