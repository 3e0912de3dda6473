use Rattle.std.proofs.Common.{drop, arith}
use Rattle.wc_binary.specs.declared.section.SectionKind.TheVariants as kinds
use Rattle.wc_binary.specs.Standard.Sections.{section_id, in_order}
use Rattle.wc_binary.specs.Standard.Module.{parts_of}
use Rattle.wc_binary.proofs.spelling.Measuring.{held-counted, none-counted}
use Rattle.wc_binary.proofs.encoder.sections.sections_size.Goals as goal

pub returns-in_err-types : goal.returns-in_err-types
returns-in_err-types c =
    let none = rw c.as_slice.ensures at (c.in_err-types.ensures 0) in rw c.from_residual.ensures (λ f. none f.0)

pub returns-in_err-imports : goal.returns-in_err-imports
returns-in_err-imports c =
    let none = c.in_err-imports.ensures 0 in rw c.from_residual-in_err-imports.ensures (λ f. none f.1.0)

pub returns-in_err-funcs : goal.returns-in_err-funcs
returns-in_err-funcs c =
    let none = rw c.types.ensures at (c.in_err-funcs.ensures 0) in
    rw c.from_residual-in_err-funcs.ensures (λ f. none f.1.1.0)

pub returns-in_err-tables : goal.returns-in_err-tables
returns-in_err-tables c =
    let none = rw c.as_slice-2.ensures at (c.in_err-tables.ensures 0) in
    rw c.from_residual-in_err-tables.ensures (λ f. none f.1.1.1.0)

pub returns-in_err-mems : goal.returns-in_err-mems
returns-in_err-mems c =
    let none = rw c.as_slice-3.ensures at (c.in_err-mems.ensures 0) in
    rw c.from_residual-in_err-mems.ensures (λ f. none f.1.1.1.1.0)

pub returns-in_err-globals : goal.returns-in_err-globals
returns-in_err-globals c =
    let none = rw c.as_slice-4.ensures at (c.in_err-globals.ensures 0) in
    rw c.from_residual-in_err-globals.ensures (λ f. none f.1.1.1.1.1.0)

pub returns-in_err-exports : goal.returns-in_err-exports
returns-in_err-exports c =
    let none = c.in_err-exports.ensures 0 in rw c.from_residual-in_err-exports.ensures (λ f. none f.1.1.1.1.1.1.0)

pub returns-in_err-start : goal.returns-in_err-start
returns-in_err-start c =
    let none = c.in_err-start.ensures 0 in rw c.from_residual-in_err-start.ensures (λ f. none f.1.1.1.1.1.1.1.0)

pub returns-in_err-elems : goal.returns-in_err-elems
returns-in_err-elems c =
    let none = rw c.as_slice-5.ensures at (c.in_err-elems.ensures 0) in
    rw c.from_residual-in_err-elems.ensures (λ f. none f.1.1.1.1.1.1.1.1.0)

pub returns-in_err-codes : goal.returns-in_err-codes
returns-in_err-codes c =
    let none = rw c.codes.ensures at (c.in_err-codes.ensures 0) in
    rw c.from_residual-in_err-codes.ensures (λ f. none f.1.1.1.1.1.1.1.1.1.0)

pub returns-in_err-datas : goal.returns-in_err-datas
returns-in_err-datas c =
    let none = rw c.as_slice-6.ensures at (c.in_err-datas.ensures 0) in
    rw c.from_residual-in_err-datas.ensures (λ f. none f.1.1.1.1.1.1.1.1.1.1.0)

pub overflow_add-declared : goal.overflow_add-declared
overflow_add-declared c = omega (arith, c.in_ok-types.ensures 0, c.in_ok-imports.ensures 0)

pub overflow_add-declared-2 : goal.overflow_add-declared-2
overflow_add-declared-2 c = omega (arith, c.in_ok-types.ensures 0, c.in_ok-imports.ensures 0, c.in_ok-funcs.ensures 0)

pub overflow_add-declared-3 : goal.overflow_add-declared-3
overflow_add-declared-3 c = omega (
  arith,
  c.in_ok-types.ensures 0,
  c.in_ok-imports.ensures 0,
  c.in_ok-funcs.ensures 0,
  c.in_ok-tables.ensures 0,
)

pub overflow_add-declared-4 : goal.overflow_add-declared-4
overflow_add-declared-4 c = omega (
  arith,
  c.in_ok-types.ensures 0,
  c.in_ok-imports.ensures 0,
  c.in_ok-funcs.ensures 0,
  c.in_ok-tables.ensures 0,
  c.in_ok-mems.ensures 0,
)

pub overflow_add-declared-5 : goal.overflow_add-declared-5
overflow_add-declared-5 c = omega (
  arith,
  c.in_ok-types.ensures 0,
  c.in_ok-imports.ensures 0,
  c.in_ok-funcs.ensures 0,
  c.in_ok-tables.ensures 0,
  c.in_ok-mems.ensures 0,
  c.in_ok-globals.ensures 0,
)

pub overflow_add-result : goal.overflow_add-result
overflow_add-result c = omega (
  arith,
  c.in_ok-types.ensures 0,
  c.in_ok-imports.ensures 0,
  c.in_ok-funcs.ensures 0,
  c.in_ok-tables.ensures 0,
  c.in_ok-mems.ensures 0,
  c.in_ok-globals.ensures 0,
  c.in_ok-exports.ensures 0,
)

pub overflow_add-result-2 : goal.overflow_add-result-2
overflow_add-result-2 c = omega (
  arith,
  c.in_ok-types.ensures 0,
  c.in_ok-imports.ensures 0,
  c.in_ok-funcs.ensures 0,
  c.in_ok-tables.ensures 0,
  c.in_ok-mems.ensures 0,
  c.in_ok-globals.ensures 0,
  c.in_ok-exports.ensures 0,
  c.in_ok-start.ensures 0,
)

pub overflow_add-result-3 : goal.overflow_add-result-3
overflow_add-result-3 c = omega (
  arith,
  c.in_ok-types.ensures 0,
  c.in_ok-imports.ensures 0,
  c.in_ok-funcs.ensures 0,
  c.in_ok-tables.ensures 0,
  c.in_ok-mems.ensures 0,
  c.in_ok-globals.ensures 0,
  c.in_ok-exports.ensures 0,
  c.in_ok-start.ensures 0,
  c.in_ok-elems.ensures 0,
)

pub overflow_add-result-4 : goal.overflow_add-result-4
overflow_add-result-4 c = omega (
  arith,
  c.in_ok-types.ensures 0,
  c.in_ok-imports.ensures 0,
  c.in_ok-funcs.ensures 0,
  c.in_ok-tables.ensures 0,
  c.in_ok-mems.ensures 0,
  c.in_ok-globals.ensures 0,
  c.in_ok-exports.ensures 0,
  c.in_ok-start.ensures 0,
  c.in_ok-elems.ensures 0,
  c.in_ok-codes.ensures 0,
)

pub overflow_add-result-5 : goal.overflow_add-result-5
overflow_add-result-5 c = omega (
  arith,
  c.in_ok-types.ensures 0,
  c.in_ok-imports.ensures 0,
  c.in_ok-funcs.ensures 0,
  c.in_ok-tables.ensures 0,
  c.in_ok-mems.ensures 0,
  c.in_ok-globals.ensures 0,
  c.in_ok-exports.ensures 0,
  c.in_ok-start.ensures 0,
  c.in_ok-elems.ensures 0,
  c.in_ok-codes.ensures 0,
  c.in_ok-datas.ensures 0,
)

pub returns : goal.returns
returns c =
    let p = parts_of c.args.m.now in
    let h1 = rw c.as_slice.ensures at (c.in_ok-types.ensures (section_id kinds.Type)) in
    let h2 = c.in_ok-imports.ensures (section_id kinds.Import) in
    let h3 = rw c.types.ensures at (c.in_ok-funcs.ensures (section_id kinds.Function)) in
    let h4 = rw c.as_slice-2.ensures at (c.in_ok-tables.ensures (section_id kinds.Table)) in
    let h5 = rw c.as_slice-3.ensures at (c.in_ok-mems.ensures (section_id kinds.Memory)) in
    let h6 = rw c.as_slice-4.ensures at (c.in_ok-globals.ensures (section_id kinds.Global)) in
    let h7 = c.in_ok-exports.ensures (section_id kinds.Export) in
    let h8 = c.in_ok-start.ensures (section_id kinds.Start) in
    let h9 = rw c.as_slice-5.ensures at (c.in_ok-elems.ensures (section_id kinds.Element)) in
    let h10 = rw c.codes.ensures at (c.in_ok-codes.ensures (section_id kinds.Code)) in
    let h11 = rw c.as_slice-6.ensures at (c.in_ok-datas.ensures (section_id kinds.Data)) in
    let all =
    held-counted p kinds.Type 10 (drop 1 in_order) c.in_ok-types.types _ h1 (
    held-counted p kinds.Import 9 (drop 2 in_order) c.in_ok-imports.imports _ h2 (
    held-counted p kinds.Function 8 (drop 3 in_order) c.in_ok-funcs.funcs _ h3 (
    held-counted p kinds.Table 7 (drop 4 in_order) c.in_ok-tables.tables _ h4 (
    held-counted p kinds.Memory 6 (drop 5 in_order) c.in_ok-mems.mems _ h5 (
    held-counted p kinds.Global 5 (drop 6 in_order) c.in_ok-globals.globals _ h6 (
    held-counted p kinds.Export 4 (drop 7 in_order) c.in_ok-exports.exports _ h7 (
    held-counted p kinds.Start 3 (drop 8 in_order) c.in_ok-start.start _ h8 (
    held-counted p kinds.Element 2 (drop 9 in_order) c.in_ok-elems.elems _ h9 (
    held-counted p kinds.Code 1 (drop 10 in_order) c.in_ok-codes.codes _ h10 (
    held-counted p kinds.Data 0 (drop 11 in_order) c.in_ok-datas.datas _ h11 (
    none-counted p))))))))))) in
    (all.0, omega (arith, all.1), omega (arith, all.2))
