-- The canonical bytes of globals, segments and codes.
use Rattle.std.proofs.Common.{◌≡◌, ◌++◌, length, refl, sym, ap}
use Rattle.wc_leb128.specs.Writing.Bytes.{unsigned_bytes}
use Rattle.wc_ast.specs.declared.func.Global.{Global}
use Rattle.wc_ast.specs.declared.segment.Elem.{Elem}
use Rattle.wc_ast.specs.declared.segment.Data.{Data}
use Rattle.wc_ast.specs.declared.codes.FuncCode.{FuncCode}
use Rattle.wc_binary.specs.declared.fault.BinWhy.TheVariants.{BodySize}
use Rattle.wc_binary.specs.Standard.Phrase.{gives, ◌>>=◌}
use Rattle.wc_binary.specs.Standard.Values.{any_byte, u32, vector}
use Rattle.wc_binary.specs.Standard.Types.{global_type}
use Rattle.wc_binary.specs.Standard.Instructions.{expr}
use Rattle.wc_binary.specs.Standard.Locals.{locals}
use Rattle.wc_binary.specs.Standard.Contents.{global, elem_segment, data_segment, func, code}
use Rattle.wc_body.specs.Standard.ValueBytes.{vector_bytes, Fits32, FitsVector}
use Rattle.wc_binary.specs.Writing.Values.{global_type_bytes, sized_bytes, Anything}
use Rattle.wc_body.specs.Standard.InstructionBytes.{expr_bytes, FitsExpr}
use Rattle.wc_binary.specs.Writing.Locals.{locals_bytes, FitsLocals}
use Rattle.wc_binary.specs.Writing.Contents.{global_bytes, elem_bytes, data_bytes, func_bytes, code_bytes, FitsGlobal}
use Rattle.wc_binary.specs.Writing.Contents.{FitsElem, FitsBytes, FitsData, FitsFunc, FitsCode}
use Rattle.wc_binary.proofs.spelling.Judging.{HasBytes}
use Rattle.wc_binary.proofs.spelling.Phrases.{of, writes-as, u32-writes, then-writes, seen-writes, vector-writes}
use Rattle.wc_binary.proofs.spelling.Phrases.{sized-writes}
use Rattle.wc_binary.proofs.spelling.Types.{global_type-writes}
use Rattle.wc_binary.proofs.spelling.whole.Externals.{raw-written, raw-told}
use Rattle.wc_binary.proofs.spelling.code.Expressions.{expr-writes}
use Rattle.wc_binary.proofs.spelling.code.Locals.{locals-writes}

abbrev global_fits : Global → Type 0
global_fits g = Unit {0} × (FitsExpr g.init × (g ≡ record { ty = g.ty; init = g.init }))

pub global-writes : HasBytes (of global) FitsGlobal global_bytes
unfolding global
global-writes =
    writes-as (of global) global_fits FitsGlobal global_bytes global_bytes
    (then-writes global_type (λ t. expr >>= λ e. gives (record { ty = t; init = e }))
    Anything global_type_bytes
    (λ t g. FitsExpr g.init × (g ≡ record { ty = t; init = g.init }))
    (λ t g. expr_bytes g.init)
    (λ g. g.ty)
    global_type-writes
    (λ t. seen-writes expr FitsExpr expr_bytes expr-writes (λ e. record { ty = t; init = e }) (λ g. g.init) (λ e. refl))
    (λ s t b v h. sym (ap (λ (x : Global). x.ty) h.5.1)))
    (λ g h. h.1.0) (λ g h. (tt, (h, refl))) (λ g. refl)

-- ---- segments

indices-writes : HasBytes (of (vector u32)) (FitsVector Fits32) (vector_bytes unsigned_bytes)
indices-writes = vector-writes u32 Fits32 unsigned_bytes u32-writes

bytes-writes : HasBytes (of (vector any_byte)) FitsBytes sized_bytes
unfolding vector
bytes-writes = record {
  written = λ v h. (unsigned_bytes (length v), v, length v, refl, u32-writes.written (length v) h.0, raw-written v h.1);
  told = λ s V j b v h.
      let n = u32-writes.told s V j h.0 h.2 h.4 in
      let r = raw-told s h.2 h.1 v h.5 in
      let long = r.0 in
      let split = h.3 in
      let whole = j.join h.0 h.1 (unsigned_bytes h.2) v n.1 (j.equal h.1 v r.1) in
      ((rw long at n.0, r.2), rw split (rw long at whole));
}

abbrev elem_fits : Elem → Type 0
elem_fits e =
    Fits32 e.table ×
    (FitsExpr e.offset × (FitsVector Fits32 e.funcs
    × (e ≡ record { table = e.table; offset = e.offset; funcs = e.funcs })))

pub elem-writes : HasBytes (of elem_segment) FitsElem elem_bytes
unfolding elem_segment
elem-writes =
    writes-as (of elem_segment) elem_fits FitsElem elem_bytes elem_bytes
    (then-writes u32 (λ x. expr >>= λ o. vector u32 >>= λ fs. gives (record { table = x; offset = o; funcs = fs }))
    Fits32 unsigned_bytes
    (λ x e. FitsExpr e.offset × (FitsVector Fits32 e.funcs
    × (e ≡ record { table = x; offset = e.offset; funcs = e.funcs })))
    (λ x e. expr_bytes e.offset ++ vector_bytes unsigned_bytes e.funcs)
    (λ e. e.table)
    u32-writes
    (λ x. then-writes expr (λ o. vector u32 >>= λ fs. gives (record { table = x; offset = o; funcs = fs }))
    FitsExpr expr_bytes
    (λ o e. FitsVector Fits32 e.funcs × (e ≡ record { table = x; offset = o; funcs = e.funcs }))
    (λ o e. vector_bytes unsigned_bytes e.funcs)
    (λ e. e.offset)
    expr-writes
    (λ o. seen-writes (vector u32) (FitsVector Fits32) (vector_bytes unsigned_bytes) indices-writes
    (λ fs. record { table = x; offset = o; funcs = fs }) (λ e. e.funcs) (λ fs. refl))
    (λ s o b v h. sym (ap (λ (y : Elem). y.offset) h.5.1)))
    (λ s x b v h. sym (ap (λ (y : Elem). y.table) h.5.5.1)))
    (λ e h. (h.0, (h.1.0, h.1.1.0))) (λ e h. (h.0, (h.1.0, (h.1.1, refl)))) (λ e. refl)

abbrev data_fits : Data → Type 0
data_fits d =
    Fits32 d.memory ×
    (FitsExpr d.offset × (FitsBytes d.bytes × (d ≡ record { memory = d.memory; offset = d.offset; bytes = d.bytes })))

pub data-writes : HasBytes (of data_segment) FitsData data_bytes
unfolding data_segment
data-writes =
    writes-as (of data_segment) data_fits FitsData data_bytes data_bytes
    (then-writes u32 (λ x. expr >>= λ o. vector any_byte >>= λ bs.
    gives (record { memory = x; offset = o; bytes = bs }))
    Fits32 unsigned_bytes
    (λ x d. FitsExpr d.offset × (FitsBytes d.bytes × (d ≡ record { memory = x; offset = d.offset; bytes = d.bytes })))
    (λ x d. expr_bytes d.offset ++ sized_bytes d.bytes)
    (λ d. d.memory)
    u32-writes
    (λ x. then-writes expr (λ o. vector any_byte >>= λ bs. gives (record { memory = x; offset = o; bytes = bs }))
    FitsExpr expr_bytes
    (λ o d. FitsBytes d.bytes × (d ≡ record { memory = x; offset = o; bytes = d.bytes }))
    (λ o d. sized_bytes d.bytes)
    (λ d. d.offset)
    expr-writes
    (λ o. seen-writes (vector any_byte) FitsBytes sized_bytes bytes-writes (λ bs.
    record { memory = x; offset = o; bytes = bs }) (λ d. d.bytes) (λ bs. refl))
    (λ s o b v h. sym (ap (λ (y : Data). y.offset) h.5.1)))
    (λ s x b v h. sym (ap (λ (y : Data). y.memory) h.5.5.1)))
    (λ d h. (h.0, (h.1.0, h.1.1.0))) (λ d h. (h.0, (h.1.0, (h.1.1, refl)))) (λ d. refl)

-- ---- codes

abbrev func_fits : FuncCode → Type 0
func_fits f = FitsLocals f.locals × (FitsExpr f.body × (f ≡ record { locals = f.locals; body = f.body }))

func-writes : HasBytes (of func) FitsFunc func_bytes
unfolding func
func-writes =
    writes-as (of func) func_fits FitsFunc func_bytes func_bytes
    (then-writes locals (λ ls. expr >>= λ e. gives (record { locals = ls; body = e }))
    FitsLocals locals_bytes
    (λ ls f. FitsExpr f.body × (f ≡ record { locals = ls; body = f.body }))
    (λ ls f. expr_bytes f.body)
    (λ f. f.locals)
    locals-writes
    (λ ls. seen-writes expr FitsExpr expr_bytes expr-writes (λ e. record { locals = ls; body = e }) (λ f. f.body) (λ e.
    refl))
    (λ s ls b v h. sym (ap (λ (x : FuncCode). x.locals) h.5.1)))
    (λ f h. (h.0, h.1.0)) (λ f h. (h.0, (h.1, refl))) (λ f. refl)

pub code-writes : HasBytes (of code) FitsCode code_bytes
unfolding code
code-writes = sized-writes func FitsFunc func_bytes func-writes BodySize
