-- The grammar of types (Core 1.0, 6.4), of indices and of type uses (6.6.1 and 6.6.3).
use Rattle.wc_syntax.specs.declared.kind.Kind.TheVariants.{Open, Close, Id, Natural32, FuncWord, TypeWord, ParamWord}
use Rattle.wc_syntax.specs.declared.kind.Kind.TheVariants.{ResultWord, LocalWord, MutWord, FuncrefWord, ValType}
use Rattle.wc_syntax.specs.declared.role.Role.{Role}
use Rattle.wc_syntax.specs.declared.role.Role.TheVariants as role
use Rattle.wc_syntax.specs.Standard.Phrases.{Phrase, Keep, ◌·◌, ◌∣◌, Many, The, token, Maybe, param, result}

-- "("
abbrev pub lp : Phrase
lp = token Open

-- ")"
abbrev pub rp : Phrase
rp = token Close

-- index = u32 | id  (6.6.1)
abbrev pub index : Role → Phrase
index r = Keep r Natural32 ∣ Keep r Id

-- valtype = "i32" | "i64"  (6.4.1)
abbrev pub valtype : Role → Phrase
valtype r = Keep r ValType

-- param = "(" "param" id valtype ")" | "(" "param" valtype* ")"  (6.4.3)
abbrev pub param_body : Phrase
param_body = lp · token ParamWord · Keep role.ParamId Id · valtype role.ParamType · rp
    ∣ lp · token ParamWord · Many (valtype role.ParamType) · rp

-- result = "(" "result" valtype* ")"  (6.4.3)
abbrev pub result_body : Phrase
result_body = lp · token ResultWord · Many (valtype role.ResultType) · rp

-- functype = "(" "func" param* result* ")"  (6.4.3)
abbrev pub functype : Phrase
functype = lp · token FuncWord · Many (The param) · Many (The result) · rp

-- local = "(" "local" id valtype ")" | "(" "local" valtype* ")"  (6.6.5)
abbrev pub local_body : Phrase
local_body = lp · token LocalWord · Keep role.LocalId Id · valtype role.LocalType · rp
    ∣ lp · token LocalWord · Many (valtype role.LocalType) · rp

-- typeuse = ( "(" "type" index ")" )? param* result*  (6.6.3)
abbrev pub typeuse_body : Phrase
typeuse_body = Maybe (lp · token TypeWord · index role.TypeIndex · rp) · Many (The param) · Many (The result)

-- limits = u32 u32?  (6.4.4)
abbrev pub limits : Phrase
limits = Keep role.LimitsMin Natural32 · Maybe (Keep role.LimitsMax Natural32)

-- tabletype = limits "funcref"  (6.4.6)
abbrev pub tabletype : Phrase
tabletype = limits · token FuncrefWord

-- globaltype = valtype | "(" "mut" valtype ")"  (6.4.7)
abbrev pub globaltype : Phrase
globaltype = valtype role.GlobalType ∣ lp · Keep role.Mutable MutWord · valtype role.GlobalType · rp
