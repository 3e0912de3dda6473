-- Type uses, token by token (Core 1.0, 6.4.3 and 6.6.3).
use Rattle.std.specs.Prelude.{ℕ, List, [], ◌∷◌, ◌++◌, Option, Some, None}
use Rattle.wc_ops.specs.declared.val_type.ValType.{ValType as ValueType}
use Rattle.wc_syntax.specs.declared.role.Role.{Role}
use Rattle.wc_syntax.specs.declared.role.Role.TheVariants as role
use Rattle.wc_symbols.specs.declared.symbol.Value.{Value}
use Rattle.wc_symbols.specs.declared.symbol.Value.TheVariants.{ValType}
use Rattle.wc_surface.specs.declared.id.Index.{Index}
use Rattle.wc_surface.specs.declared.type_use.User.{User}
use Rattle.wc_surface.specs.declared.type_use.ParamName.{ParamName}
use Rattle.wc_surface.specs.declared.type_use.TypeUse.{TypeUse}
use Rattle.wc_surface.specs.Standard.Identifiers.{Identifier}
use Rattle.wc_surface.specs.Standard.Keys.{func_type}
use Rattle.wc_parse_code.specs.declared.use_draft.UseDraft.{UseDraft}
use Rattle.wc_parse_code.specs.declared.word.Word.{Word}
use Rattle.wc_parse_code.specs.Drafting.Words.{place_behind, identifier_of, index_of}

-- the use of this user at this token, of which nothing is written yet
abbrev pub started_use : User → ℕ → UseDraft
started_use user token = record {
  user = user;
  token = token;
  index = None;
  params = [];
  pending = None;
  names = [];
  results = [];
}

-- its word has this number
abbrev pub begun_use : ℕ → UseDraft → UseDraft
begun_use token u = record u { token = token }

-- the name of a parameter with an identifier, behind these parameters
abbrev pub name_behind : Option Identifier → List ValueType → List ParamName
name_behind None params = []
name_behind (Some id) params = record { place = place_behind params; id = id } ∷ []

-- one more parameter, which has the identifier before it (6.4.3)
abbrev pub with_param : UseDraft → Value → UseDraft
with_param u (ValType t) = record u {
  params = u.params ++ t ∷ [];
  pending = None;
  names = u.names ++ name_behind u.pending u.params;
}
with_param u _ = u

-- one more result (6.4.3)
abbrev pub with_result : UseDraft → Value → UseDraft
with_result u (ValType t) = record u { results = u.results ++ t ∷ [] }
with_result u _ = u

-- one more kept token; one that is no part of a type use adds nothing (6.6.3)
abbrev pub take_use : UseDraft → Role → Word → UseDraft
take_use u role.TypeIndex w = record u { index = Some (index_of w) }
take_use u role.ParamId w = record u { pending = Some (identifier_of w) }
take_use u role.ParamType w = with_param u w.symbol.value
take_use u role.ResultType w = with_result u w.symbol.value
take_use u _ w = u

-- the type use that was said
abbrev pub use_of : UseDraft → TypeUse
use_of u = record {
  user = u.user;
  token = u.token;
  index = u.index;
  signature = func_type u.params u.results;
  names = u.names;
}

-- the type of a block that needs no type use: no index, no parameters, and no more than one result
-- (Core 2.0, 6.5.2)
abbrev pub short_by : Option Index → List ValueType → List ValueType → Option (Option ValueType)
short_by None [] [] = Some None
short_by None [] (t ∷ []) = Some (Some t)
short_by _ _ _ = None

-- the same of what is written; none where it has to be a type use
abbrev pub short_type : UseDraft → Option (Option ValueType)
short_type u = short_by u.index u.params u.results
