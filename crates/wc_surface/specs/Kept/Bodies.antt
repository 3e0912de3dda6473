-- Bodies as fields hold them.
use Rattle.std.specs.Prelude.{ℕ, List, []}
use Rattle.wc_body.specs.Standard.Nested.{Code}
use Rattle.wc_surface.specs.declared.instr.TextInstr.{TextInstr}
use Rattle.wc_surface.specs.declared.head.TextBody.{TextBody}
use Rattle.wc_surface.specs.declared.head.Head.{Head}
use Rattle.wc_surface.specs.Standard.Identifiers.{Identifier}
use Rattle.wc_surface.specs.declared.kept_body.BodyLists.{BodyLists}
use Rattle.wc_surface.specs.declared.kept_body.KeptLists.{KeptLists}
use Rattle.wc_surface.specs.declared.kept_body.KeptLists.TheVariants as kept

-- of the lists, heads and identifiers alone
abbrev pub heads_and_ids : List Head → List Identifier → BodyLists
heads_and_ids heads ids = record { heads = heads; uses = []; ids = ids; labels = [] }

-- the lists that are kept
abbrev pub lists_in : KeptLists → BodyLists
lists_in kept.Nothing = heads_and_ids [] []
lists_in (kept.Heads heads) = heads_and_ids heads []
lists_in (kept.Ids ids) = heads_and_ids [] ids
lists_in (kept.Several lists) = lists

-- the body of these instructions and lists
abbrev pub body_with : Code TextInstr ℕ → BodyLists → TextBody
body_with code lists = record
    { code = code; heads = lists.heads; uses = lists.uses; ids = lists.ids; labels = lists.labels }

-- the body of these instructions alone
abbrev pub plain_body : Code TextInstr ℕ → TextBody
plain_body code = body_with code (heads_and_ids [] [])
