-- Values in memory of their own.
use Rattle.std.specs.Prelude.{Option, None, Some, List, [], Box}
use Rattle.std.specs.declared.alloc.Global.{Global}

-- the value that stands there, if any
abbrev pub value_in : {T : Type 0} → Option (Box T Global) → Option T
value_in None = None
value_in (Some place) = Some place.value

-- the items of the list that stands there, if any
abbrev pub items_in : {T : Type 0} → Option (List T) → List T
items_in None = []
items_in (Some items) = items
