-- Which part each open one is in.
use Rattle.wc_body.specs.declared.builder.Part.{Part}
use Rattle.wc_body.specs.declared.builder.Part.TheVariants.{Other, Then}
use Rattle.wc_body.specs.declared.entry.Kind.{Kind}
use Rattle.wc_body.specs.declared.entry.Kind.TheVariants.{Block, Loop, If}
use Rattle.wc_body.specs.Standard.Draft.{Frame, in_region, in_then, in_else}

-- the part in which one of this kind begins
abbrev pub part_of : Kind → Part
part_of Block = Other
part_of Loop = Other
part_of If = Then

-- the part in which an open one is
abbrev pub part_in : {P H : Type 0} → Frame P H → Part
part_in (in_region before r h) = Other
part_in (in_then before h) = Then
part_in (in_else before h first) = Other
