-- A refusal of the grammar as a fault of the text.
use Rattle.wc_syntax.specs.declared.refusal.Refusal.{Refusal}
use Rattle.wc_syntax.specs.declared.refusal.Refusal.TheVariants as refusal
use Rattle.wc_parse.specs.declared.fault.SynFault.{SynFault}
use Rattle.wc_parse.specs.declared.fault.SynFault.TheVariants.{Bad, Memory}

-- the same token for the same reason, or memory that was refused
abbrev pub of_refusal : Refusal → SynFault
of_refusal (refusal.Bad token why) = Bad token why
of_refusal refusal.Memory = Memory
