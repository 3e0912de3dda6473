-- How a fault of decoding, checking or encoding is told.
use Rattle.wc_binary.specs.declared.fault.BinFault.{BinFault}
use Rattle.wc_binary.specs.declared.fault.BinFault.TheVariants.{Bad, Read as Unread, Memory as NoMemoryToDecode}
use Rattle.wc_binary.specs.declared.fault.EncFault.{EncFault}
use Rattle.wc_binary.specs.declared.fault.EncFault.TheVariants.{Oversize as TooLarge, Memory as NoMemoryToEncode}
use Rattle.wc_check.specs.declared.fault.CheckFault.{CheckFault}
use Rattle.wc_check.specs.declared.fault.CheckFault.TheVariants.{Broken, Memory as NoMemoryToCheck}
use Rattle.wc_read_text.specs.declared.fault.TextFault.{TextFault}
use Rattle.wc_read_text.specs.declared.fault.TextFault.TheVariants as text
use Rattle.wc_canon.specs.declared.fault.Refusal.{Refusal}
use Rattle.wc_canon.specs.declared.fault.Refusal.TheVariants.{Binary, Lex, Syntax, Names, Check, Oversize}
use Rattle.wc_canon.specs.declared.fault.Refusal.TheVariants.{Memory as NoMemory}
use Rattle.wc_canon.specs.declared.fault.RunFault.{RunFault}
use Rattle.wc_canon.specs.declared.fault.RunFault.TheVariants.{Refused, Read, Memory}

-- the refusal of a text that denotes no module
abbrev pub reading_refusal : TextFault → Refusal
reading_refusal (text.Lex at why) = Lex at why
reading_refusal (text.Syntax token at why) = Syntax token at why
reading_refusal (text.Names token at why) = Names token at why
reading_refusal text.Memory = NoMemory

-- the refusal of a module that the check didn't pass
abbrev pub checking_refusal : CheckFault → Refusal
checking_refusal (Broken item why) = Check item why
checking_refusal NoMemoryToCheck = NoMemory

-- the refusal of a module that wasn't encoded
abbrev pub encoding_refusal : EncFault → Refusal
encoding_refusal TooLarge = Oversize
encoding_refusal NoMemoryToEncode = NoMemory

-- the fault of a run whose input is refused
abbrev pub refusing_fault : Refusal → RunFault
refusing_fault NoMemory = Memory
refusing_fault f = Refused f

-- the fault of a run whose input wasn't decoded
abbrev pub decoding_fault : BinFault → RunFault
decoding_fault (Bad at why) = Refused (Binary at why)
decoding_fault (Unread at) = Read at
decoding_fault NoMemoryToDecode = Memory
