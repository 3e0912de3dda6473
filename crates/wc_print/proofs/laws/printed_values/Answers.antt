use Rattle.wc_tokens.specs.Standard.Numbers.{decimal as is_decimal}
use Rattle.wc_print.proofs.Reading.ReadNumbers.{Digits-decimal, Literal-signed}
use Rattle.wc_print.proofs.Reading.ReadStrings.{IsString-escaped}
use Rattle.wc_print.proofs.laws.printed_values.Goals as goal

pub returns-clause-natural : goal.returns-clause-natural
returns-clause-natural c = λ n lt. is_decimal (Digits-decimal n lt)

pub returns-clause-signed : goal.returns-clause-signed
returns-clause-signed c = Literal-signed

pub returns-clause-string : goal.returns-clause-string
returns-clause-string c = IsString-escaped
