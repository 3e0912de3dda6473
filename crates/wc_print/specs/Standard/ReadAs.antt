-- How a printed number is read (Core 1.0, 6.3.1).
use Rattle.std.specs.Prelude.{ℤ, pos, negsuc, suc}
use Rattle.wc_tokens.specs.Standard.Numbers.{Signed, Unsigned, Minus}

-- without a sign, or behind a minus sign
abbrev pub read_as : ℤ → Signed
read_as (pos n) = Unsigned n
read_as (negsuc n) = Minus (suc n)
