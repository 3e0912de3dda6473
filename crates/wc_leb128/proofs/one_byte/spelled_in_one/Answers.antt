use Rattle.wc_leb128.proofs.Reading.OneByte.{unsigned_alone, signed_alone}
use Rattle.wc_leb128.proofs.one_byte.spelled_in_one.Goals as goal

pub returns-clause-unsigned : goal.returns-clause-unsigned
returns-clause-unsigned c = unsigned_alone

pub returns-clause-signed : goal.returns-clause-signed
returns-clause-signed c = signed_alone
