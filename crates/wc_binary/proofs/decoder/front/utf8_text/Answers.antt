use Rattle.std.proofs.lemmas.Str.{IsUtf8-from_ascii}
use Rattle.wc_binary.proofs.decoder.front.utf8_text.Goals as goal

pub from_utf8_unchecked-requires : goal.from_utf8_unchecked-requires
from_utf8_unchecked-requires c = IsUtf8-from_ascii c.args.bytes.now c.if-is_ascii.ensures.cases
