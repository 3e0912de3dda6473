use Rattle.std.proofs.Common.{rules, ◌≡◌, List, ℕ, ℤ}
use Rattle.wc_leb128.specs.Standard.Integers.{S}
use Rattle.wc_leb128.specs.Standard.Shortest.{HoldsSigned, IsShortestSpelling}
use Rattle.wc_leb128.specs.Writing.Bytes.{signed_bytes}
use Rattle.wc_leb128.proofs.Writing.SignedShortest.{signed_bytes-shortest}
use Rattle.wc_leb128.proofs.shortest.shortest_s.Goals as goal

same_bytes : (bytes : List ℕ) (z : ℤ) → bytes ≡ signed_bytes z → IsShortestSpelling S HoldsSigned bytes z
same_bytes bytes z e = rw e (signed_bytes-shortest z)

pub returns-then-n-lt0-clause-shortest : goal.returns-then-n-lt0-clause-shortest
returns-then-n-lt0-clause-shortest c = same_bytes c.groups.result c.args.n (search rules)

pub returns-else-n-lt0-clause-shortest : goal.returns-else-n-lt0-clause-shortest
returns-else-n-lt0-clause-shortest c = same_bytes c.groups-else-n-lt0.result c.args.n (search rules)
