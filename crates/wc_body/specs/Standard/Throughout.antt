-- What holds of each instruction and each head, however deep.
use Rattle.wc_body.specs.Standard.Nested.{Code, empty, op, region, choice}

module _ {P H : Type 0} (F : P → Type 0) (G : H → Type 0) where
  -- F holds of each instruction, and G of each head
  abbrev pub Throughout : Code P H → Type 0
  Throughout empty = Unit {0}
  Throughout (op p next) = F p × Throughout next
  Throughout (region r h inside next) = G h × Throughout inside × Throughout next
  Throughout (choice h first second next) = G h × Throughout first × Throughout second × Throughout next
