-- The labels that stand in a row, or by their spellings (Core 1.0, 2.1.3 and 5.4.1).
use Rattle.std.specs.Prelude.{ℕ, ◌≡◌, ◌<◌, ◌^◌, List, length}
use Rattle.wc_body.specs.declared.labels.Items.{Items}
use Rattle.wc_body.specs.declared.labels.Items.TheVariants.{Listed, Spelled}
use Rattle.wc_body.specs.Reading.Fronts.{labels_front}

-- the labels, in order
abbrev pub labels_of : Items → List ℕ
labels_of (Listed items) = items.now
labels_of (Spelled count bytes) = labels_front count bytes.now

-- fewer than 2 ^ 32 stand there, and so many are spelled
abbrev pub AreLabels : Items → Type 0
AreLabels (Listed items) = length items.now < 2 ^ 32
AreLabels (Spelled count bytes) = length (labels_front count bytes.now) ≡ count
