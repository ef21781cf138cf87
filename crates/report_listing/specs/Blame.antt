-- What is printed of the unknown bits: a source to blame for each, and how many bits each source is behind.
use Rattle.std.specs.Prelude.{◌≡◌, ℕ, List, ◌++◌, codes, decimal, length}
use Rattle.std.specs.List.{flat_map}
use Rattle.report_blame.specs.Blamed.{AreBlamed, unknown_bits}
use Rattle.report_blame.specs.Table.{IsBlameTable, Row}
use Rattle.report_blame.specs.declared.bits.Blamed.{Blamed}
use Rattle.design_circuit.specs.Filling.{IsPlace}
use Rattle.recording_binding.specs.declared.binding.Bound.{Bound}
use Rattle.report_bits.specs.Counts.{counts_of}
use Rattle.base_lists.specs.Text.{line}
use Rattle.wave_proved.specs.Contents.{Contents, job}
use Rattle.report_listing.specs.Places.{bit_text, listed_text, place_text}

-- `blame bits B sources S undecided D`, D counting the undecided places of the wave
abbrev pub head_line : Contents → ℕ → ℕ → List ℕ
head_line c bits sources =
    line (codes "blame bits " ++ decimal bits ++ codes " sources " ++ decimal sources ++ codes " undecided "
    ++ decimal (counts_of c).undecided)

-- `#T NAME by NAME #T round J with G`
abbrev pub blamed_line : Contents → Blamed → List ℕ
blamed_line c bit =
    line (bit_text c bit.place ++ codes " by " ++ place_text c bit.source ++ codes " with"
    ++ flat_map listed_text bit.others)

-- `source NAME #T round J bits K`
abbrev pub source_line : Contents → Row → List ℕ
source_line c row = line (codes "source " ++ place_text c row.0 ++ codes " bits " ++ decimal row.1)

unfoldable pub blame_text : Contents → List Blamed → List Row → List ℕ
blame_text c bits table =
    head_line c (length bits) (length table) ++ flat_map (blamed_line c) bits ++ flat_map (source_line c) table

-- The places of a bit and of its source, and those of the sources, are places of the job.
pub record HasPlaces (c : Contents) (bit : Blamed) : Type 0 where
  pub place : IsPlace (job c) bit.place
  pub source : IsPlace (job c) bit.source

abbrev pub HasSource : Contents → Row → Type 0
HasSource c row = IsPlace (job c) row.0

-- The text is of these bits and this table: each bound bit that is unknown at the last round of a moment is told once,
-- in the order of a report, with a source and a filling to blame for it, and nothing else is told. The table has each
-- source once, with the number of its bits, and these add up to the number of the bits.
pub record TellsBlame (c : Contents) (bound : List Bound) (text : List ℕ) : Type 0 where
  pub bits : List Blamed
  pub table : List Row
  pub blamed : AreBlamed c (unknown_bits c bound) bits
  pub sources : IsBlameTable (job c) bits table
  pub text_is : text ≡ blame_text c bits table
