-- What is printed of the bits that set starts make known, and of those that don't stay known.
use Rattle.std.specs.Prelude.{ℕ, ◌+◌, List, [], ◌∷◌, ◌++◌, codes, decimal, length}
use Rattle.std.specs.List.{flat_map}
use Rattle.design_cell.specs.Value.{bit_value, letter_of}
use Rattle.design_circuit.specs.Filling.{IsPlace}
use Rattle.report_fix.specs.Gained.{gained_items, lost_items}
use Rattle.report_fix.specs.declared.items.Item.{Item}
use Rattle.recording_binding.specs.declared.binding.Binding.{Binding}
use Rattle.report_bits.specs.Counts.{counts_of}
use Rattle.base_lists.specs.Text.{line}
use Rattle.wave_proved.specs.Contents.{Contents, job}
use Rattle.report_listing.specs.Places.{bit_text}

-- The undecided places of both waves.
abbrev pub undecided_of : Contents → Contents → ℕ
undecided_of before after = (counts_of before).undecided + (counts_of after).undecided

-- ` gained G lost L undecided D`
abbrev pub counts_text : ℕ → ℕ → ℕ → List ℕ
counts_text gained lost undecided =
    line (codes " gained " ++ decimal gained ++ codes " lost " ++ decimal lost ++ codes " undecided "
    ++ decimal undecided)

-- `WORD #T NAME V`
abbrev pub item_line : List ℕ → Contents → Item → List ℕ
item_line word c item =
    line (word ++ codes " " ++ bit_text c item.place ++ codes " " ++ letter_of (bit_value item.value) ∷ [])

-- `fix registers K gained G lost L undecided D`, then the lines of what is gained and of what is lost.
unfoldable pub items_text : ℕ → Contents → Contents → List Item → List Item → List ℕ
items_text registers before after gained lost =
    codes "fix registers " ++ decimal registers
    ++ counts_text (length gained) (length lost) (undecided_of before after)
    ++ flat_map (item_line (codes "gained") after) gained ++ flat_map (item_line (codes "lost") before) lost

-- Those of two waves, each in the order of a report.
abbrev pub fix_text : ℕ → Contents → Contents → Binding → List ℕ
fix_text registers before after binding =
    items_text registers before after (gained_items before after binding) (lost_items before after binding)

-- An item's place is one of the job.
abbrev pub IsThere : Contents → Item → Type 0
IsThere c item = IsPlace (job c) item.place
