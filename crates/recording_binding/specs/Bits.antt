-- The bits of a variable whose name some nets have.
use Rattle.std.specs.Prelude.{◌≡◌, ◌<◌, ℕ, ◌-◌, ◌==◌, Bool, true, false, ◌&&◌, List, [], ◌∷◌, Option, None, Some}
use Rattle.std.specs.Prelude.{length, take, slice_index, if◌then◌else◌}
use Rattle.design_circuit.specs.declared.design.Design.{Design}
use Rattle.recording_binding.specs.Naming.{index_of}
use Rattle.recording_binding.specs.declared.bits.Matched.{Matched}
use Rattle.recording_binding.specs.declared.bits.Matched.TheVariants.{Nothing, Differs, Bits}

abbrev pub is_index : ℕ → Option ℕ → Bool
is_index index None = false
is_index index (Some own) = own == index

abbrev pub has_index : Design → ℕ → ℕ → Bool
has_index design index net = is_index index (index_of design net)

-- the nets from the one of this index on
abbrev pub from_index : Design → ℕ → List ℕ → List ℕ
from_index design index [] = []
from_index design index (net ∷ nets) = if has_index design index net then net ∷ nets else from_index design index nets

-- as many nets as that, the last of which has this index
abbrev pub ends_at : Design → ℕ → ℕ → List ℕ → Bool
ends_at design index width nets = (length nets == width) && has_index design index (slice_index nets (width - 1))

-- these bits, where the variable has as many and its range fits
abbrev pub bits_if : Bool → List ℕ → Matched
bits_if true bits = Bits bits
bits_if false bits = Differs

-- A variable without a range has all nets of its name as its bits, as many as it is wide.
abbrev pub whole_of : List ℕ → ℕ → Matched
whole_of nets width = bits_if (length nets == width) nets

-- A variable with the range [m:l] has those from the net of index m to the net of index l, as many as it is wide.
abbrev pub part_of : Design → List ℕ → ℕ → ℕ → ℕ → Matched
part_of design nets m l width =
    bits_if (ends_at design l width (take width (from_index design m nets))) (take width (from_index design m nets))

abbrev pub bits_of : Design → List ℕ → Option (ℕ × ℕ) → ℕ → Matched
bits_of design nets None width = whole_of nets width
bits_of design nets (Some range) width = part_of design nets range.0 range.1 width

-- A name that no net has matches nothing.
abbrev pub matched_by : Design → List ℕ → Option (ℕ × ℕ) → ℕ → Matched
matched_by design [] range width = Nothing
matched_by design (net ∷ nets) range width = bits_of design (net ∷ nets) range width

-- No two of these nets have one index.
pub record AreApart (design : Design) (nets : List ℕ) : Type 0 where
  pub apart : (i j index : ℕ) → i < length nets → j < length nets → has_index design index (slice_index nets i) ≡ true
      → has_index design index (slice_index nets j) ≡ true → i ≡ j
