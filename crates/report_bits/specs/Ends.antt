-- The ends of the places of a step, one beside the other. No contract of a public call names these.
use Rattle.std.specs.Prelude.{◌≡◌, ℕ, ◌+◌, ◌-◌, ◌*◌, ◌<◌, ◌⊎◌, Bool, true, false, List, count_by, length}
use Rattle.std.specs.Prelude.{slice_index_or}
use Rattle.design_cell.specs.declared.value.Value.{Value}
use Rattle.design_cell.specs.declared.value.Value.TheVariants.{Zero, One, X, Z}
use Rattle.design_circuit.specs.Waveform.{written_at}
use Rattle.design_circuit.specs.declared.waveform.Mark.{Mark}
use Rattle.design_circuit.specs.declared.waveform.Mark.TheVariants as mark
use Rattle.report_bits.specs.Counts.{one_if}
use Rattle.report_bits.specs.declared.counts.Counts.{Counts}
use Rattle.report_bits.specs.declared.ends.End.{End}
use Rattle.report_bits.specs.declared.ends.End.TheVariants.{Known, Repaired, Unknown, Undecided}
use Rattle.wave_proved.specs.Contents.{Contents, shown_in}

-- The end of a place with this mark, at which the history shows this value.
abbrev pub certain_end : Value → End
certain_end Zero = Known
certain_end One = Known
certain_end X = Repaired
certain_end Z = Repaired

abbrev pub end_of : Mark → Value → End
end_of mark.Certain shown = certain_end shown
end_of mark.Unknown shown = Unknown
end_of mark.Undecided shown = Undecided

abbrev pub is_known_end : End → Bool
is_known_end Known = true
is_known_end Repaired = false
is_known_end Unknown = false
is_known_end Undecided = false

abbrev pub is_repaired_end : End → Bool
is_repaired_end Known = false
is_repaired_end Repaired = true
is_repaired_end Unknown = false
is_repaired_end Undecided = false

abbrev pub is_unknown_end : End → Bool
is_unknown_end Known = false
is_unknown_end Repaired = false
is_unknown_end Unknown = true
is_unknown_end Undecided = false

abbrev pub is_undecided_end : End → Bool
is_undecided_end Known = false
is_undecided_end Repaired = false
is_undecided_end Unknown = false
is_undecided_end Undecided = true

-- How many of some ends are which.
abbrev pub counts_of_ends : List End → Counts
counts_of_ends ends = record {
  known = count_by is_known_end ends;
  repaired = count_by is_repaired_end ends;
  unknown = count_by is_unknown_end ends;
  undecided = count_by is_undecided_end ends;
}

-- The counts with an end more.
abbrev pub with_end : Counts → End → Counts
with_end counts end = record {
  known = counts.known + one_if (is_known_end end);
  repaired = counts.repaired + one_if (is_repaired_end end);
  unknown = counts.unknown + one_if (is_unknown_end end);
  undecided = counts.undecided + one_if (is_undecided_end end);
}

-- The counts have one of an end.
abbrev pub HasEnd : Counts → End → Type 0
HasEnd counts Known = 0 < counts.known
HasEnd counts Repaired = 0 < counts.repaired
HasEnd counts Unknown = 0 < counts.unknown
HasEnd counts Undecided = 0 < counts.undecided

-- The end of the place of a number.
abbrev pub end_at : Contents → ℕ → End
end_at c number = end_of (written_at c.written number).mark (shown_in c number)

-- The end at a position of a step, and what is listed for it.
abbrev pub end_in : Contents → ℕ → ℕ → End
end_in c step position = end_at c (step * length c.design.nets + position)

abbrev pub nth_end : List End → ℕ → End
nth_end ends position = slice_index_or ends position Unknown

-- The ends at the positions of a step.
pub record AreEndsAt (c : Contents) (step : ℕ) (ends : List End) : Type 0 where
  pub long : length ends ≡ length c.design.nets
  pub each : (position : ℕ) → position < length c.design.nets → nth_end ends position ≡ end_in c step position

-- Each end is as it was, or that of a step.
pub record AreBrought (c : Contents) (step : ℕ) (old new : List End) : Type 0 where
  pub long : length new ≡ length old
  pub each : (position : ℕ) → position < length c.design.nets
      → (nth_end new position ≡ nth_end old position) ⊎ (nth_end new position ≡ end_in c step position)

-- Each end is that of a step, or the history shows at its place what it shows one step before.
abbrev pub IsShownIn : Contents → ℕ → List End → ℕ → Type 0
IsShownIn c step ends position = (nth_end ends position ≡ end_in c step position)
    ⊎ (shown_in c (step * length c.design.nets + position) ≡ shown_in c ((step - 1) * length c.design.nets + position))

-- Each end is that of a step, or at its place stands what stands one step before.
abbrev pub IsWrittenIn : Contents → ℕ → List End → ℕ → Type 0
IsWrittenIn c step ends position = (nth_end ends position ≡ end_in c step position)
    ⊎ (written_at c.written (step * length c.design.nets + position)
    ≡ written_at c.written ((step - 1) * length c.design.nets + position))
