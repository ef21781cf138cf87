-- How many places of a wave have which end.
use Rattle.std.specs.Prelude.{ℕ, ◌+◌, ◌*◌, Bool, true, false, ◌&&◌, not, length, count_by, if◌then◌else◌}
use Rattle.std.specs.List.{range_with_len}
use Rattle.design_cell.specs.declared.value.Value.{Value}
use Rattle.design_cell.specs.Value.{is_unknown}
use Rattle.design_circuit.specs.Waveform.{written_at}
use Rattle.design_circuit.specs.declared.waveform.Mark.{Mark}
use Rattle.design_circuit.specs.declared.waveform.Mark.TheVariants.{Certain, Unknown, Undecided}
use Rattle.report_bits.specs.declared.counts.Counts.{Counts}
use Rattle.wave_proved.specs.Contents.{Contents, shown_in}

abbrev pub is_certain : Mark → Bool
is_certain Certain = true
is_certain Unknown = false
is_certain Undecided = false

abbrev pub is_unknown_mark : Mark → Bool
is_unknown_mark Certain = false
is_unknown_mark Unknown = true
is_unknown_mark Undecided = false

abbrev pub is_undecided : Mark → Bool
is_undecided Certain = false
is_undecided Unknown = false
is_undecided Undecided = true

-- A place is certain, and the history knows it.
abbrev pub is_known_place : Mark → Value → Bool
is_known_place mark shown = is_certain mark && not (is_unknown shown)

-- A place is certain, and the history doesn't know it.
abbrev pub is_repaired : Mark → Value → Bool
is_repaired mark shown = is_certain mark && is_unknown shown

-- How many of the first n places pass a test of the mark and of what the history shows.
abbrev pub count_where : (Mark → Value → Bool) → Contents → ℕ → ℕ
count_where test c n =
    count_by (λ place. test (written_at c.written place).mark (shown_in c place)) (range_with_len 0 n)

-- The counts of the first n places.
abbrev pub counts_below : Contents → ℕ → Counts
counts_below c n = record {
  known = count_where is_known_place c n;
  repaired = count_where is_repaired c n;
  unknown = count_where (λ mark shown. is_unknown_mark mark) c n;
  undecided = count_where (λ mark shown. is_undecided mark) c n;
}

-- How many of so many places from one on pass one, and the counts of these.
abbrev pub count_among : (Mark → Value → Bool) → Contents → ℕ → ℕ → ℕ
count_among test c first many =
    count_by (λ place. test (written_at c.written place).mark (shown_in c place)) (range_with_len first many)

abbrev pub counts_among : Contents → ℕ → ℕ → Counts
counts_among c first many = record {
  known = count_among is_known_place c first many;
  repaired = count_among is_repaired c first many;
  unknown = count_among (λ mark shown. is_unknown_mark mark) c first many;
  undecided = count_among (λ mark shown. is_undecided mark) c first many;
}

-- The counts of the places of a step.
abbrev pub counts_in : Contents → ℕ → Counts
counts_in c step = counts_among c (step * length c.design.nets) (length c.design.nets)

-- The counts of all written places.
abbrev pub counts_of : Contents → Counts
counts_of c = counts_below c (length c.written)

abbrev pub total : Counts → ℕ
total counts = counts.known + counts.repaired + counts.unknown + counts.undecided

-- one more where a test passes
abbrev pub one_if : Bool → ℕ
one_if passes = if passes then 1 else 0

-- The counts with a place more.
abbrev pub with_place : Counts → Mark → Value → Counts
with_place counts mark shown = record {
  known = counts.known + one_if (is_known_place mark shown);
  repaired = counts.repaired + one_if (is_repaired mark shown);
  unknown = counts.unknown + one_if (is_unknown_mark mark);
  undecided = counts.undecided + one_if (is_undecided mark);
}

-- The counts of two sets of places.
abbrev pub with_counts : Counts → Counts → Counts
with_counts counts more = record {
  known = counts.known + more.known;
  repaired = counts.repaired + more.repaired;
  unknown = counts.unknown + more.unknown;
  undecided = counts.undecided + more.undecided;
}
