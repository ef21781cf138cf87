-- The first lines of a report.
use Rattle.std.specs.Prelude.{ℕ, List, ◌++◌, codes, decimal, length}
use Rattle.design_circuit.specs.Job.{places_of}
use Rattle.report_bits.specs.Counts.{counts_of}
use Rattle.base_lists.specs.Text.{line}
use Rattle.report_bits.specs.declared.counts.Counts.{Counts}
use Rattle.wave_proved.specs.Contents.{Contents, job}

-- How many places and moments there are, and how many rounds a moment has.
abbrev pub sizes_line : Contents → List ℕ
sizes_line c =
    line (codes "places " ++ decimal (places_of (job c)) ++ codes " moments " ++ decimal (length c.stim.times)
    ++ codes " rounds " ++ decimal c.stim.rounds)

-- How many places have which end.
abbrev pub counts_line : Counts → List ℕ
counts_line counts =
    line (codes "known " ++ decimal counts.known ++ codes " repaired " ++ decimal counts.repaired ++ codes " unknown "
    ++ decimal counts.unknown ++ codes " undecided " ++ decimal counts.undecided)

-- How many `force` statements and lines of the certificate there are.
abbrev pub forces_line : ℕ → ℕ → List ℕ
forces_line forces lines = line (codes "forces " ++ decimal forces ++ codes " lines " ++ decimal lines)

unfoldable pub head_lines : Contents → ℕ → List ℕ
head_lines c forces = sizes_line c ++ counts_line (counts_of c) ++ forces_line forces (length c.lines)
