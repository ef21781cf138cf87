-- The lines of the refusals that every command has.
use Rattle.std.specs.Prelude.{ℕ, List, ◌++◌, codes}
use Rattle.base_lists.specs.Text.{line}

abbrev pub usage_line : List ℕ
usage_line = line (codes "refused: usage")

abbrev pub read_line : List ℕ → List ℕ
read_line name = line (codes "refused: cannot read " ++ name)

abbrev pub write_line : List ℕ → List ℕ
write_line name = line (codes "refused: cannot write " ++ name)

abbrev pub memory_line : List ℕ
memory_line = line (codes "refused: memory")

-- The sink's name in a line.
abbrev pub report_name : List ℕ
report_name = codes "report"
