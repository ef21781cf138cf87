-- Written names of nets (IEEE 1364-2005, clause 3).
use Rattle.std.specs.Prelude.{ℕ, Option, None, Some, List, [], ◌∷◌, ◌++◌, codes, decimal, if◌then◌else◌}
use Rattle.design_circuit.specs.declared.name.Name.{Name}
use Rattle.design_circuit.specs.declared.name.NamePart.{NamePart}

-- A part is written plainly, an escaped one with a backslash before it and a space behind it.
abbrev pub written_part : NamePart → List ℕ
written_part part = if part.escaped then codes "\\" ++ part.text ++ codes " " else part.text

-- parts behind the first, each with a dot before it
abbrev pub dotted_parts : List NamePart → List ℕ
dotted_parts [] = []
dotted_parts (part ∷ parts) = codes "." ++ (written_part part ++ dotted_parts parts)

-- parts joined by dots
abbrev pub written_parts : List NamePart → List ℕ
written_parts [] = []
written_parts (part ∷ parts) = written_part part ++ dotted_parts parts

abbrev pub written_index : Option ℕ → List ℕ
written_index None = []
written_index (Some index) = codes "[" ++ decimal index ++ codes "]"

-- The instances' names and the net's own, joined by dots, and the index of a vector's bit in brackets behind.
abbrev pub written_name : Name → List ℕ
written_name name = written_parts name.parts ++ written_index name.bit
