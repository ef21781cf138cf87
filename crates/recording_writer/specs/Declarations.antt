-- The scopes and variables of a recording's text (IEEE 1364-2005, clause 18).
use Rattle.std.specs.Prelude.{ℕ, ◌+◌, ◌==◌, List, [], ◌∷◌, ◌++◌, Option, Some, None, bytes_eq, codes, decimal, drop}
use Rattle.std.specs.Prelude.{length, slice_index, if◌then◌else◌}
use Rattle.std.specs.List.{flat_map}
use Rattle.design_circuit.specs.Design.{name_in}
use Rattle.design_circuit.specs.declared.design.Design.{Design}
use Rattle.design_circuit.specs.declared.name.NamePart.{NamePart}
use Rattle.recording_binding.specs.declared.binding.Bound.{Bound}
use Rattle.recording_writer.specs.Code.{code_of}
use Rattle.base_lists.specs.Text.{line}

-- The names of scopes, from the top.
abbrev pub Path : Type 0
Path = List (List ℕ)

abbrev pub scope_line : List ℕ → List ℕ
scope_line name = line (codes "$scope module " ++ name ++ codes " $end")

abbrev pub upscope_line : List ℕ → List ℕ
upscope_line name = line (codes "$upscope $end")

-- how many names two paths begin with in common
abbrev pub common : Path → Path → ℕ
common (a ∷ from) (b ∷ to) = if bytes_eq a b then common from to + 1 else 0
common _ _ = 0

-- The way from one scope to another: up to their common one, then down.
abbrev pub way : Path → Path → List ℕ
way from to = flat_map upscope_line (drop (common from to) from) ++ flat_map scope_line (drop (common from to) to)

-- a name in a recording: an escaped one has its backslash
abbrev pub recorded_part : NamePart → List ℕ
recorded_part part = if part.escaped then 92 ∷ part.text else part.text

-- The own name of a net: its last part, without instance names.
abbrev pub own_name : List NamePart → List ℕ
own_name [] = []
own_name (part ∷ []) = recorded_part part
own_name (part ∷ next ∷ parts) = own_name (next ∷ parts)

-- A range behind a name: `[m:l]`, and `[i]` for one bit of a vector.
abbrev pub range_text : Option (ℕ × ℕ) → List ℕ
range_text None = []
range_text (Some range) =
    codes " [" ++ decimal range.0 ++ (if range.0 == range.1 then [] else codes ":" ++ decimal range.1) ++ codes "]"

-- a variable has the own name of the net of its first bit
abbrev pub bound_name : Design → Bound → List ℕ
bound_name design b = own_name (name_in design (slice_index b.bits 0)).parts

abbrev pub variable_line : Design → ℕ → Bound → List ℕ
variable_line design number b = line (codes "$var wire " ++ decimal (length b.bits) ++ codes " " ++ code_of number
    ++ codes " " ++ bound_name design b ++ range_text b.range ++ codes " $end")

-- The variables from one on, each behind the way to its scope from the present one; at the end every scope is left.
abbrev pub declaration_lines : Design → Path → ℕ → List Bound → List ℕ
declaration_lines design present number [] = flat_map upscope_line present
declaration_lines design present number (b ∷ bs) =
    way present b.path ++ variable_line design number b ++ declaration_lines design b.path (number + 1) bs
