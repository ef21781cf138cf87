-- Names of nets in code: the scope's names and the net's own, joined by dots.
use Rattle.std.specs.Prelude.{ℕ, Bool, ◌&&◌, not, List, [], ◌∷◌, ◌++◌, codes}
use Rattle.std.specs.List.{list_all}
use Rattle.design_circuit.specs.Design.{name_in}
use Rattle.design_circuit.specs.Name.{written_name, written_part}
use Rattle.design_circuit.specs.declared.design.Design.{Design}
use Rattle.design_circuit.specs.declared.name.NamePart.{NamePart}
use Rattle.netlist_tokens.specs.Byte.{begins, is_letter, is_name_byte, is_printable}

-- a letter or `_`, then letters, digits, `_`, `$` (IEEE 1364-2005, clause 3)
abbrev pub are_name_bytes : List ℕ → Bool
are_name_bytes text = list_all is_name_byte text

abbrev pub is_plain : List ℕ → Bool
is_plain text = begins is_letter text && are_name_bytes text

-- A name of a scope that is no such name is written as an escaped one.
abbrev pub scope_part : List ℕ → NamePart
scope_part text = record { text = text; escaped = not (is_plain text) }

abbrev pub scope_name : List ℕ → List ℕ
scope_name text = written_part (scope_part text)

-- the names of a scope, each with a dot behind it
abbrev pub scope_prefix : List (List ℕ) → List ℕ
scope_prefix [] = []
scope_prefix (text ∷ texts) = scope_name text ++ codes "." ++ scope_prefix texts

abbrev pub code_name : Design → List (List ℕ) → ℕ → List ℕ
code_name design scope net = scope_prefix scope ++ written_name (name_in design net)

-- a name that can be written: one or more printable bytes
abbrev pub is_writable : List ℕ → Bool
is_writable text = begins is_printable text && list_all is_printable text

abbrev pub are_writable : List (List ℕ) → Bool
are_writable texts = list_all is_writable texts
