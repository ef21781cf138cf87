-- When a design fits: its names, its drivers, and the nets that these name.
use Rattle.std.specs.Prelude.{◌≡◌, ◌<◌, ◌≤◌, ◌^◌, ℕ, Bool, true, false, Option, None, Some, List, [], ◌∷◌, length, map}
use Rattle.std.specs.Prelude.{slice_index_or, if◌then◌else◌, ◌&&◌}
use Rattle.std.specs.List.{list_all, AllByRecursion}
use Rattle.netlist_tokens.specs.Byte.{begins, is_letter, is_name_byte, is_printable}
use Rattle.design_circuit.specs.Job.{driver_in}
use Rattle.design_circuit.specs.Order.{arguments_of_driver}
use Rattle.design_circuit.specs.Fits.{FitsDriver}
use Rattle.design_circuit.specs.declared.design.Design.{Design}
use Rattle.design_circuit.specs.declared.design.Net.{Net}
use Rattle.design_circuit.specs.declared.name.Name.{Name}
use Rattle.design_circuit.specs.declared.name.NamePart.{NamePart}

-- A part of a name is plain, a letter with letters, digits, `_` and `$` behind it, or escaped, one or more printable
-- bytes (IEEE 1364-2005, clause 3).
abbrev pub is_part : NamePart → Bool
is_part part = if part.escaped then begins is_printable part.text
    && list_all is_printable part.text else begins is_letter part.text && list_all is_name_byte part.text

abbrev pub has_parts : List NamePart → Bool
has_parts [] = false
has_parts (part ∷ parts) = true

-- An index is at most 2^31 - 1.
abbrev pub FitsIndex : Option ℕ → Type 0
FitsIndex None = Unit {0}
FitsIndex (Some index) = index < 2 ^ 31

-- A name has one or more parts.
pub record FitsName (name : Name) : Type 0 where
  pub some_part : has_parts name.parts ≡ true
  pub parts : list_all is_part name.parts ≡ true
  pub index : FitsIndex name.bit

-- What tells names apart: the bytes of their parts and the index. An escaped part counts like a plain one.
pub record Spelling : Type 0 where
  pub texts : List (List ℕ)
  pub index : Option ℕ

abbrev pub spelling_of : Name → Spelling
spelling_of name = record { texts = map (λ (part : NamePart). part.text) name.parts; index = name.bit }

abbrev pub no_name : Name
no_name = record { parts = []; bit = None }

-- the name of a net
abbrev pub name_in : Design → ℕ → Name
name_in design net = slice_index_or (map (λ (n : Net). n.path) design.nets) net no_name

-- There are at most 2^20 nets, and no two have the same name. Each net that a driver names is there, and each cell and
-- each register fits its primitive.
pub record FitsDesign (design : Design) : Type 0 where
  pub few : length design.nets ≤ 2 ^ 20
  pub names : (net : ℕ) → net < length design.nets → FitsName (name_in design net)
  pub distinct : (net other : ℕ) → net < length design.nets → other < length design.nets
      → spelling_of (name_in design net) ≡ spelling_of (name_in design other) → net ≡ other
  pub arguments : (net : ℕ) → net < length design.nets
      → AllByRecursion (λ a. a < length design.nets) (arguments_of_driver (driver_in design net))
  pub drivers : (net : ℕ) → net < length design.nets
      → FitsDriver design.udps (length design.nets) (driver_in design net)
