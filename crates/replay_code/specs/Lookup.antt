-- The net that a path in code names: behind the scope's names its own, and its index. Names compare by their bytes,
-- escaped or not alike (IEEE 1364-2005, clauses 3.7.1 and 12.5).
use Rattle.std.specs.Prelude.{ℕ, Bool, true, false, ◌==◌, ◌&&◌, Option, None, Some, [], ◌∷◌, bytes_eq, if◌then◌else◌}
use Rattle.std.specs.List.{position}
use Rattle.design_circuit.specs.Design.{spelling_of}
use Rattle.design_circuit.specs.declared.design.Design.{Design}
use Rattle.design_circuit.specs.declared.design.Net.{Net}
use Rattle.design_circuit.specs.declared.name.Name.{Name}
use Rattle.recording_binding.specs.Naming.{Texts, names_eq}

-- the names that stand behind those of a scope
abbrev pub below : Texts → Texts → Option Texts
below [] texts = Some texts
below (name ∷ scope) [] = None
below (name ∷ scope) (text ∷ texts) = if bytes_eq name text then below scope texts else None

abbrev pub same_index : Option ℕ → Option ℕ → Bool
same_index None None = true
same_index None (Some index) = false
same_index (Some own) None = false
same_index (Some own) (Some index) = own == index

-- a name with these texts and this index
abbrev pub is_name : Texts → Option ℕ → Name → Bool
is_name texts index name = names_eq (spelling_of name).texts texts && same_index (spelling_of name).index index

-- the net of that name
abbrev pub net_of : Design → Texts → Option ℕ → Option ℕ
net_of design texts index = position (λ (net : Net). is_name texts index net.path) design.nets

abbrev pub net_below : Design → Option Texts → Option ℕ → Option ℕ
net_below design None index = None
net_below design (Some texts) index = net_of design texts index
