-- What holds wherever elaboration stands: the nets so far fit a design, and a module's names are those of its nets.
use Rattle.std.specs.Prelude.{◌≡◌, ℕ, ◌+◌, ◌<◌, ◌≤◌, ◌^◌, true, List, [], ◌∷◌, ◌++◌, Option, Some, None, is_some}
use Rattle.std.specs.Prelude.{length, map, slice_index_or}
use Rattle.std.specs.List.{AllByRecursion, list_all}
use Rattle.design_cell.specs.Table.{Table}
use Rattle.design_circuit.specs.Design.{FitsName, is_part, no_name, spelling_of}
use Rattle.design_circuit.specs.Fits.{FitsDriver}
use Rattle.design_circuit.specs.Order.{arguments_of_driver}
use Rattle.design_circuit.specs.declared.design.Driver.{Driver}
use Rattle.design_circuit.specs.declared.name.Name.{Name}
use Rattle.design_circuit.specs.declared.name.NamePart.{NamePart}
use Rattle.elab_nets.specs.State.{State, net_count}
use Rattle.elab_names.specs.declared.scope.Entry.{Entry}
use Rattle.elab_names.specs.Scope.{Scope, entry_of}
use Rattle.elab_names.specs.Here.{Here}
use Rattle.elab_names.specs.Sets.{has}

-- ---- names

-- the name of a net among those that are made
abbrev pub name_at : List Name → ℕ → Name
name_at names net = slice_index_or names net no_name

-- the texts of a net's name
abbrev pub texts_at : List Name → ℕ → List (List ℕ)
texts_at names net = (spelling_of (name_at names net)).texts

abbrev pub part_texts : List NamePart → List (List ℕ)
part_texts parts = map (λ (part : NamePart). part.text) parts

-- The instances of a prefix lead to a name that stands in the module itself.
abbrev pub Within : List NamePart → List (List ℕ) → Type 0
Within prefix texts = (text : List ℕ) × (texts ≡ part_texts prefix ++ text ∷ [])

-- They lead to a name in the module or below it.
abbrev pub Under : List NamePart → List (List ℕ) → Type 0
Under prefix texts = (text : List ℕ) × (rest : List (List ℕ)) × (texts ≡ part_texts prefix ++ text ∷ rest)

-- ---- nets

-- A driver fits primitives and so many nets, which its arguments are among.
pub record DriverFits (tables : List Table) (width : ℕ) (d : Driver) : Type 0 where
  pub pins : FitsDriver tables width d
  pub arguments : AllByRecursion (λ a. a < width) (arguments_of_driver d)

-- so does that of a net which has one
abbrev pub MaybeFits : List Table → ℕ → Option Driver → Type 0
MaybeFits tables width None = Unit {0}
MaybeFits tables width (Some d) = DriverFits tables width d

-- There are as many drivers as names, and at most 2^20; each driver fits, each name fits, and no two names are alike.
pub record IsSound (tables : List Table) (s : State) : Type 0 where
  pub as_many : length s.drivers ≡ length s.names
  pub few : length s.names ≤ 2 ^ 20
  pub drivers : AllByRecursion (MaybeFits tables (length s.names)) s.drivers
  pub names : AllByRecursion FitsName s.names
  pub distinct : (net other : ℕ) → net < length s.names → other < length s.names
      → spelling_of (name_at s.names net) ≡ spelling_of (name_at s.names other) → net ≡ other

-- ---- scopes

-- The nets of a name are among so many.
abbrev pub IsMade : ℕ → Entry → Type 0
IsMade width e = e.base + net_count e.what e.range ≤ width

-- The scope knows each net of its module by a name, and each net below it by an instance. The nets of its names are
-- there.
pub record Knows (c : Scope) (names : List Name) : Type 0 where
  pub parts : list_all is_part c.prefix ≡ true
  pub nets : (name : List ℕ) (e : Entry) → entry_of c name ≡ Some e → IsMade (length names) e
  pub own : (net : ℕ) (text : List ℕ) → net < length names
      → texts_at names net ≡ part_texts c.prefix ++ text ∷ [] → is_some (entry_of c text) ≡ true
  pub below : (net : ℕ) (text next : List ℕ) (rest : List (List ℕ)) → net < length names
      → texts_at names net ≡ part_texts c.prefix ++ text ∷ next ∷ rest → has c.instances text ≡ true

-- Elaboration stands well.
pub record StandsWell (tables : List Table) (here : Here) : Type 0 where
  pub sound : IsSound tables here.state
  pub knows : Knows here.scope here.state.names

-- ---- steps

-- The nets that were there have their names still, and the names of new ones are of this kind.
pub record Grows (kind : List (List ℕ) → Type 0) (old new : List Name) : Type 0 where
  pub longer : length old ≤ length new
  pub same : (net : ℕ) → net < length old → name_at new net ≡ name_at old net
  pub made : (net : ℕ) → length old ≤ net → net < length new → kind (texts_at new net)

-- Within a module no instance is lost, and new nets stand in it, or in it and below it.
pub record Keeps (kind : List NamePart → List (List ℕ) → Type 0) (old new : Here) : Type 0 where
  pub prefix : new.scope.prefix ≡ old.scope.prefix
  pub instances : (name : List ℕ) → has old.scope.instances name ≡ true → has new.scope.instances name ≡ true
  pub grows : Grows (kind old.scope.prefix) old.state.names new.state.names
