-- The definitions of a text: modules and primitives, which share their names (IEEE 1364-2005, clauses 8.1 and 12).
use Rattle.std.specs.Prelude.{◌≡◌, ◌<◌, ℕ, Bool, false, nat_lt, Option, Some, None, List, [], ◌∷◌, ◌++◌, map, length}
use Rattle.std.specs.Prelude.{position, bytes_eq, option_copied, Ok, Err, is_some, if◌then◌else◌}
use Rattle.std.specs.Borrow.{Bor}
use Rattle.std.specs.Map.{lookup}
use Rattle.std.specs.Option.{option_or, option_map}
use Rattle.netlist_grammar.specs.declared.tree.Module.{Module}
use Rattle.netlist_grammar.specs.declared.tree.Primitive.{Primitive}
use Rattle.netlist_grammar.specs.declared.tree.Source.{Source}
use Rattle.elab_nets.specs.declared.fault.ElabErr.TheVariants.{TwoModules}
use Rattle.elab_nets.specs.Outcome.{Outcome}
use Rattle.elab_prims.specs.declared.in_order.InOrder.{InOrder}
use Rattle.elab_prims.specs.declared.definitions.Definition.{Definition}
use Rattle.elab_prims.specs.declared.definitions.Definition.TheVariants as definition
use Rattle.elab_prims.specs.Names.{first_repeated}

abbrev pub primitive_names : List Primitive → List (List ℕ)
primitive_names ps = map (λ (p : Primitive). p.name.text) ps

-- A module's name stands behind those of the primitives before it, and ahead of the names behind it.
abbrev pub placed : Module → (List Primitive → List (List ℕ)) → List Primitive → List (List ℕ)
placed m behind [] = m.name.text ∷ behind []
placed m behind (p ∷ ps) =
    if nat_lt p.name.at m.name.at then p.name.text ∷ placed m behind ps else m.name.text ∷ behind (p ∷ ps)

-- The names of all definitions in text order.
abbrev pub names_in_order : List Module → List Primitive → List (List ℕ)
names_in_order [] ps = primitive_names ps
names_in_order (m ∷ ms) ps = placed m (names_in_order ms) ps

-- the names that are still to come
abbrev pub names_left : InOrder → List (List ℕ)
names_left o = names_in_order o.modules.now o.primitives.now

-- the name of the next definition, and what is left
abbrev pub TakesName : InOrder → Option (Bor (List ℕ)) → InOrder → Type 0
TakesName old None new = names_left old ≡ []
TakesName old (Some name) new = names_left old ≡ name.now ∷ names_left new

-- whether the first of the primitives stands before a byte
abbrev pub starts_before : List Primitive → ℕ → Bool
starts_before [] at = false
starts_before (p ∷ ps) at = nat_lt p.name.at at

-- the name of the first primitive, and the others
abbrev pub IsNextPrimitive : List Primitive → Option (Bor (List ℕ)) → List Primitive → Type 0
IsNextPrimitive [] name ps = (name ≡ None) × (ps ≡ [])
IsNextPrimitive (p ∷ rest) name ps = (option_copied name ≡ Some p.name.text) × (ps ≡ rest)

-- the name of the first definition in text order whose name an earlier one has
abbrev pub repeated : Source → Option (List ℕ)
repeated s = first_repeated [] (names_in_order s.modules s.primitives)

abbrev pub named_once : Option (List ℕ) → Source → Outcome Source
named_once None s = Ok s
named_once (Some name) s = Err (TwoModules name)

-- All definitions in text order: none has the name of one before it.
abbrev pub all_named : Source → Outcome Source
all_named s = named_once (repeated s) s

-- the first module of the name, else the first primitive of it
abbrev pub definition_in : List Module → List Primitive → List ℕ → Option Definition
definition_in ms ps name =
    option_or (option_map definition.Module (position (λ (m : Module). bytes_eq name m.name.text) ms))
    (option_map definition.Primitive (position (λ (p : Primitive). bytes_eq name p.name.text) ps))

abbrev pub definition_of : Source → List ℕ → Option Definition
definition_of s name = definition_in s.modules s.primitives name

-- A definition stands at a position of the text.
abbrev pub IsThere : Source → Definition → Type 0
IsThere s (definition.Module k) = k < length s.modules
IsThere s (definition.Primitive k) = k < length s.primitives

-- what a map of names has
abbrev pub numbers_in : List (Bor (List ℕ) × Definition) → List (List ℕ × Definition)
numbers_in entries = map (λ (e : Bor (List ℕ) × Definition). (e.0.now, e.1)) entries

-- A definition more. A name that is there keeps its own.
abbrev pub with_number : List ℕ → Definition → List (List ℕ × Definition) → List (List ℕ × Definition)
with_number name d numbers = if is_some (lookup (bytes_eq name) numbers) then numbers else numbers ++ (name, d) ∷ []

-- The names stand for these modules and primitives.
pub record Finds (numbers : List (List ℕ × Definition)) (ms : List Module) (ps : List Primitive) : Type 0 where
  pub same : (name : List ℕ) → lookup (bytes_eq name) numbers ≡ definition_in ms ps name
