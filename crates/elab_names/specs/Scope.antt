-- The names of a module under way.
use Rattle.std.specs.Prelude.{ℕ, Option, List, [], ◌∷◌, ◌++◌, bytes_eq, Ok, Err, if◌then◌else◌}
use Rattle.std.specs.Map.{lookup}
use Rattle.design_circuit.specs.declared.name.NamePart.{NamePart}
use Rattle.netlist_grammar.specs.declared.tree.Word.{Word}
use Rattle.elab_nets.specs.declared.fault.ElabErr.TheVariants.{BadName}
use Rattle.elab_nets.specs.Outcome.{Outcome}
use Rattle.elab_names.specs.Sets.{has}
use Rattle.elab_names.specs.declared.scope.Entry.{Entry}

-- the instances that lead to the module, its declared names, and the names of its instances so far
pub record Scope : Type 0 where
  pub prefix : List NamePart
  pub names : List (List ℕ × Entry)
  pub instances : List (List ℕ)

abbrev pub scope_of : List NamePart → List (List ℕ × Entry) → List (List ℕ) → Scope
scope_of prefix names instances = record { prefix = prefix; names = names; instances = instances }

abbrev pub entry_of : Scope → List ℕ → Option Entry
entry_of s name = lookup (bytes_eq name) s.names

abbrev pub with_name : List ℕ → Entry → Scope → Scope
with_name name e s = record s { names = s.names ++ (name, e) ∷ [] }

-- A module names each of its instances once.
abbrev pub named_instance : Word → Scope → Outcome Scope
named_instance w s =
    if has s.instances w.text then Err (BadName w.at) else Ok (record s { instances = s.instances ++ w.text ∷ [] })
