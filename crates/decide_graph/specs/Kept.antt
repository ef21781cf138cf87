-- Nodes as they are kept: what each reads is a part of one list, and its table a part of another.
use Rattle.std.specs.Prelude.{ℕ, ◌+◌, ◌≤◌, List, length, map}
use Rattle.std.specs.List.{AllByRecursion, between}
use Rattle.design_cell.specs.declared.value.Value.{Value}
use Rattle.design_circuit.specs.declared.place.Place.{Place}
use Rattle.decide_nodes.specs.declared.node.Node.{Node}
use Rattle.decide_nodes.specs.declared.node.NodeBody.TheVariants.{Rule}
use Rattle.decide_graph.specs.declared.kept.Entry.{Entry}
use Rattle.decide_graph.specs.declared.kept.KeptNode.{KeptNode}

-- The node of a place that isn't carried, from what it reads and its table.
abbrev pub ruled_node : Place → List ℕ → List Value → Node
ruled_node place arguments values = record { place = place; body = Rule arguments values }

abbrev pub node_of : KeptNode → Node
node_of node = ruled_node node.place node.arguments.now node.values.now

-- So many items, from one on.
abbrev pub part_of : {A : Type 0} → ℕ → ℕ → List A → List A
part_of start count items = between start (start + count) items

abbrev pub seen_node : List ℕ → List Value → Entry → Node
seen_node arguments values entry = ruled_node entry.place
    (part_of entry.arguments_start entry.arguments_count arguments)
    (part_of entry.values_start entry.values_count values)

abbrev pub seen_nodes : List ℕ → List Value → List Entry → List Node
seen_nodes arguments values entries = map (seen_node arguments values) entries

-- The parts of an entry lie within the lists.
pub record IsEntryWithin (arguments : List ℕ) (values : List Value) (entry : Entry) : Type 0 where
  pub arguments_end : entry.arguments_start + entry.arguments_count ≤ length arguments
  pub values_end : entry.values_start + entry.values_count ≤ length values

abbrev pub AreEntriesWithin : List ℕ → List Value → List Entry → Type 0
AreEntriesWithin arguments values entries = AllByRecursion (IsEntryWithin arguments values) entries
