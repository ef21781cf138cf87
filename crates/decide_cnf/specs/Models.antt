-- The fillings of models of a query.
use Rattle.std.specs.Prelude.{◌≡◌, ℕ, zero, suc, ◌&&◌, Bool, List, [], ◌∷◌, ◌++◌, take, if◌then◌else◌}
use Rattle.design_circuit.specs.declared.place.Place.{Place}
use Rattle.design_circuit.specs.Waveform.{certain}
use Rattle.law_model.specs.Cone.{source_filling}
use Rattle.law_model.specs.Line.{GivesBoth}
use Rattle.law_model.specs.Query.{valuation_of}
use Rattle.law_model.specs.Stated.{pair_of, swapped}
use Rattle.sat_proof.specs.Assignment.{IsModel, assigned}
use Rattle.sat_proof.specs.declared.clause.Cnf.{Cnf}
use Rattle.decide_nodes.specs.declared.node.Node.{Node}
use Rattle.decide_nodes.specs.Nodes.{is_source_node, node_at, nothing, root_bit}
use Rattle.decide_nodes.specs.Traced.{IsConeOf}
use Rattle.wave_proved.specs.Contents.{Contents, job}
use Rattle.decide_cnf.specs.Literals.{variables_of}
use Rattle.decide_cnf.specs.Query.{IsQueryOf}

-- A model picks a node that is a source and whose variable it gives 1.
abbrev pub is_picked : List Node → (ℕ → Bool) → ℕ → Bool
is_picked nodes model position = is_source_node (node_at nodes position) && model (variables_of (take position nodes))

-- The places of the first nodes that it picks.
abbrev pub picked_places : List Node → (ℕ → Bool) → ℕ → List Place
picked_places nodes model zero = []
picked_places nodes model (suc n) =
    if is_picked nodes model n
    then picked_places nodes model n ++ (node_at nodes n).place ∷ []
    else picked_places nodes model n

-- A filling gives each source of a cone its bit in the valuation of a model, whichever place of a wave the nodes are
-- the cone of.
abbrev pub IsModelFilling : List Node → List Bool → List Place → Type 0
IsModelFilling nodes values filling = (c : Contents) (root : ℕ) → IsConeOf c root nodes
    → filling ≡ source_filling (job c) (certain c.written) root
    (valuation_of (job c) (certain c.written) root (assigned values))

-- Values are a model of the query of a place.
pub record HasModel (c : Contents) (root : ℕ) (values : List Bool) : Type 0 where
  pub query : Cnf
  pub is_query : IsQueryOf c root query
  pub is_model : IsModel query.vars query.clauses values

-- Then the empty filling and that one give the place both bits.
abbrev pub GivesPair : List Node → List Bool → List Place → Type 0
GivesPair nodes values filling = (c : Contents) (root : ℕ) → IsConeOf c root nodes → HasModel c root values
    → GivesBoth (job c) c.written root (swapped (root_bit nothing nodes) (pair_of [] filling))
