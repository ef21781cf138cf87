-- The query of a cone as a formula.
use Rattle.std.specs.Prelude.{ℕ, List}
use Rattle.design_circuit.specs.Waveform.{certain}
use Rattle.law_model.specs.Query.{IsQuery}
use Rattle.sat_proof.specs.declared.clause.Cnf.{Cnf}
use Rattle.decide_nodes.specs.declared.node.Node.{Node}
use Rattle.decide_nodes.specs.Traced.{IsConeOf}
use Rattle.wave_proved.specs.Contents.{Contents, job}

-- A formula is the query of a place of a wave.
abbrev pub IsQueryOf : Contents → ℕ → Cnf → Type 0
IsQueryOf c root query = IsQuery (job c) (certain c.written) root query

-- It is that of each place whose cone some nodes are.
abbrev pub IsQueryOfNodes : List Node → Cnf → Type 0
IsQueryOfNodes nodes query = (c : Contents) (root : ℕ) → IsConeOf c root nodes → IsQueryOf c root query
