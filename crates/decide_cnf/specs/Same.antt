-- Places that ask the same.
use Rattle.std.specs.Prelude.{◌≡◌, ℕ, List, length, map}
use Rattle.design_circuit.specs.Waveform.{certain}
use Rattle.law_model.specs.Cone.{denied_value}
use Rattle.law_model.specs.Query.{variables}
use Rattle.sat_proof.specs.declared.clause.Cnf.{Cnf}
use Rattle.decide_nodes.specs.declared.node.Node.{Node}
use Rattle.decide_nodes.specs.Traced.{IsConeOf, sources_in}
use Rattle.wave_proved.specs.Contents.{Contents, job}
use Rattle.decide_cnf.specs.Query.{IsQueryOf}

-- A place asks what another one does: it has the queries of this, which deny the same bit, and as many variables and
-- sources.
pub record AsksSame (c : Contents) (place other : ℕ) : Type 0 where
  pub denied : denied_value (job c) (certain c.written) other ≡ denied_value (job c) (certain c.written) place
  pub variables : length (variables (job c) (certain c.written) other)
      ≡ length (variables (job c) (certain c.written) place)
  pub sources : length (sources_in c other) ≡ length (sources_in c place)
  pub query : (query : Cnf) → IsQueryOf c place query → IsQueryOf c other query

-- It does where the nodes of their cones have the same bodies in the same order.
abbrev pub SameLaw : Type 0
SameLaw = (c : Contents) (place other : ℕ) (nodes others : List Node) → IsConeOf c place nodes → IsConeOf c other others
    → map (λ (node : Node). node.body) nodes ≡ map (λ (node : Node). node.body) others → AsksSame c place other
