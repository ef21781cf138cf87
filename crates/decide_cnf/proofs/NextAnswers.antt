-- What is shown of the next place by the answers of a search on its query.
use Rattle.std.proofs.Common.{◌≡◌, ◌<◌, List, length, sym, ap, ◌∙◌, subst}
use Rattle.std.specs.Prelude.{ℤ}
use Rattle.std.specs.List.{All}
use Rattle.std.proofs.lemmas.List.{length-map}
use Rattle.design_circuit.specs.Fits.{place_at}
use Rattle.sat_proof.specs.Assignment.{HasNoZero}
use Rattle.sat_proof.specs.Log.{AreFresh, Refutes}
use Rattle.sat_proof.specs.declared.clause.Cnf.{Cnf}
use Rattle.law_model.specs.declared.line.Body.TheVariants.{Refuted, Undecided}
use Rattle.decide_nodes.specs.declared.node.Node.{Node}
use Rattle.decide_nodes.specs.Nodes.{nothing, root_bit, sources_of}
use Rattle.decide_nodes.specs.Traced.{IsNextCone, sources_in}
use Rattle.decide_nodes.proofs.ConeLaws.{base_law, sources_law}
use Rattle.wave_proved.specs.Contents.{Contents, job, next_number}
use Rattle.wave_proved.specs.Token.{HoldsNext}
use Rattle.decide_cnf.specs.Answers.{IsFreshNext, RefutesNext}
use Rattle.decide_cnf.specs.Query.{IsQueryOfNodes}

-- A log that refutes the query shows the bit that the query denies.
pub refuted_next : (c : Contents) (nodes : List Node) (log : List (List ℤ)) → IsNextCone c nodes → RefutesNext c log
    → All HasNoZero log → HoldsNext c (Refuted (root_bit nothing nodes) log)
refuted_next c nodes log is refutes no_zero = record {
  denied = sym (base_law c (next_number c) nodes is);
  query = refutes.query;
  is_query = refutes.is_query;
  literals = no_zero;
  refutes = refutes.refutes;
}

-- A fresh log as long as the limits say is a licence where there are more sources than are enumerated.
pub licence_next : (c : Contents) (nodes : List Node) (log : List (List ℤ)) → IsNextCone c nodes → IsFreshNext c log
    → c.limits.enumerated < length (sources_of nodes) → length log ≡ c.limits.conflicts → HoldsNext c (Undecided log)
licence_next c nodes log is fresh many long = record {
  many = subst (λ n. c.limits.enumerated < n) (ap length (sources_law c (next_number c) nodes is)
      ∙ length-map (sources_in c (next_number c)) (place_at (job c))) many;
  query = fresh.query;
  is_query = fresh.is_query;
  fresh = fresh.fresh;
  long = long;
}

-- A log that refutes the query refutes that of the next place, and one that is fresh for it is fresh there.
pub refutes_next : (c : Contents) (nodes : List Node) (cnf : Cnf) (log : List (List ℤ)) → IsNextCone c nodes
    → IsQueryOfNodes nodes cnf → Refutes cnf.clauses log → RefutesNext c log
refutes_next c nodes cnf log cone query refutes =
    record { query = cnf; is_query = query c (next_number c) cone; refutes = refutes }

pub fresh_next : (c : Contents) (nodes : List Node) (cnf : Cnf) (log : List (List ℤ)) → IsNextCone c nodes
    → IsQueryOfNodes nodes cnf → AreFresh cnf.clauses log → IsFreshNext c log
fresh_next c nodes cnf log cone query fresh =
    record { query = cnf; is_query = query c (next_number c) cone; fresh = fresh }
