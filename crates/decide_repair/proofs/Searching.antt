-- What the answers of a search on a query are worth.
use Rattle.std.proofs.Common.{◌≡◌, List, [], length, sym, subst, ◌∙◌}
use Rattle.std.specs.Prelude.{ℤ, Bool, true, false}
use Rattle.std.specs.List.{All}
use Rattle.design_circuit.specs.Waveform.{GivesBoth}
use Rattle.design_circuit.specs.declared.place.Place.{Place}
use Rattle.law_model.specs.Stated.{pair_of, swapped}
use Rattle.law_model.specs.declared.line.Body.{Body}
use Rattle.law_model.specs.declared.line.Body.TheVariants.{Enumerated, Refuted, Pair, Undecided}
use Rattle.law_model.specs.declared.line.Line.{Line as ALine}
use Rattle.sat_proof.specs.Assignment.{HasNoZero, IsModel}
use Rattle.sat_proof.specs.Log.{Fit}
use Rattle.sat_proof.specs.declared.clause.Cnf.{Cnf}
use Rattle.decide_nodes.specs.declared.node.Node.{Node}
use Rattle.decide_nodes.specs.Nodes.{nothing, root_bit}
use Rattle.decide_nodes.specs.Traced.{IsNextCone}
use Rattle.decide_cnf.specs.Literals.{variables_of}
use Rattle.decide_cnf.specs.Models.{GivesPair, HasModel}
use Rattle.decide_cnf.specs.Query.{IsQueryOfNodes}
use Rattle.decide_cnf.proofs.ConeLiterals.{variables_counted}
use Rattle.wave_proved.specs.Contents.{Contents, job, next_number}
use Rattle.wave_proved.specs.Token.{HasNoLog, HoldsWithoutLog, LineHolds, PairHolds}
use Rattle.law_along.specs.Accepted.{AcceptsLine, BodyFits, LogFits}
use Rattle.decide_pair.specs.Decision.{IsDecision, both_bits, one_bit}
use Rattle.decide_pair.specs.Pairs.{pair_with}

-- A log over the formula's variables names those of the query.
names_variables : (c : Contents) (nodes : List Node) (cnf : Cnf) (log : List (List ℤ)) → IsNextCone c nodes
    → IsQueryOfNodes nodes cnf → Fit cnf.vars log → All HasNoZero log → LogFits c log
names_variables c nodes cnf log cone query fit no_zero =
    record { fit = subst (λ v. Fit v log) (query c (next_number c) cone).vars fit; no_zero = no_zero }

pub refuted_accepted : (c : Contents) (nodes : List Node) (cnf : Cnf) (line : ALine) (bit : Bool) (log : List (List ℤ))
    → IsNextCone c nodes → IsQueryOfNodes nodes cnf → Fit cnf.vars log → All HasNoZero log
    → line.body ≡ Refuted bit log → LineHolds c line → AcceptsLine c line
refuted_accepted c nodes cnf line bit log cone query fit no_zero is holds = record {
  line_holds = holds;
  fits = subst (BodyFits c) (sym is) (names_variables c nodes cnf log cone query fit no_zero);
}

pub licence_accepted : (c : Contents) (nodes : List Node) (cnf : Cnf) (line : ALine) (log : List (List ℤ))
    → IsNextCone c nodes → IsQueryOfNodes nodes cnf → Fit cnf.vars log → All HasNoZero log
    → line.body ≡ Undecided log → LineHolds c line → AcceptsLine c line
licence_accepted c nodes cnf line log cone query fit no_zero is holds = record {
  line_holds = holds;
  fits = subst (BodyFits c) (sym is) (names_variables c nodes cnf log cone query fit no_zero);
}

-- A pair and an enumeration have no log.
pub pair_accepted : (c : Contents) (line : ALine) → PairHolds c line → AcceptsLine c line
pair_accepted c line pair = record { line_holds = pair.holds; fits = subst (BodyFits c) (sym pair.body_is) tt }

no_log_fits : (c : Contents) (body : Body) → HasNoLog body → BodyFits c body
no_log_fits c (Enumerated bit) none = tt
no_log_fits c (Refuted bit log) none = absurd none
no_log_fits c (Pair zero one) none = tt
no_log_fits c (Undecided log) none = absurd none

pub simple_accepted : (c : Contents) (line : ALine) → HoldsWithoutLog c line → AcceptsLine c line
simple_accepted c line simple = record { line_holds = simple.holds; fits = no_log_fits c line.body simple.no_log }

pair_fits : (c : Contents) (base : Bool) (other : List Place) → BodyFits c (pair_with base other)
pair_fits c true other = tt
pair_fits c false other = tt

pub decision_accepted : (c : Contents) (nodes : List Node) (line : ALine) → IsDecision c nodes line → AcceptsLine c line
decision_accepted c nodes line (one_bit bit holds is) =
    record { line_holds = holds; fits = subst (BodyFits c) (sym is) tt }
decision_accepted c nodes line (both_bits holds least) =
    record { line_holds = holds; fits = subst (BodyFits c) (sym least.fillings) (pair_fits c _ _) }

has_model : (c : Contents) (nodes : List Node) (cnf : Cnf) (values : List Bool) → IsNextCone c nodes
    → IsQueryOfNodes nodes cnf → IsModel cnf.vars cnf.clauses values → HasModel c (next_number c) values
has_model c nodes cnf values cone query model =
    record { query = cnf; is_query = query c (next_number c) cone; is_model = model }

-- The empty filling and that of a model give the next place both bits.
pub pair_next : (c : Contents) (nodes : List Node) (cnf : Cnf) (values : List Bool) (filling empty : List Place)
    (base : Bool) → IsNextCone c nodes → IsQueryOfNodes nodes cnf → IsModel cnf.vars cnf.clauses values
    → GivesPair nodes values filling → base ≡ root_bit nothing nodes → empty ≡ []
    → GivesBoth (job c) c.written (next_number c) (swapped base (pair_of empty filling))
pair_next c nodes cnf values filling empty base cone query model pair is none =
    rw (is, none) (pair c (next_number c) cone (has_model c nodes cnf values cone query model))

-- A model has a value for each variable.
pub model_counted : (c : Contents) (nodes : List Node) (cnf : Cnf) (values : List Bool) → IsNextCone c nodes
    → IsQueryOfNodes nodes cnf → IsModel cnf.vars cnf.clauses values → length values ≡ variables_of nodes
model_counted c nodes cnf values cone query model =
    model.count ∙ (query c (next_number c) cone).vars ∙ variables_counted c (next_number c) nodes cone
