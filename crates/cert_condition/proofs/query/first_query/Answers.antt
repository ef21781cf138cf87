-- The nodes of the cone and its boundary are those of the turn query.
use Rattle.std.proofs.Common.{ℕ, List, ◌≡◌, ◌∙◌, ◌+◌, ap, length, map, subst, sym}
use Rattle.std.specs.List.{AllByRecursion}
use Rattle.std.proofs.lemmas.List.{length-map}
use Rattle.std.proofs.lemmas.Result.{IfOk-weaker}
use Rattle.design_circuit.specs.Circuit.{job_in}
use Rattle.design_circuit.specs.Filling.{IsPlace}
use Rattle.design_circuit.specs.Job.{Job, number_of}
use Rattle.decide_nodes.specs.declared.node.Node.{Node}
use Rattle.cert_condition.specs.First.{HasTurnNodes, IsConeOfCertain, IsFirstQuery, IsQueryOver}
use Rattle.cert_condition.specs.TurnNodes.{AreNodesAround}
use Rattle.cert_condition.proofs.FirstNodes.{around_of, has_turn_nodes, listed_places}
use Rattle.cert_condition.proofs.query.first_query.Goals as goal

pub numbers_of-requires : goal.numbers_of-requires
numbers_of-requires c = record {
  places =
      subst (λ (j : Job). AllByRecursion (IsPlace j) c.args.listed.now) (sym c.circuit.ensures.job)
      (listed_places c.args.wave.now c.requires.cone.0 c.args.cone.now.nodes c.requires.cone.1 c.args.listed.now
      (c.requires.listed c.requires.cone.0 c.requires.cone.1.whole));
}

pub turn_nodes-requires : goal.turn_nodes-requires
turn_nodes-requires c = (
  c.requires.cone.0,
  around_of c.args.wave.now c.requires.cone.0 c.args.cone.now.nodes
      c.requires.cone.1 c.as_slice.result.now c.as_slice-2.result.now
      (c.as_slice.ensures.value ∙ c.in_ok-places.ensures.near c.requires.cone.0 c.requires.cone.1.whole)
      (rw c.as_slice.ensures.value c.in_ok-places.ensures.few)
      (c.as_slice-2.ensures.value ∙ c.in_ok-inside.ensures c.requires.cone.0 c.requires.cone.1.whole),
)

pub query_over-requires-clause-nodes : goal.query_over-requires-clause-nodes
query_over-requires-clause-nodes c =
    let w = c.args.wave.now in
    let cone : List Node = c.args.cone.now.nodes in
    let has : (root : ℕ) → IsConeOfCertain w root cone
    → HasTurnNodes w root c.as_slice-3.result.now c.as_slice-4.result.now c.as_slice-5.result.now =
    λ root of. subst (λ ps. HasTurnNodes w root ps c.as_slice-4.result.now c.as_slice-5.result.now)
    (c.as_slice.ensures.value ∙ sym c.as_slice-3.ensures.value)
    (has_turn_nodes w root cone of c.args.listed.now c.as_slice.result.now c.as_slice-2.result.now
    c.as_slice-5.result.now c.as_slice-4.result.now (c.requires.listed root of.whole)
    (c.as_slice.ensures.value ∙ c.in_ok-places.ensures.near root of.whole)
    (rw c.as_slice.ensures.value c.in_ok-places.ensures.few)
    (c.as_slice-2.ensures.value ∙ c.in_ok-inside.ensures root of.whole)
    (subst (AreNodesAround w c.as_slice.result.now c.as_slice-2.result.now) (sym c.as_slice-4.ensures.value)
    c.in_ok-nodes.ensures)
    (c.as_slice-5.ensures.value ∙ c.in_ok-numbers.ensures
    ∙ ap (λ (j : Job). map (number_of j) c.args.listed.now) c.circuit.ensures.job)) in
    (c.requires.cone.0, has c.requires.cone.0 c.requires.cone.1)

pub returns-clause-long : goal.returns-clause-long
returns-clause-long c =
    let count = ap length (c.as_slice-5.ensures.value ∙ c.in_ok-numbers.ensures)
    ∙ length-map c.args.listed.now (number_of (job_in c.circuit.result)) in
    IfOk-weaker c.query_over.result _ (λ next. length next.query.clauses ≡ next.cone + length c.args.listed.now)
    (λ next is. is ∙ ap (λ n. next.cone + n) count) c.query_over.ensures.long

pub returns-clause-query : goal.returns-clause-query
returns-clause-query c =
    let w = c.args.wave.now in
    let cone : List Node = c.args.cone.now.nodes in
    let has : (root : ℕ) → IsConeOfCertain w root cone
    → HasTurnNodes w root c.as_slice-3.result.now c.as_slice-4.result.now c.as_slice-5.result.now =
    λ root of. subst (λ ps. HasTurnNodes w root ps c.as_slice-4.result.now c.as_slice-5.result.now)
    (c.as_slice.ensures.value ∙ sym c.as_slice-3.ensures.value)
    (has_turn_nodes w root cone of c.args.listed.now c.as_slice.result.now c.as_slice-2.result.now
    c.as_slice-5.result.now c.as_slice-4.result.now (c.requires.listed root of.whole)
    (c.as_slice.ensures.value ∙ c.in_ok-places.ensures.near root of.whole)
    (rw c.as_slice.ensures.value c.in_ok-places.ensures.few)
    (c.as_slice-2.ensures.value ∙ c.in_ok-inside.ensures root of.whole)
    (subst (AreNodesAround w c.as_slice.result.now c.as_slice-2.result.now) (sym c.as_slice-4.ensures.value)
    c.in_ok-nodes.ensures)
    (c.as_slice-5.ensures.value ∙ c.in_ok-numbers.ensures
    ∙ ap (λ (j : Job). map (number_of j) c.args.listed.now) c.circuit.ensures.job)) in
    IfOk-weaker c.query_over.result
    (IsQueryOver w c.as_slice-3.result.now c.as_slice-4.result.now c.as_slice-5.result.now) (IsFirstQuery w cone)
    (λ next is root of place rest first. is root (has root of) place rest ((has root of).numbers_are ∙ first))
    c.query_over.ensures.query
