-- One node more.
use Rattle.std.proofs.Common.{◌<◌, ℕ, List, ap, ◌∙◌, arith, slice_index, subst, sym}
use Rattle.std.proofs.lemmas.List.Elements.{Contains-get_or}
use Rattle.design_circuit.specs.Fits.{place_at}
use Rattle.design_circuit.specs.Job.{Job, places_of}
use Rattle.law_model.proofs.PlacesWhere.{among_contains}
use Rattle.decide_nodes.specs.declared.node.Node.{Node}
use Rattle.cert_condition.proofs.AroundPlaces.{near_reach}
use Rattle.cert_condition.proofs.NodeLists.{all_nodes, more_nodes}
use Rattle.cert_condition.proofs.nodes.turn_nodes.Goals as goal

pub place_of-requires : goal.place_of-requires
place_of-requires c = record {
  within =
      let places : List ℕ = c.args.places.now in
      let place : ℕ = slice_index places c.places.position in
      subst (λ (j : Job). place < places_of j) (sym c.circuit-circuit.ensures.job)
      (near_reach c.args.wave.now c.requires.0 places c.args.inside.now c.requires.1 place
      (among_contains places place (Contains-get_or places c.places.position 0 c.places-test.true))).within;
}

pub places-preserved : goal.places-preserved
places-preserved c =
    let places : List ℕ = c.args.places.now in
    let node : Node = record { place = c.place_of.result; body = c.in_ok-body.body } in
    more_nodes c.args.wave.now places c.args.inside.now c.places.position c.places.nodes.items c.push.new.self.items node
    c.places.invariant c.places-test.true
    (c.place_of.ensures
    ∙ ap (λ (j : Job). place_at j (slice_index places c.places.position)) c.circuit-circuit.ensures.job)
    c.in_ok-body.ensures c.in_ok-push.ensures.items

pub returns : goal.returns
returns c =
    all_nodes c.args.wave.now c.args.places.now c.args.inside.now c.places.position c.places.nodes.items c.places.invariant
    (let low = c.places-test.false in let up = c.places.auto.position-end in omega (arith, low, up))
