-- The next place of the cone gets its node.
use Rattle.std.proofs.Common.{◌≡◌, ◌<◌, ◌∙◌, true, ap, arith, subst, sym}
use Rattle.std.specs.List.{AllByRecursion}
use Rattle.design_circuit.specs.Fits.{Fits, place_at}
use Rattle.design_circuit.specs.Job.{Job, places_of}
use Rattle.design_circuit.specs.Waveform.{certain}
use Rattle.law_model.specs.Places.{among}
use Rattle.wave_proved.specs.Contents.{job}
use Rattle.decide_nodes.specs.Traced.{IsConeOf, IsWholeCone}
use Rattle.decide_nodes.proofs.NodeWorlds.{whole_law}
use Rattle.decide_cone.specs.Known.{IsRightOf}
use Rattle.decide_cone.specs.Placed.{IsPlaced}
use Rattle.decide_graph.specs.Traced.{supports_in}
use Rattle.decide_cone.proofs.ConeNodes.{ends_ok, few_traced, made_begins, made_ends, made_more, made_next, next_few, next_reach, next_rises, next_supports, next_within, none_left}
use Rattle.decide_cone.proofs.KnownBodies.{if_known, known_body}
use Rattle.decide_cone.proofs.tracing.trace_root.Goals as goal

pub rest-init : goal.rest-init
rest-init c = record {
  made = made_begins (job c.args.wave.now) (certain c.args.wave.now.written) c.args.root _ _ _
      c.in_ok-rest.ensures.traced c.in_ok-places.ensures.items c.in_ok-nodes.ensures.items;
  right = c.in_ok-rest.ensures.right;
}

pub find-requires-clause-reach : goal.find-requires-clause-reach
find-requires-clause-reach c =
    let j = job c.args.wave.now in
    let known = certain c.args.wave.now.written in
    let next = made_next j known c.args.root c.rest.places.items c.rest.rest.items c.pop.new.self.items c.in-Some.place
    c.rest.nodes.items c.rest.invariant.made c.in-Some.ensures.items in
    next_reach j known c.args.wave.now.written c.args.root c.rest.places.items c.in-Some.place c.pop.new.self.items
    c.requires.reach next

pub place_body-requires-clause-rising : goal.place_body-requires-clause-rising
place_body-requires-clause-rising c =
    let j = job c.args.wave.now in
    let known = certain c.args.wave.now.written in
    let next = made_next j known c.args.root c.rest.places.items c.rest.rest.items c.pop.new.self.items c.in-Some.place
    c.rest.nodes.items c.rest.invariant.made c.in-Some.ensures.items in
    rw c.as_slice.ensures.value (next_rises j known c.args.root c.rest.places.items c.in-Some.place
    c.pop.new.self.items next)

pub place_body-requires-clause-few : goal.place_body-requires-clause-few
place_body-requires-clause-few c =
    let j = job c.args.wave.now in
    let known = certain c.args.wave.now.written in
    let next = made_next j known c.args.root c.rest.places.items c.rest.rest.items c.pop.new.self.items c.in-Some.place
    c.rest.nodes.items c.rest.invariant.made c.in-Some.ensures.items in
    rw c.as_slice.ensures.value (next_few j known c.args.root c.rest.places.items c.in-Some.place
    c.pop.new.self.items (few_traced j known c.args.root _ c.in_ok-rest.ensures.traced c.in_ok-rest.ensures.few) next)

pub place_body-requires-clause-all : goal.place_body-requires-clause-all
place_body-requires-clause-all c =
    let j = job c.args.wave.now in
    let known = certain c.args.wave.now.written in
    let fits : Fits j = subst Fits c.circuit-circuit.ensures.job c.circuit-circuit.result.fits.fits_job in
    let next = made_next j known c.args.root c.rest.places.items c.rest.rest.items c.pop.new.self.items c.in-Some.place
    c.rest.nodes.items c.rest.invariant.made c.in-Some.ensures.items in
    rw c.as_slice.ensures.value (if_known c.args.wave.now c.find.new.self c.in-Some.place
    (λ body. AllByRecursion (λ k. among c.rest.places.items k ≡ true) (supports_in body)) c.in_ok-find.ensures.right
    (λ body is. next_supports j fits known c.args.root c.rest.places.items c.in-Some.place c.pop.new.self.items body
    c.requires.reach.within next is))

pub place_of-requires : goal.place_of-requires
place_of-requires c = record {
  within =
      let j = job c.args.wave.now in
      let known = certain c.args.wave.now.written in
      let next = made_next j known c.args.root c.rest.places.items c.rest.rest.items c.pop.new.self.items c.in-Some.place
      c.rest.nodes.items c.rest.invariant.made c.in-Some.ensures.items in
      subst (λ (k : Job). c.in-Some.place < places_of k) (sym c.circuit-circuit.ensures.job)
      (next_within j known c.args.root c.rest.places.items c.in-Some.place c.pop.new.self.items c.requires.reach.within next);
}

pub rest-preserved : goal.rest-preserved
rest-preserved c =
    let j = job c.args.wave.now in
    let known = certain c.args.wave.now.written in
    let places = c.rest.places.items in
    let fits : Fits j = subst Fits c.circuit-circuit.ensures.job c.circuit-circuit.result.fits.fits_job in
    let next = made_next j known c.args.root places c.rest.rest.items c.pop.new.self.items c.in-Some.place
    c.rest.nodes.items c.rest.invariant.made c.in-Some.ensures.items in
    let body = known_body c.args.wave.now c.find.new.self c.in-Some.place (λ body. IsPlaced places body c.in_ok-body.body)
    c.in_ok-find.ensures.right c.in_ok-find.ensures.known (rw c.as_slice.ensures.value at c.in_ok-body.ensures) in
    record {
      made = made_more j fits known c.args.root places c.push-in-Some.new.self.items c.rest.rest.items
          c.pop.new.self.items c.in-Some.place c.rest.nodes.items c.push.new.self.items c.place_of.result body.0
          c.in_ok-body.body c.requires.reach.within c.rest.invariant.made next body.1.0 body.1.1
          (c.place_of.ensures ∙ ap (λ (k : Job). place_at k c.in-Some.place) c.circuit-circuit.ensures.job)
          c.in_ok-push.ensures.items c.in_ok-push-2.ensures.items;
      right = subst (IsRightOf c.args.wave.now) (sym c.hint.ensures) c.in_ok-find.ensures.right;
    }

pub new-requires : goal.new-requires
new-requires c =
    let is : IsWholeCone c.args.wave.now c.args.root c.rest.nodes.items =
    made_ends c.args.wave.now c.args.root c.rest.places.items c.rest.rest.items c.rest.nodes.items
    c.count.ensures.wave c.requires.reach c.requires.line (few_traced (job c.args.wave.now) (certain c.args.wave.now.written)
    c.args.root _ c.in_ok-rest.ensures.traced c.in_ok-rest.ensures.few) c.rest.invariant.made
    (none_left c.rest.rest.items (let none = c.in_default.ensures.cases.0 in let long = c.rest.rest.ok in
    omega (arith, none, long))) in
    is.are_nodes

pub returns-clause-whole : goal.returns-clause-whole
returns-clause-whole c =
    ends_ok (λ cone. cone.nodes) (IsWholeCone c.args.wave.now c.args.root) c.new.result c.rest.nodes.items c.new.ensures
    (made_ends c.args.wave.now c.args.root c.rest.places.items c.rest.rest.items c.rest.nodes.items
    c.count.ensures.wave c.requires.reach c.requires.line (few_traced (job c.args.wave.now) (certain c.args.wave.now.written)
    c.args.root _ c.in_ok-rest.ensures.traced c.in_ok-rest.ensures.few) c.rest.invariant.made
    (none_left c.rest.rest.items (let none = c.in_default.ensures.cases.0 in let long = c.rest.rest.ok in
    omega (arith, none, long))))

pub returns-clause-cone : goal.returns-clause-cone
returns-clause-cone c =
    ends_ok (λ cone. cone.nodes) (IsConeOf c.args.wave.now c.args.root) c.new.result c.rest.nodes.items c.new.ensures
    (whole_law c.args.wave.now c.args.root c.rest.nodes.items
    (made_ends c.args.wave.now c.args.root c.rest.places.items c.rest.rest.items c.rest.nodes.items
    c.count.ensures.wave c.requires.reach c.requires.line (few_traced (job c.args.wave.now) (certain c.args.wave.now.written)
    c.args.root _ c.in_ok-rest.ensures.traced c.in_ok-rest.ensures.few) c.rest.invariant.made
    (none_left c.rest.rest.items (let none = c.in_default.ensures.cases.0 in let long = c.rest.rest.ok in
    omega (arith, none, long)))))
