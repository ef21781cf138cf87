-- A place of the cone that isn't carried has its whole table.
use Rattle.std.proofs.Common.{◌≡◌, ℕ, List, true, ◌<◌, ap, ◌∙◌, arith, length, slice_index, subst, sym}
use Rattle.std.specs.List.{AllByRecursion}
use Rattle.std.proofs.lemmas.List.{length-map}
use Rattle.design_circuit.specs.Fits.{place_at}
use Rattle.design_circuit.specs.Job.{Job, number_of, places_of}
use Rattle.design_circuit.specs.Waveform.{certain}
use Rattle.law_model.specs.Assignment.{argument_places}
use Rattle.law_model.specs.Places.{among}
use Rattle.wave_proved.specs.Contents.{IsReached, arguments_in, job}
use Rattle.cert_condition.specs.TurnNodes.{AreWholeValues}
use Rattle.cert_condition.proofs.AroundPlaces.{arguments_near, inside_near, near_reach, place_reached, places_few, places_rise, whole_for}
use Rattle.cert_condition.proofs.nodes.whole_body.Goals as goal

pub argument_places-arguments-requires-clause-within : goal.argument_places-arguments-requires-clause-within
argument_places-arguments-requires-clause-within c =
    let reach = near_reach c.args.wave.now c.requires.around.0 c.args.places.now c.args.inside.now c.requires.around.1
    c.args.place (inside_near c.args.wave.now c.requires.around.0 c.args.places.now c.args.inside.now c.requires.around.1
    c.args.place c.requires.inside) in
    subst (λ (j : Job). c.args.place < places_of j) (sym c.circuit-circuit.ensures.job) reach.within

pub argument_places-arguments-requires-clause-certain : goal.argument_places-arguments-requires-clause-certain
argument_places-arguments-requires-clause-certain c k less =
    let w = c.args.wave.now in
    let root : ℕ = c.requires.around.0 in
    let places : List ℕ = c.args.places.now in
    let at = inside_near w root places c.args.inside.now c.requires.around.1 c.args.place c.requires.inside in
    let reach = near_reach w root places c.args.inside.now c.requires.around.1 c.args.place at in
    let up = reach.written in
    omega (arith, less, up)

pub place_of-requires : goal.place_of-requires
place_of-requires c = record {
  within =
      let reach = near_reach c.args.wave.now c.requires.around.0 c.args.places.now c.args.inside.now c.requires.around.1
      c.args.place (inside_near c.args.wave.now c.requires.around.0 c.args.places.now c.args.inside.now c.requires.around.1
      c.args.place c.requires.inside) in
      subst (λ (j : Job). c.args.place < places_of j) (sym c.circuit-circuit.ensures.job) reach.within;
}

pub whole_values-requires-clause-reached : goal.whole_values-requires-clause-reached
whole_values-requires-clause-reached c =
    let w = c.args.wave.now in
    let root : ℕ = c.requires.around.0 in
    let places : List ℕ = c.args.places.now in
    let at = inside_near w root places c.args.inside.now c.requires.around.1 c.args.place c.requires.inside in
    let place_is : c.place_of.result ≡ place_at (job w) c.args.place =
    c.place_of.ensures ∙ ap (λ (j : Job). place_at j c.args.place) c.circuit-circuit.ensures.job in
    let reached = place_reached w root places c.args.inside.now c.requires.around.1 c.args.place at in
    subst (IsReached w) (sym place_is) reached.0

pub whole_values-requires-clause-count : goal.whole_values-requires-clause-count
whole_values-requires-clause-count c =
    let w = c.args.wave.now in
    let root : ℕ = c.requires.around.0 in
    let places : List ℕ = c.args.places.now in
    let at = inside_near w root places c.args.inside.now c.requires.around.1 c.args.place c.requires.inside in
    let args : c.as_slice-arguments.result.now ≡ arguments_in w c.args.place = c.as_slice-arguments.ensures.places
    ∙ c.argument_places-arguments.ensures
    ∙ ap (λ (j : Job). argument_places j (certain w.written) c.args.place) c.circuit-circuit.ensures.job in
    let place_is : c.place_of.result ≡ place_at (job w) c.args.place =
    c.place_of.ensures ∙ ap (λ (j : Job). place_at j c.args.place) c.circuit-circuit.ensures.job in
    let reached = place_reached w root places c.args.inside.now c.requires.around.1 c.args.place at in
    let number_is : number_of (job w) c.place_of.result ≡ c.args.place = ap (number_of (job w)) place_is ∙ reached.1 in
    ap length args ∙ ap (λ n. length (arguments_in w n)) (sym number_is)

pub positions_in-requires-clause-rising : goal.positions_in-requires-clause-rising
positions_in-requires-clause-rising c =
    places_rise c.args.wave.now c.requires.around.0 c.args.places.now c.args.inside.now c.requires.around.1

pub positions_in-requires-clause-few : goal.positions_in-requires-clause-few
positions_in-requires-clause-few c =
    places_few c.args.wave.now c.requires.around.0 c.args.places.now c.args.inside.now c.requires.around.1

pub positions_in-requires-clause-all : goal.positions_in-requires-clause-all
positions_in-requires-clause-all c =
    let w = c.args.wave.now in
    let root : ℕ = c.requires.around.0 in
    let places : List ℕ = c.args.places.now in
    let at = inside_near w root places c.args.inside.now c.requires.around.1 c.args.place c.requires.inside in
    let args : c.as_slice-arguments.result.now ≡ arguments_in w c.args.place = c.as_slice-arguments.ensures.places
    ∙ c.argument_places-arguments.ensures
    ∙ ap (λ (j : Job). argument_places j (certain w.written) c.args.place) c.circuit-circuit.ensures.job in
    subst (AllByRecursion (λ k. among places k ≡ true)) (sym args)
    (arguments_near w root places c.args.inside.now c.requires.around.1 c.args.place c.requires.inside c.requires.free)

pub returns : goal.returns
returns c any around =
    let w = c.args.wave.now in
    let root : ℕ = c.requires.around.0 in
    let places : List ℕ = c.args.places.now in
    let at = inside_near w root places c.args.inside.now c.requires.around.1 c.args.place c.requires.inside in
    let args : c.as_slice-arguments.result.now ≡ arguments_in w c.args.place = c.as_slice-arguments.ensures.places
    ∙ c.argument_places-arguments.ensures
    ∙ ap (λ (j : Job). argument_places j (certain w.written) c.args.place) c.circuit-circuit.ensures.job in
    let place_is : c.place_of.result ≡ place_at (job w) c.args.place =
    c.place_of.ensures ∙ ap (λ (j : Job). place_at j c.args.place) c.circuit-circuit.ensures.job in
    let reached = place_reached w root places c.args.inside.now c.requires.around.1 c.args.place at in
    let number_is : number_of (job w) c.place_of.result ≡ c.args.place = ap (number_of (job w)) place_is ∙ reached.1 in
    let long = ap length c.positions_in.ensures.places in
    let same = length-map c.positions_in.result (slice_index places) in
    let few = c.as_slice-arguments.ensures.few in
    whole_for w any places c.args.inside.now around c.args.place c.positions_in.result c.from_vec.result c.requires.inside
    c.requires.free c.positions_in.ensures.within (c.positions_in.ensures.places ∙ args) (omega (arith, long, same, few))
    (subst (AreWholeValues w c.args.place) (sym c.from_vec.ensures)
    (subst (λ n. AreWholeValues w n c.in_ok-values.values.items) number_is c.in_ok-values.ensures))
