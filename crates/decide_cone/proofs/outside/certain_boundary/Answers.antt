-- The places are the certain ones of the boundary.
use Rattle.std.proofs.Common.{◌≡◌, ◌∙◌, ◌<◌, ap, filter, length, map, reverse, subst, sym}
use Rattle.std.specs.List.{AllByRecursion}
use Rattle.std.proofs.lemmas.Result.{IfOk-weaker}
use Rattle.design_circuit.specs.Circuit.{job_in}
use Rattle.design_circuit.specs.Fits.{place_at}
use Rattle.design_circuit.specs.Job.{Job, places_of}
use Rattle.wave_proved.specs.Contents.{job}
use Rattle.decide_cone.specs.Boundary.{IsCertainBoundary, is_certain_in}
use Rattle.decide_cone.proofs.BoundaryPlaces.{all_filter, certain_boundary_of}
use Rattle.decide_cone.proofs.outside.certain_boundary.Goals as goal

pub certain_of-requires : goal.certain_of-requires
certain_of-requires c =
    subst (AllByRecursion (λ k. k < length c.args.wave.now.written)) (sym c.as_slice.ensures.value)
    c.in_ok-falling.ensures.written

pub places_back-requires : goal.places_back-requires
places_back-requires c = record {
  within =
      let w = c.args.wave.now in
      let some = c.in_ok-certain.ensures ∙ ap (filter (is_certain_in w)) c.as_slice.ensures.value in
      subst (λ (j : Job). AllByRecursion (λ k. k < places_of j) c.in_ok-certain.certain.items) (sym c.circuit.ensures.job)
      (subst (AllByRecursion (λ k. k < places_of (job w))) (sym some)
      (all_filter (λ k. k < places_of (job w)) (is_certain_in w) c.in_ok-falling.falling.items
      c.in_ok-falling.ensures.within));
}

pub returns : goal.returns
returns c =
    let w = c.args.wave.now in
    let some = c.in_ok-certain.ensures ∙ ap (filter (is_certain_in w)) c.as_slice.ensures.value in
    IfOk-weaker c.places_back.result
    (λ places. places.items ≡ map (place_at (job_in c.circuit.result)) (reverse c.in_ok-certain.certain.items))
    (λ places. IsCertainBoundary w c.args.cone.now.nodes places.items)
    (λ places is. certain_boundary_of w c.args.cone.now.nodes c.in_ok-falling.falling.items
    c.in_ok-certain.certain.items (job_in c.circuit.result) places.items c.in_ok-falling.ensures some
    c.circuit.ensures.job is) c.places_back.ensures
