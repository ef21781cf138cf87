-- The places are those of the boundary.
use Rattle.std.proofs.Common.{◌≡◌, ◌<◌, map, reverse, subst, sym}
use Rattle.std.specs.List.{AllByRecursion}
use Rattle.std.proofs.lemmas.Result.{IfOk-weaker}
use Rattle.design_circuit.specs.Circuit.{job_in}
use Rattle.design_circuit.specs.Fits.{place_at}
use Rattle.design_circuit.specs.Job.{Job, places_of}
use Rattle.decide_cone.specs.Boundary.{IsBoundary}
use Rattle.decide_cone.proofs.BoundaryPlaces.{boundary_of}
use Rattle.decide_cone.proofs.outside.boundary.Goals as goal

pub places_back-requires : goal.places_back-requires
places_back-requires c = record {
  within =
      subst (λ (j : Job). AllByRecursion (λ k. k < places_of j) c.in_ok-falling.falling.items) (sym c.circuit.ensures.job)
      c.in_ok-falling.ensures.within;
}

pub returns : goal.returns
returns c = IfOk-weaker c.places_back.result
    (λ places. places.items ≡ map (place_at (job_in c.circuit.result)) (reverse c.in_ok-falling.falling.items))
    (λ places. IsBoundary c.args.wave.now c.args.cone.now.nodes places.items)
    (λ places is. boundary_of c.args.wave.now c.args.cone.now.nodes c.in_ok-falling.falling.items
    (job_in c.circuit.result) places.items c.in_ok-falling.ensures c.circuit.ensures.job is) c.places_back.ensures
