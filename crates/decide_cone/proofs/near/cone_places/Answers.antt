-- The numbers of the nodes' places are those of the cone.
use Rattle.std.proofs.Common.{◌≡◌, map, subst, sym}
use Rattle.std.specs.List.{AllByRecursion}
use Rattle.std.proofs.lemmas.Result.{IfOk-weaker}
use Rattle.design_circuit.specs.Circuit.{job_in}
use Rattle.design_circuit.specs.Job.{Job}
use Rattle.wave_proved.specs.Contents.{job}
use Rattle.decide_cone.specs.Boundary.{AreInside, IsPlaceIn, number_in}
use Rattle.decide_cone.proofs.BoundaryPlaces.{nodes_placed, numbers_are}
use Rattle.decide_cone.proofs.near.cone_places.Goals as goal

pub numbers_of-requires : goal.numbers_of-requires
numbers_of-requires c = record {
  places =
      subst (λ (k : Job). AllByRecursion (IsPlaceIn k) c.nodes.result.now) (sym c.circuit.ensures.job)
      (subst (AllByRecursion (IsPlaceIn (job c.args.wave.now))) (sym c.nodes.ensures.nodes)
      (nodes_placed c.args.wave.now c.requires.root c.args.cone.now.nodes c.requires.is));
}

pub returns : goal.returns
returns c = IfOk-weaker c.numbers_of.result
    (λ numbers. numbers.items ≡ map (number_in (job_in c.circuit.result)) c.nodes.result.now)
    (λ numbers. AreInside c.args.wave.now c.args.cone.now.nodes numbers.items)
    (λ numbers made root is. numbers_are c.args.wave.now root c.args.cone.now.nodes is numbers.items
    (job_in c.circuit.result) c.nodes.result.now made c.circuit.ensures.job c.nodes.ensures.nodes) c.numbers_of.ensures
