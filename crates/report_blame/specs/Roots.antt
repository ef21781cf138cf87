-- Roots of places, with their nodes.
use Rattle.std.specs.Prelude.{◌≡◌, ℕ, IfSome}
use Rattle.design_circuit.specs.declared.place.Place.{Place}
use Rattle.design_circuit.specs.Job.{number_of}
use Rattle.decide_cone.specs.Lanes.{LanesView}
use Rattle.decide_cone.specs.Roots.{HasNode, place_of}
use Rattle.wave_proved.specs.Contents.{Contents, job}
use Rattle.wave_proved.specs.Pairs.{IsRootOf}
use Rattle.report_blame.specs.declared.roots.Root.{Root as ARoot}

-- A node of lanes is that of a place.
pub record IsNodeOf (c : Contents) (lanes : LanesView) (place : Place) (node : ℕ) : Type 0 where
  pub has : HasNode lanes node
  pub own : place_of lanes node ≡ number_of (job c) place

-- What is found is the root of a place, and its node, if there is one.
pub record IsRoot (c : Contents) (lanes : LanesView) (place : Place) (found : ARoot) : Type 0 where
  pub root : IsRootOf c place (found.place, found.inverted)
  pub node : IfSome found.node (IsNodeOf c lanes found.place)
