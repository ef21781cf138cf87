-- The law: they are changes of what they force.
use Rattle.std.proofs.Common.{subst, sym}
use Rattle.design_circuit.specs.Force.{AreEvents, forced_by}
use Rattle.replay_forces.proofs.Forced.{are_events}
use Rattle.replay_forces.proofs.laws.forces_are_events.Goals as goal

pub returns : goal.returns
returns c = λ j values events fits are. subst (AreEvents j) (sym are.least) (are_events j fits (forced_by j events))
