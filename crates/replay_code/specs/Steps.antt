-- Events that can be written: their nets are the design's, and their steps are those of a stimulus.
use Rattle.std.specs.Prelude.{ℕ, ◌*◌, ◌<◌, List, length}
use Rattle.std.specs.List.{AllByRecursion}
use Rattle.design_circuit.specs.declared.design.Design.{Design}
use Rattle.design_circuit.specs.declared.force.Event.{Event}
use Rattle.design_circuit.specs.declared.stim.Stim.{Stim}

abbrev pub HasStep : Stim → ℕ → Type 0
HasStep stim step = step < length stim.times * stim.rounds

abbrev pub HasEvent : Design → Event → Type 0
HasEvent design event = event.net < length design.nets

pub record CanWrite (design : Design) (stim : Stim) (event : Event) : Type 0 where
  pub net : HasEvent design event
  pub step : HasStep stim event.step

abbrev pub HasEvents : Design → Stim → List Event → Type 0
HasEvents design stim events = AllByRecursion (CanWrite design stim) events
