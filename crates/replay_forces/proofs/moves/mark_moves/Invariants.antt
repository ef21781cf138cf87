-- What moves is marked behind the places so far.
use Rattle.design_circuit.specs.Circuit.{job_in}
use Rattle.replay_forces.specs.Still.{AreMarkedTo, looked_on, watched}
use Rattle.replay_fans.specs.Marks.{OnlyMore}
use Rattle.wave_proved.specs.Row.{anew_behind}
use Rattle.replay_forces.proofs.moves.mark_moves.Given as goal

abbrev pub invariant-moves : goal.invariant-moves
invariant-moves g l = record {
  more : OnlyMore l.initial.waiting.due l.waiting.due;
  due : AreMarkedTo (job_in l.step.circuit.now) (g.S.Source.reads l.values) (watched (job_in l.step.circuit.now)) l.step.number
      (anew_behind (job_in l.step.circuit.now) l.step.number l.moves l.anew-index) l.waiting.due;
  ahead : AreMarkedTo (job_in l.step.circuit.now) (g.S.Source.reads l.values) (looked_on (job_in l.step.circuit.now)) l.step.number
      (anew_behind (job_in l.step.circuit.now) l.step.number l.moves l.anew-index) l.waiting.ahead;
}
