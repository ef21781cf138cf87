-- Nothing is written, and all is due.
use Rattle.std.proofs.Common.{ℕ, ap, subst, sym}
use Rattle.design_circuit.specs.Circuit.{job_in}
use Rattle.design_circuit.specs.Handed.{HasPlaces}
use Rattle.design_circuit.specs.Row.{RowView}
use Rattle.replay_due.specs.Due.{AreAllDue, HasRoomFor}
use Rattle.wave_due.specs.declared.walk.Walk.{Walk}
use Rattle.wave_due.proofs.Begins.{started_walk}
use Rattle.wave_due.proofs.walk.Walk.new.Goals as goal

pub returns-clause-walk : goal.returns-clause-walk
returns-clause-walk c =
    let j = job_in c.args.circuit.now in
    let row = c.in_ok-replayed.ensures in
    let width = c.width_of.ensures in
    let due = c.in_ok-waiting.waiting.due in
    let ahead = c.in_ok-waiting.waiting.ahead in
    let walk : Walk = record {
      fans = c.in_ok-fans.fans;
      sources = c.in_ok-sources.sources;
      waiting = c.in_ok-waiting.waiting;
      replayed = c.in_ok-replayed.replayed;
    } in
    started_walk j walk (record {
      places = subst (λ (r : RowView). HasPlaces j r.history) (sym row) c.requires.places;
      fans = c.in_ok-fans.ensures;
      sources = c.in_ok-sources.ensures;
      due_room = subst (λ (n : ℕ). HasRoomFor due n) width c.in_ok-waiting.ensures.due;
      ahead_room = subst (λ (n : ℕ). HasRoomFor ahead n) width c.in_ok-waiting.ensures.ahead;
    }) (subst (λ (n : ℕ). AreAllDue due n) width c.in_ok-waiting.ensures.all) (ap (λ (r : RowView). r.step) row)
