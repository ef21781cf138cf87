-- A step begins.
use Rattle.std.proofs.Common.{◌≡◌, ℕ, ◌+◌, ◌*◌, ◌%◌, ◌<◌, ◌≤◌, Bool, true, false, List, [], length, sym, ap, ◌∙◌, arith}
use Rattle.std.proofs.Common.{subst}
use Rattle.design_cell.specs.declared.value.Value.{Value}
use Rattle.design_circuit.specs.declared.waveform.Written.{Written}
use Rattle.design_circuit.specs.Fits.{Fits}
use Rattle.design_circuit.specs.Job.{Job, places_of}
use Rattle.design_circuit.specs.Waveform.{certain}
use Rattle.wave_bytes.specs.OfClass.{AgreeBefore}
use Rattle.replay_fans.specs.Marks.{OnlyMore}
use Rattle.replay_fans.proofs.Marking.{clear_before}
use Rattle.wave_bytes.specs.OfQuiet.{spot_at}
use Rattle.wave_bytes.proofs.LawsOfQuiet.{begins_law, start_law}
use Rattle.replay_due.specs.Due.{AreAllDue, HasRoomFor, is_due}
use Rattle.wave_due.specs.Sources.{AreSources, AreStirredDue, ShowsOn}
use Rattle.wave_due.specs.Walk.{HasTables, IsWalk, IsWalkAt, shown_by}
use Rattle.wave_due.specs.declared.walk.Walk.{Walk}
use Rattle.std.proofs.Math.Nat.{zero-div, zero-mod}
use Rattle.design_circuit.specs.Handed.{HasPlaces, shown_of}
use Rattle.design_circuit.specs.Row.{RowView, next_row}
use Rattle.design_circuit.proofs.Rules.{some_width}
use Rattle.replay_fans.specs.Readings.{AreFans}
use Rattle.wave_due.proofs.Fronts.{step_room, step_within, walk_here}

-- What was due one step later is due, with what the recording stirs and with what the history shows otherwise.
pub begun : (j : Job) → Fits j → (shown : ℕ → Value) (waveform : List Written) (step : ℕ) (old new : Walk)
    (stirred : List ℕ) → spot_at j (step + 1) j.width ≤ places_of j → AgreeBefore j (certain waveform) (length waveform)
    → IsWalkAt j shown waveform old step j.width → OnlyMore old.waiting.ahead stirred
    → AreStirredDue j (step + 1) stirred → OnlyMore stirred new.waiting.due
    → ShowsOn j shown (step + 1) 0 new.waiting.due → IsWalkAt j shown waveform new (step + 1) 0
begun j fits shown waveform step old new stirred room agree walk more_ahead recorded more_due shows = record {
  gone = begins_law j waveform step (is_due old.waiting.due) (is_due old.waiting.ahead) (is_due new.waiting.due)
      (is_due new.waiting.ahead) fits room agree walk.gone (λ p low none.
      (let clear : is_due stirred p ≡ false = clear_before stirred new.waiting.due p more_due none in
      (clear_before old.waiting.ahead stirred p more_ahead clear, recorded p low clear)));
  shows = shows;
}

-- At the start all is due.
none_clear : (b : Bool) → b ≡ true → b ≡ false → ⊥
none_clear true is isnt = cc
none_clear false is isnt = cc

pub started : (j : Job) (shown : ℕ → Value) (walk : Walk) → HasTables j walk → AreAllDue walk.waiting.due j.width
    → IsWalkAt j shown [] walk 0 0
started j shown walk tables all = record {
  gone = record {
    length_is = (start_law j (is_due walk.waiting.ahead)).length_is;
    due_here = record { rests = λ p from low none. absurd (none_clear (is_due walk.waiting.due p) (all p low) none) };
    due_later = (start_law j (is_due walk.waiting.ahead)).due_later;
  };
  shows = λ p from low none. absurd (none_clear (is_due walk.waiting.due p) (all p low) none);
}

-- So the walk has gone on to the first position of the next step.
next_row_is : (w step n : ℕ) → n ≡ step * w + w → n ≡ (step + 1) * w + 0
next_row_is w step n is = omega (arith, is)

-- There is one.
pub more_steps : (j : Job) (shown : ℕ → Value) (waveform : List Written) (walk : Walk) (step : ℕ)
    → length waveform < places_of j → IsWalkAt j shown waveform walk step j.width → step + 1 < j.moments * j.rounds
more_steps j shown waveform walk step more at_it =
    let n : ℕ = length waveform in
    step_within j (step + 1) 0 n (some_width j.width (j.moments * j.rounds) n more)
    (next_row_is j.width step n at_it.gone.length_is) more

pub begun_walk : (j : Job) → Fits j → (waveform : List Written) (old new : Walk) (stirred : List ℕ)
    → length waveform < places_of j → HasTables j old → AgreeBefore j (certain waveform) (length waveform)
    → IsWalkAt j (shown_by j old) waveform old old.replayed.step j.width → new.fans ≡ old.fans
    → new.sources ≡ old.sources → new.replayed ≡ next_row old.replayed → HasRoomFor new.waiting.due j.width
    → HasRoomFor new.waiting.ahead j.width → OnlyMore old.waiting.ahead stirred
    → AreStirredDue j (old.replayed.step + 1) stirred → OnlyMore stirred new.waiting.due
    → ShowsOn j (shown_by j old) (old.replayed.step + 1) 0 new.waiting.due → IsWalk j waveform new
begun_walk j fits waveform old new stirred more tables agree walk fans sources row due_room ahead_room more_ahead
    recorded
    more_due shows =
    let n : ℕ = length waveform in
    let step : ℕ = old.replayed.step in
    let long : n ≡ spot_at j (step + 1) 0 = next_row_is j.width step n walk.gone.length_is in
    let some = some_width j.width (j.moments * j.rounds) n more in
    let room = step_room j (step + 1) 0 n some long more in
    walk_here j waveform new 0 (record {
      places = subst (λ (r : RowView). HasPlaces j r.history) (sym row) tables.places;
      fans = subst (AreFans j) (sym fans) tables.fans;
      sources = subst (AreSources j j.width) (sym (ap (λ s. s.items) sources)) tables.sources;
      due_room = due_room;
      ahead_room = ahead_room;
    }) some
    (subst (λ (r : RowView). IsWalkAt j (shown_of j r.history) waveform new r.step 0) (sym row)
    (begun j fits (shown_by j old) waveform step old new stirred room agree walk more_ahead recorded more_due shows))

-- That of nothing written.
pub started_walk : (j : Job) (walk : Walk) → HasTables j walk → AreAllDue walk.waiting.due j.width
    → walk.replayed.step ≡ 0 → IsWalk j [] walk
started_walk j walk tables all first = record {
  tables = tables;
  here = λ more. subst (λ s. IsWalkAt j (shown_by j walk) [] walk s (0 % j.width)) (sym (zero-div j.width))
      (subst (IsWalkAt j (shown_by j walk) [] walk 0) (sym (zero-mod j.width))
      (started j (shown_by j walk) walk tables all));
  reads = λ more. first ∙ sym (zero-div j.width);
}
