-- The place at a position is written, and its net is visited.
use Rattle.std.proofs.Common.{◌≡◌, ◌⊎◌, ℕ, ◌+◌, ◌%◌, ◌<◌, ◌≤◌, Bool, true, false, Contains, List, [], ◌∷◌, length}
use Rattle.std.proofs.Common.{length-append, refl, sym, ap, ◌∙◌, arith, subst, inl, inr, ⊎_elim}
use Rattle.design_cell.specs.declared.value.Value.{Value}
use Rattle.design_circuit.specs.declared.design.Driver.{Driver}
use Rattle.design_circuit.specs.declared.waveform.Written.{Written}
use Rattle.design_circuit.specs.Fits.{Fits}
use Rattle.design_circuit.specs.Handed.{HasPlaces, shown_of}
use Rattle.design_circuit.specs.Job.{Job, net_of, places_of, step_of}
use Rattle.design_circuit.specs.Order.{arguments_of_driver}
use Rattle.design_circuit.specs.Row.{RowView}
use Rattle.design_circuit.specs.Waveform.{certain}
use Rattle.replay_fans.specs.Nets.{driver_on, looked_at, net_on}
use Rattle.replay_fans.specs.Readings.{AreFans, AreReaders}
use Rattle.law_model.proofs.Classes.{all_at}
use Rattle.wave_bytes.specs.OfQuiet.{is_calm, tells_calm_of, driver_of, and_next, KeepsOn, spot_at}
use Rattle.wave_bytes.proofs.LawsOfQuiet.{visit_law, told_law}
use Rattle.replay_due.specs.Due.{HasRoomFor, is_due}
use Rattle.replay_due.specs.Readers.{ReadersView, readers_of}
use Rattle.wave_due.specs.Sources.{AreSources}
use Rattle.wave_due.specs.Walk.{AreReadersIn, HasSameTables, HasTables, IsVisited, IsWalk, IsWalkAt, TellsCalm}
use Rattle.wave_due.specs.Walk.{shown_by}
use Rattle.wave_due.specs.declared.walk.Walk.{Walk}
use Rattle.wave_bytes.specs.OfClass.{AgreeBefore}
use Rattle.design_circuit.proofs.Rules.{spot}
use Rattle.law_model.proofs.ClassesBefore.{class_local}
use Rattle.law_model.proofs.FactsBefore.{certain_grown}
use Rattle.wave_bytes.specs.View.{keeps_there}
use Rattle.wave_due.proofs.Fronts.{step_room}
use Rattle.std.specs.Prelude.{Some}
use Rattle.std.proofs.lemmas.Bool.{lt-ltb}
use Rattle.design_circuit.specs.declared.place.Place.{Place}
use Rattle.design_circuit.specs.Fits.{place_at}
use Rattle.law_model.specs.Class.{class_of}
use Rattle.law_model.specs.declared.class.ClassByNumber.{ClassByNumber}
use Rattle.wave_bytes.specs.View.{next_class}

-- A position whose driver reads a net is among the readers of the net.
reader_there : (j : Job) (nets_by : Driver → List ℕ) (readers : ReadersView) (p net : ℕ) → AreReaders j nets_by readers
    → p < j.width → Contains (nets_by (driver_on j p)) net → Contains (readers_of readers net) p
reader_there j nets_by readers p net are low reads =
    all_at (λ n. Contains (readers_of readers n) p) (nets_by (driver_on j p)) net (are.has p low) reads

-- So what isn't due doesn't read it, or it keeps.
not_reading : (j : Job) (nets_by : Driver → List ℕ) (readers : ReadersView) (net : ℕ) (keeps : Bool) (old new : List ℕ)
    (p : ℕ) → AreReaders j nets_by readers → AreReadersIn keeps (readers_of readers net) old new → p < j.width
    → is_due new p ≡ false
    → (is_due old p ≡ false) × ((keeps ≡ true) ⊎ (Contains (nets_by (driver_on j p)) net → ⊥))
not_reading j nets_by readers net keeps old new p are gains low none = (
  gains.more p none,
  ⊎_elim (λ (kept : keeps ≡ true). inl kept)
      (λ (no : Contains (readers_of readers net) p → ⊥).
      inr (λ reads. no (reader_there j nets_by readers p net are low reads))) (gains.unread p none),
)

pub visited : (j : Job) → Fits j → (shown : ℕ → Value) (waveform : List Written) (written : Written)
    (step position net : ℕ) (keeps calm : Bool) (old new : Walk) → HasTables j old → position < j.width
    → spot_at j step j.width ≤ places_of j → IsWalkAt j shown waveform old step position → net ≡ net_on j position
    → (keeps ≡ true → KeepsOn j (and_next waveform written) step position)
    → (calm ≡ true → is_calm j (certain (and_next waveform written)) (spot_at j step position) ≡ true)
    → IsVisited net position keeps calm old new
    → IsWalkAt j shown (and_next waveform written) new step (position + 1)
visited j fits shown waveform written step position net keeps calm old new tables low room walk net_is kept calmed
    visit =
    record {
      gone = visit_law j waveform written step position (is_due old.waiting.due) (is_due old.waiting.ahead)
          (is_due new.waiting.due) (is_due new.waiting.ahead) fits low room walk.gone (record {
            readers = λ p behind less none. (let both = not_reading j arguments_of_driver old.fans.cells net keeps
                old.waiting.due new.waiting.due p tables.fans.cells visit.due less none in
                (both.0, by_net arguments_of_driver p both.1));
            lookers = λ p less none. (let both = not_reading j looked_at old.fans.registers net keeps old.waiting.ahead
                new.waiting.ahead p tables.fans.registers visit.ahead less none in
                (both.0, by_net looked_at p both.1));
            calm = λ none. calmed (visit.itself none);
          });
      shows = λ p from less none. walk.shows p (omega (arith, from)) less (visit.due.more p none);
    }
  where
    by_net : (nets_by : Driver → List ℕ) (p : ℕ) → (keeps ≡ true) ⊎ (Contains (nets_by (driver_on j p)) net → ⊥)
        → KeepsOn j (and_next waveform written) step position
        ⊎ (Contains (nets_by (driver_on j p)) (net_on j position) → ⊥)
    by_net nets_by p either = ⊎_elim (λ (k : keeps ≡ true). inl (kept k))
        (λ (no : Contains (nets_by (driver_on j p)) net → ⊥).
        inr (subst (λ n. Contains (nets_by (driver_on j p)) n → ⊥) net_is no)) either

-- It has the tables that it had.
pub same_tables : (j : Job) (old new : Walk) → HasTables j old → HasSameTables old new
    → HasRoomFor new.waiting.due j.width → HasRoomFor new.waiting.ahead j.width → HasTables j new
same_tables j old new tables same due_room ahead_room = record {
  places = subst (λ (row : RowView). HasPlaces j row.history) (sym same.replayed) tables.places;
  fans = subst (AreFans j) (sym same.fans) tables.fans;
  sources = subst (AreSources j j.width) (sym (ap (λ s. s.items) same.sources)) tables.sources;
  due_room = due_room;
  ahead_room = ahead_room;
}

pub visited_tables : (j : Job) (net position : ℕ) (keeps calm : Bool) (old new : Walk) → HasTables j old
    → IsVisited net position keeps calm old new → HasTables j new
visited_tables j net position keeps calm old new tables visit = same_tables j old new tables visit.same
    (let room = tables.due_room in let long = visit.due.long in omega (arith, room, long))
    (let room = tables.ahead_room in let long = visit.ahead.long in omega (arith, room, long))

-- So it is a walk up to the next position, by the history that it reads.
pub visited_walk : (j : Job) → Fits j → (waveform : List Written) (written : Written) (position net : ℕ)
    (keeps calm : Bool) (old new : Walk) → HasTables j old → position < j.width
    → spot_at j old.replayed.step j.width ≤ places_of j
    → IsWalkAt j (shown_by j old) waveform old old.replayed.step position → net ≡ net_on j position
    → (keeps ≡ true → KeepsOn j (and_next waveform written) old.replayed.step position)
    → (calm ≡ true → is_calm j (certain (and_next waveform written)) (spot_at j old.replayed.step position) ≡ true)
    → IsVisited net position keeps calm old new
    → IsWalkAt j (shown_by j new) (and_next waveform written) new new.replayed.step (position + 1)
visited_walk j fits waveform written position net keeps calm old new tables low room walk net_is kept calmed visit =
    subst (λ (row : RowView). IsWalkAt j (shown_of j row.history) (and_next waveform written) new row.step
    (position + 1))
    (sym visit.same.replayed)
    (visited j fits (shown_by j old) waveform written old.replayed.step position net keeps calm old new tables low room
    walk
    net_is kept calmed visit)

-- The next place is written, and is visited by what is found of it.
tells_grown : (j : Job) → Fits j → (waveform : List Written) (written : Written) → length waveform < places_of j
    → TellsCalm j waveform (length waveform) → TellsCalm j (and_next waveform written) (length waveform)
tells_grown j fits waveform written more tells =
    let n : ℕ = length waveform in
    subst (λ class. tells_calm_of j.levels (step_of j n) (driver_of j n) class ≡ true)
    (class_local j fits (certain waveform) (certain (and_next waveform written)) n more
    (certain_grown waveform written))
    tells

calm_grown : (j : Job) → Fits j → (waveform : List Written) (written : Written) → length waveform < places_of j
    → AgreeBefore j (certain (and_next waveform written)) (length (and_next waveform written))
    → TellsCalm j waveform (length waveform) → is_calm j (certain (and_next waveform written)) (length waveform) ≡ true
calm_grown j fits waveform written more agrees tells =
    told_law j (certain (and_next waveform written)) (length waveform) fits more
    (agrees (length waveform) (let long = length-append waveform (written ∷ []) in omega (arith, long)))
    (tells_grown j fits waveform written more tells)

pub written_walk : (j : Job) → Fits j → (waveform : List Written) (written : Written) (net : ℕ) (keeps calm : Bool)
    (old new : Walk) → length waveform < places_of j → IsWalk j waveform old → net ≡ net_of j (length waveform)
    → keeps ≡ keeps_there j (and_next waveform written) (length waveform)
    → (calm ≡ true → TellsCalm j waveform (length waveform))
    → AgreeBefore j (certain (and_next waveform written)) (length (and_next waveform written))
    → IsVisited net (length waveform % j.width) keeps calm old new
    → IsWalkAt j (shown_by j new) (and_next waveform written) new new.replayed.step (length waveform % j.width + 1)
written_walk j fits waveform written net keeps calm old new more is net_is kept tells agrees visit =
    let n : ℕ = length waveform in
    let here = spot j fits n more in
    let step : old.replayed.step ≡ step_of j n = is.reads more in
    let there : spot_at j old.replayed.step (n % j.width) ≡ n = ap (λ s. spot_at j s (n % j.width)) step ∙ here.whole in
    visited_walk j fits waveform written (n % j.width) net keeps calm old new is.tables here.position
    (subst (λ s. spot_at j s j.width ≤ places_of j) (sym step)
    (step_room j (step_of j n) (n % j.width) n here.position (sym here.whole) more))
    (subst (λ s. IsWalkAt j (shown_by j old) waveform old s (n % j.width)) (sym step) (is.here more)) net_is
    (λ keep. subst (λ s. KeepsOn j (and_next waveform written) s (n % j.width)) (sym step) (sym kept ∙ keep))
    (λ calm_is. ap (is_calm j (certain (and_next waveform written))) there
    ∙ calm_grown j fits waveform written more agrees (tells calm_is)) visit

-- What is found of its class.
some_same : (x y : ClassByNumber) → Some x ≡ Some y → x ≡ y
some_same x y is = cc

some_class : (j : Job) (waveform : List Written) (class : ClassByNumber) → length waveform < places_of j
    → Some class ≡ next_class j waveform → class ≡ class_of j (certain waveform) (length waveform)
some_class j waveform class more is = some_same class (class_of j (certain waveform) (length waveform))
    (is ∙ (rw (lt-ltb (length waveform) (places_of j) more) refl))

pub tells_found : (j : Job) (waveform : List Written) (class : ClassByNumber) (place : Place) (driver : Driver)
    → length waveform < places_of j → Some class ≡ next_class j waveform → place ≡ place_at j (length waveform)
    → driver ≡ j.driver place.net → tells_calm_of j.levels place.step driver class ≡ true
    → TellsCalm j waveform (length waveform)
tells_found j waveform class place driver more class_is place_is driver_is tells =
    let n : ℕ = length waveform in
    subst (λ k. tells_calm_of j.levels (step_of j n) (driver_of j n) k ≡ true)
    (some_class j waveform class more class_is)
    (subst (λ d. tells_calm_of j.levels (step_of j n) d class ≡ true)
    (driver_is ∙ ap (λ (p : Place). j.driver p.net) place_is)
    (subst (λ (p : Place). tells_calm_of j.levels p.step driver class ≡ true) place_is tells))
