-- A place more of a history is written.
use Rattle.std.proofs.Common.{◌≡◌, ◌≢◌, ℕ, ◌+◌, ◌*◌, ◌/◌, ◌%◌, ◌<◌, ◌≤◌, Option, length, set, slice_index, unwrap_or, refl, sym, ap, ◌∙◌, arith, length-set, get_or-set_other, get_or-set_same, below_more}
use Rattle.std.proofs.lemmas.Nat.{div-mul-add, mod-mul-add}
use Rattle.std.proofs.Math.Nat.{mul-le-mul_right, mul_comm}
use Rattle.design_cell.specs.declared.value.Value.{Value}
use Rattle.design_circuit.specs.declared.design.Driver.{Driver}
use Rattle.design_circuit.specs.Fits.{Fits, place_at}
use Rattle.design_circuit.specs.Handed.{HasPlaces, IsReplayUnder, held_of}
use Rattle.design_circuit.specs.History.{HistoryView, HasPlace, index_in}
use Rattle.design_circuit.specs.Job.{Job, step_of, net_of, places_of}
use Rattle.design_circuit.specs.Replay.{Held, driven, held_at}
use Rattle.design_circuit.proofs.Numbers.{is_place_at}
use Rattle.design_circuit.proofs.Rules.{spot}
use Rattle.replay_history.specs.Filled.{IsFilled, replayed}
use Rattle.design_circuit.specs.Replay.{kept_by}
use Rattle.replay_history.proofs.Places.{has_step}
use Rattle.replay_history.proofs.Replays.{held_local, replayed_is}
use Rattle.design_circuit.proofs.DrivenLemmas.{kept_driven}

-- where a place stands in a history
abbrev index_of : Job → ℕ → ℕ
index_of j place = step_of j place * j.width + net_of j place

-- Two places stand at two indexes.
apart : (j : Job) → Fits j → (k n : ℕ) → k < places_of j → n < places_of j → index_of j k ≡ index_of j n → k ≡ n
apart j fits k n low within same =
    let a = spot j fits k low in
    let b = spot j fits n within in
    let w = j.width in
    let steps : step_of j k ≡ step_of j n = sym (div-mul-add (step_of j k) w (net_of j k) a.net) ∙ ap (λ i. i / w) same ∙ div-mul-add (step_of j n) w (net_of j n) b.net in
    let nets : net_of j k ≡ net_of j n = sym (mod-mul-add (step_of j k) w (net_of j k) a.net) ∙ ap (λ i. i % w) same ∙ mod-mul-add (step_of j n) w (net_of j n) b.net in
    let all = fits.all in
    let positions : k % w ≡ n % w = fits.ordering.once (k % w) (n % w) (let p = a.position in omega (arith, p, all)) (let p = b.position in omega (arith, p, all)) nets in
    sym a.whole ∙ rw (steps, positions) b.whole

-- It stands within the history.
pub index_within : (j : Job) → Fits j → (history : HistoryView) (place : ℕ) → HasPlaces j history → place < places_of j → HasPlace history (place_at j place)
index_within j fits history place places within =
    let s = spot j fits place within in
    let step : step_of j place < j.moments * j.rounds = (is_place_at j place fits.ordering fits.all within).step in
    let room = has_step j history (step_of j place) places step in
    record { net = rw places.nets s.net; step = (let net = s.net in let all = room.room in let nets = places.nets in omega (arith, net, all, nets)) }

-- The history with a place written: the new places are the old ones with this one set.
pub record IsWritten (j : Job) (old new : HistoryView) (place : ℕ) (held : Held) : Type 0 where
  pub nets : new.nets ≡ old.nets
  pub places : new.places ≡ set old.places (index_in old (place_at j place)) held

pub written_here : (j : Job) → Fits j → (old new : HistoryView) (place : ℕ) (held : Held) → HasPlaces j old → place < places_of j → IsWritten j old new place held → held_of j new place ≡ held
written_here j fits old new place held places within written =
    let room : index_in old (place_at j place) < length old.places = (index_within j fits old place places within).step in
    rw (written.places, written.nets, get_or-set_same) refl

pub written_elsewhere : (j : Job) → Fits j → (old new : HistoryView) (place other : ℕ) (held : Held) → HasPlaces j old → place < places_of j → other < places_of j → other ≢ place → IsWritten j old new place held → held_of j new other ≡ held_of j old other
written_elsewhere j fits old new place other held places within low differ written =
    let away : index_in old (place_at j other) ≢ index_in old (place_at j place) = λ same. differ (apart j fits other place low within (rw places.nets at same)) in
    rw (written.places, written.nets, get_or-set_other) refl

pub written_places : (j : Job) (old new : HistoryView) (place : ℕ) (held : Held) → HasPlaces j old → IsWritten j old new place held → HasPlaces j new
written_places j old new place held places written = record {
  nets = written.nets ∙ places.nets;
  all = ap length written.places ∙ (length-set old.places (index_in old (place_at j place)) held ∙ places.all);
}

-- What the code writes is what the replay has.
pub held_next : (j : Job) → Fits j → (forced : ℕ → Option Value) (history : HistoryView) (place : ℕ) (given : Option Value) (value : Value) → place < places_of j → IsFilled j forced place history → forced place ≡ given → value ≡ driven j (held_of j history) (step_of j place) (net_of j place) (j.driver (net_of j place)) → record { shown = unwrap_or given value; kept = kept_by (j.driver (net_of j place)) value } ≡ replayed j forced place
unfolding held_at
held_next j fits forced history place given value within filled forced_is value_is =
    let driver = j.driver (net_of j place) in
    let whole : record { shown = unwrap_or given value; kept = kept_by driver value } ≡ held_at j forced (held_of j history) place = rw (forced_is, kept_driven j (held_of j history) (step_of j place) (net_of j place) driver, ← value_is) refl in
    whole ∙ (held_local j fits forced (held_of j history) (replayed j forced) place within filled.held ∙ sym (replayed_is j fits forced place within))

-- So one more place has what the replay has.
pub filled_more : (j : Job) → Fits j → (forced : ℕ → Option Value) (old new : HistoryView) (place : ℕ) (held : Held) → place < places_of j → IsFilled j forced place old → IsWritten j old new place held → held ≡ replayed j forced place → IsFilled j forced (place + 1) new
filled_more j fits forced old new place held within filled written is = record {
  places = written_places j old new place held filled.places written;
  held = below_more _ _ (λ k less. written_elsewhere j fits old new place k held filled.places within (omega (arith, less, within)) (λ same. omega (arith, same, less)) written ∙ filled.held k less) (written_here j fits old new place held filled.places within written ∙ is);
}

-- A place of a step is one of the job's.
pub place_within : (j : Job) (step position : ℕ) → step < j.moments * j.rounds → position < j.width → step * j.width + position < places_of j
place_within j step position less within =
    let more : (step + 1) * j.width ≤ (j.moments * j.rounds) * j.width = mul-le-mul_right j.width (omega arith) in
    let turned = mul_comm (j.moments * j.rounds) j.width in
    omega (arith, more, turned, within)

pub step_there : (j : Job) (step position : ℕ) → position < j.width → step_of j (step * j.width + position) ≡ step
step_there j step position within = div-mul-add step j.width position within

pub net_at : (j : Job) (step position : ℕ) → position < j.width → net_of j (step * j.width + position) ≡ slice_index j.order position
net_at j step position within = ap (slice_index j.order) (mod-mul-add step j.width position within)

-- The place at a position of a step, as the code writes it.
pub filled_place : (j : Job) → Fits j → (forced : ℕ → Option Value) (old new : HistoryView) (step position net : ℕ) (given : Option Value) (value : Value) (driver : Driver) → step < j.moments * j.rounds → position < j.width → net ≡ slice_index j.order position → driver ≡ j.driver net → IsFilled j forced (step * j.width + position) old → forced (step * j.width + position) ≡ given → value ≡ driven j (held_of j old) step net driver → new ≡ record old { places = set old.places (index_in old record { step = step; net = net }) record { shown = unwrap_or given value; kept = kept_by driver value } } → IsFilled j forced (step * j.width + position + 1) new
filled_place j fits forced old new step position net given value driver less within net_is driver_is filled forced_is value_is new_is =
    filled_more j fits forced old new place _ inside filled written (held_next j fits forced old place given value inside filled forced_is driven_is)
  where
    place : ℕ
    place = step * j.width + position

    inside : place < places_of j
    inside = place_within j step position less within

    net_there : net_of j place ≡ net
    net_there = net_at j step position within ∙ sym net_is

    driven_is : value ≡ driven j (held_of j old) (step_of j place) (net_of j place) (j.driver (net_of j place))
    driven_is = rw (step_there j step position within, net_there, ← driver_is) value_is

    written : IsWritten j old new place record { shown = unwrap_or given value; kept = kept_by (j.driver (net_of j place)) value }
    written = record {
      nets = ap (λ (h : HistoryView). h.nets) new_is;
      places = rw (step_there j step position within, net_there, ← driver_is) (ap (λ (h : HistoryView). h.places) new_is);
    }

-- The other places of the step have what they had.
pub others_kept : (j : Job) → Fits j → (old new : HistoryView) (step position net : ℕ) (held : Held) → step < j.moments * j.rounds → position < j.width → net ≡ slice_index j.order position → HasPlaces j old → new ≡ record old { places = set old.places (index_in old record { step = step; net = net }) held } → (p : ℕ) → p < j.width → (p ≡ position → ⊥) → held_of j new (step * j.width + p) ≡ held_of j old (step * j.width + p)
others_kept j fits old new step position net held less within net_is places new_is p low differ =
    written_elsewhere j fits old new place (step * j.width + p) held places (place_within j step position less within) (place_within j step p less low) (λ same. differ (omega (arith, same))) written
  where
    place : ℕ
    place = step * j.width + position

    net_there : net_of j place ≡ net
    net_there = net_at j step position within ∙ sym net_is

    written : IsWritten j old new place held
    written = record {
      nets = ap (λ (h : HistoryView). h.nets) new_is;
      places = rw (step_there j step position within, net_there) (ap (λ (h : HistoryView). h.places) new_is);
    }

-- Once all places have what the replay has, the history is the replay.
pub filled_all : (j : Job) (forced : ℕ → Option Value) (history : HistoryView) → IsFilled j forced (places_of j) history → IsReplayUnder j forced history
filled_all j forced history filled = record { places = filled.places; held = filled.held }
