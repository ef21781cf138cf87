-- Places of a job, and of a history that is handed in.
use Rattle.std.proofs.Common.{◌*◌, ◌<◌, arith, ⊎_elim}
use Rattle.design_circuit.specs.Filling.{IsPlace}
use Rattle.design_circuit.specs.Fits.{Fits}
use Rattle.design_circuit.specs.Handed.{HasPlaces, IsHandedIn, IsReplay, IsBlank}
use Rattle.design_circuit.specs.History.{HistoryView, HasPlace}
use Rattle.design_circuit.specs.Job.{Job, number_of, places_of}
use Rattle.design_circuit.specs.declared.place.Place.{Place}
use Rattle.design_circuit.proofs.Reaching.{step_small}
use Rattle.design_circuit.proofs.Rules.{position_in}

-- A history that is handed in has each place of the job.
pub handed_places : (j : Job) (history : HistoryView) → IsHandedIn j history → HasPlaces j history
handed_places j history handed =
    ⊎_elim (λ (is : IsReplay j history). is.places) (λ (is : IsBlank j history). is.places) handed

pub has_place : (j : Job) (history : HistoryView) (place : Place) → HasPlaces j history → IsPlace j place
    → HasPlace history place
has_place j history place has is =
    let nets = has.nets in
    let all = has.all in
    let net = is.net in
    let room = step_small j.width place.step (j.moments * j.rounds) is.step in
    record { net = omega (arith, nets, net); step = rw nets (omega (arith, all, net, room)) }

-- The number of a place of the job is below the count.
pub number_within : (j : Job) → Fits j → (place : Place) → IsPlace j place → number_of j place < places_of j
number_within j fits place is =
    let room = step_small j.width place.step (j.moments * j.rounds) is.step in
    let low = position_in j fits place.net is.net in
    omega (arith, room, low)
