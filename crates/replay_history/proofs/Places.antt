-- Places by step and net, and by number.
use Rattle.std.proofs.Common.{◌≡◌, ℕ, ◌+◌, ◌*◌, ◌<◌, ◌≤◌, refl, ap, ◌∙◌, arith, slice_index}
use Rattle.std.proofs.lemmas.Nat.{div-mul-add, mod-mul-add}
use Rattle.std.proofs.Math.Nat.{mul-le-mul_right, mul_comm}
use Rattle.design_circuit.specs.declared.place.Place.{Place}
use Rattle.design_circuit.specs.Fits.{Fits, place_at}
use Rattle.design_circuit.specs.Handed.{HasPlaces, held_of, shown_of}
use Rattle.design_circuit.specs.History.{HistoryView, held_in}
use Rattle.design_circuit.specs.Job.{Job, at}
use Rattle.design_circuit.specs.Order.{position_of}
use Rattle.design_circuit.proofs.OrderLemmas.{net_at_position}
use Rattle.design_circuit.proofs.Rules.{position_in}
use Rattle.replay_history.specs.Read.{HasStep, shown_in}

-- The place at a position of a step.
pub place_at_position : (j : Job) (step position : ℕ) → position < j.width → place_at j (step * j.width + position) ≡ record { step = step; net = slice_index j.order position }
place_at_position j step position within = rw (div-mul-add step j.width position within, mod-mul-add step j.width position within) refl

-- The net that stands at the position of a net.
pub net_there : (j : Job) → Fits j → (net : ℕ) → net < j.width → slice_index j.order (position_of j.order net) ≡ net
net_there j fits net within =
    let all = fits.all in
    let at = fits.ordering.each net (omega arith) in
    net_at_position j.order net at.0 at.1 at.2

-- The place of a net at a step.
pub place_at_net : (j : Job) → Fits j → (step net : ℕ) → net < j.width → place_at j (at j step net) ≡ record { step = step; net = net }
place_at_net j fits step net within =
    place_at_position j step (position_of j.order net) (position_in j fits net within) ∙ ap (λ n. let p : Place = record { step = step; net = n } in p) (net_there j fits net within)

-- What a history has there.
pub held_at_net : (j : Job) → Fits j → (history : HistoryView) (step net : ℕ) → net < j.width → held_of j history (at j step net) ≡ held_in history record { step = step; net = net }
held_at_net j fits history step net within = ap (held_in history) (place_at_net j fits step net within)

pub shown_at_net : (j : Job) → Fits j → (history : HistoryView) (step net : ℕ) → net < j.width → shown_of j history (at j step net) ≡ shown_in history step net
shown_at_net j fits history step net within = ap (λ place. (held_in history place).shown) (place_at_net j fits step net within)

-- A history with the places of a job has every place of its steps.
pub has_step : (j : Job) (history : HistoryView) (step : ℕ) → HasPlaces j history → step < j.moments * j.rounds → HasStep history step
has_step j history step places within = record {
  room = rw (places.nets, places.all) (let more : (step + 1) * j.width ≤ (j.moments * j.rounds) * j.width = mul-le-mul_right j.width (omega arith) in let turned = mul_comm (j.moments * j.rounds) j.width in omega (arith, more, turned));
}
