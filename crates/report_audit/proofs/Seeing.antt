-- What is read of a history at a step, and the row that is told of a driver.
use Rattle.std.proofs.Common.{◌≡◌, ℕ, ◌+◌, ◌*◌, ◌<◌, ◌≤◌, ◌^◌, None, List, refl, arith}
use Rattle.std.proofs.Math.Nat.{mul-le-mul_right}
use Rattle.std.specs.List.{AllByRecursion}
use Rattle.design_circuit.specs.declared.circuit.Circuit.{Circuit}
use Rattle.design_circuit.specs.declared.design.Driver.{Driver}
use Rattle.design_circuit.specs.declared.design.Driver.TheVariants.{Input, Undriven, Constant, Copy, Cell, Register}
use Rattle.design_circuit.specs.declared.design.Pin.{Pin}
use Rattle.design_circuit.specs.declared.place.Place.{Place}
use Rattle.design_circuit.specs.Circuit.{Reach, job_in}
use Rattle.design_circuit.specs.Fits.{Fits}
use Rattle.design_circuit.specs.Handed.{HasPlaces, ShowsPlace}
use Rattle.design_circuit.specs.History.{HistoryView}
use Rattle.design_circuit.specs.Job.{Job}
use Rattle.design_circuit.specs.Order.{net_pins}
use Rattle.design_circuit.proofs.Reaching.{reach_nets, step_small}
use Rattle.report_audit.specs.Row.{IsRowBy}

-- The nets of pins are shown at a step.
pub nets_shown : (circuit : Circuit) (history : HistoryView) → HasPlaces (job_in circuit) history
    → (step : ℕ) → step < (job_in circuit).moments * (job_in circuit).rounds → (pins : List Pin)
    → AllByRecursion (λ net. net < (job_in circuit).width) (net_pins pins)
    → AllByRecursion (Reach (job_in circuit) (ShowsPlace circuit history) step) (net_pins pins)
nets_shown circuit history places step less pins nets =
    let j = job_in circuit in
    let all : (step + 1) * j.width ≤ (j.moments * j.rounds) * j.width = mul-le-mul_right j.width (omega (arith, less)) in
    reach_nets j circuit.fits.fits_job (ShowsPlace circuit history) (step + 1) step pins
    (λ k low. record { places = places; within = omega (arith, low, all) }) (omega arith) nets

-- A step has room for all nets.
pub room_at : (j : Job) → Fits j → (step : ℕ) → step < j.moments * j.rounds → step * j.width + j.width ≤ 2 ^ 40
room_at j fits step less =
    let room = step_small j.width step (j.moments * j.rounds) less in
    let few = fits.few_places in
    omega (arith, room, few)

-- What is driven by no primitive has no row.
pub none_by : (j : Job) (replayed : HistoryView) (place : Place) (driver : Driver)
    → ((table : _) (pins : _) → driver ≡ Cell table pins → ⊥) → ((latching : _) → driver ≡ Register latching → ⊥)
    → IsRowBy j replayed place driver None
none_by j replayed place Input cell register = refl
none_by j replayed place Undriven cell register = refl
none_by j replayed place (Constant bit) cell register = refl
none_by j replayed place (Copy argument) cell register = refl
none_by j replayed place (Cell table pins) cell register = absurd (cell table pins refl)
none_by j replayed place (Register latching) cell register = absurd (register latching refl)
