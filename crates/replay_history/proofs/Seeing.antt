-- What a driver gives on the values of a history, read as shown values and what its net kept.
use Rattle.std.proofs.Common.{◌≡◌, ℕ, ◌+◌, ◌-◌, ◌*◌, ◌<◌, ◌≤◌, ◌^◌, ◌==◌, Bool, true, false, if◌then◌else◌, slice_index, refl, sym, arith}
use Rattle.std.proofs.lemmas.Nat.{div-mul-add, mod-mul-add}
use Rattle.std.proofs.Math.Nat.{mul-le-mul_right, mul_comm}
use Rattle.std.specs.List.{AllByRecursion}
use Rattle.design_cell.specs.declared.value.Value.{Value}
use Rattle.design_cell.specs.declared.value.Value.TheVariants.{X}
use Rattle.design_circuit.specs.Circuit.{IsSpot, job_in}
use Rattle.design_circuit.specs.Fits.{Fits, FitsDriver, StandsBefore}
use Rattle.design_circuit.specs.Handed.{HasPlaces, ShowsPlace, held_of, shown_of}
use Rattle.design_circuit.specs.History.{HistoryView}
use Rattle.design_circuit.specs.Job.{Job, at, places_of}
use Rattle.design_circuit.specs.Order.{arguments_of_driver}
use Rattle.design_circuit.specs.Register.{updated}
use Rattle.design_circuit.specs.Replay.{driven, seen}
use Rattle.design_circuit.specs.declared.circuit.Circuit.{Circuit}
use Rattle.design_circuit.specs.declared.design.Driver.{Driver}
use Rattle.design_circuit.specs.declared.design.Driver.TheVariants.{Input, Undriven, Constant, Copy, Cell, Register}
use Rattle.replay_fans.proofs.Positions.{net_within}
use Rattle.replay_history.specs.Seen.{driven_at, kept_before}
use Rattle.replay_history.proofs.Writing.{place_within}

-- A register reads what its net kept at a later step alone.
later_alone : (first : Bool) (start was : Value) (make : Value → Value) → (if first then start else make was) ≡ (if first then start else make (if first then X else was))
later_alone true start was make = refl
later_alone false start was make = refl

pub driven_seen : (circuit : Circuit) (history : HistoryView) (step net : ℕ) (driver : Driver) → driven_at circuit history step net driver ≡ driven (job_in circuit) (seen (shown_of (job_in circuit) history) (kept_before circuit history step net driver)) step net driver
driven_seen circuit history step net Input = refl
driven_seen circuit history step net Undriven = refl
driven_seen circuit history step net (Constant bit) = refl
driven_seen circuit history step net (Copy argument) = refl
driven_seen circuit history step net (Cell table pins) = refl
driven_seen circuit history step net (Register latching) =
    let j = job_in circuit in
    later_alone (step == 0) (j.start net) (held_of j history (at j (step - 1) net)).kept (λ was. updated j (shown_of j history) was step latching)

-- Where a position of a step stands.
pub spot_at : (j : Job) → Fits j → (step position net : ℕ) → step < j.moments * j.rounds → position < j.width → net ≡ slice_index j.order position → IsSpot j (step * j.width + position) (record { step = step; position = position; net = net })
spot_at j fits step position net less within is =
    let low = net_within j fits position within in
    record {
      step = sym (div-mul-add step j.width position within);
      position = sym (mod-mul-add step j.width position within);
      net = rw (is, mod-mul-add step j.width position within) refl;
      step_within = less;
      position_within = within;
      net_within = rw is low;
      place_is = refl;
      place_within = place_within j step position less within;
    }

-- The driver there reads what stands before it, and fits.
pub reads_before : (j : Job) → Fits j → (position net : ℕ) (driver : Driver) → position < j.width → net ≡ slice_index j.order position → driver ≡ j.driver net → AllByRecursion (StandsBefore j position) (arguments_of_driver driver)
reads_before j fits position net driver within is same = rw (same, is) (fits.arguments position within)

pub driver_fits : (j : Job) → Fits j → (position net : ℕ) (driver : Driver) → position < j.width → net ≡ slice_index j.order position → driver ≡ j.driver net → FitsDriver j.udps j.width driver
driver_fits j fits position net driver within is same =
    let low = net_within j fits position within in
    rw same (fits.pins net (rw is low))

-- The history shows something at each place below one.
pub shows_below : (circuit : Circuit) (history : HistoryView) → HasPlaces (job_in circuit) history → (step position : ℕ) → step < (job_in circuit).moments * (job_in circuit).rounds → position < (job_in circuit).width → (k : ℕ) → k < step * (job_in circuit).width + position → ShowsPlace circuit history k
shows_below circuit history places step position less within k low =
    let inside = place_within (job_in circuit) step position less within in
    record { places = places; within = omega (arith, low, inside) }

-- The steps up to one of the job's have no more places than the job.
after_step : (j : Job) (step : ℕ) → step < j.moments * j.rounds → (step + 1) * j.width ≤ places_of j
after_step j step less =
    let more : (step + 1) * j.width ≤ (j.moments * j.rounds) * j.width = mul-le-mul_right j.width (omega (arith, less)) in
    let turned = mul_comm (j.moments * j.rounds) j.width in
    omega (arith, more, turned)

pub after_small : (j : Job) → Fits j → (step : ℕ) → step < j.moments * j.rounds → (step + 1) * j.width ≤ 2 ^ 40
after_small j fits step less =
    let all = after_step j step less in
    let few = fits.few_places in
    omega (arith, all, few)

pub shows_up_to : (circuit : Circuit) (history : HistoryView) → HasPlaces (job_in circuit) history → (step : ℕ) → step < (job_in circuit).moments * (job_in circuit).rounds → (k : ℕ) → k < (step + 1) * (job_in circuit).width → ShowsPlace circuit history k
shows_up_to circuit history places step less k low =
    let all = after_step (job_in circuit) step less in
    record { places = places; within = omega (arith, low, all) }
