-- Facts of a job that fits: its circuit, its places, and what its replay shows.
use Rattle.std.proofs.Common.{◌≡◌, ◌∙◌, ℕ, ◌+◌, ◌*◌, ◌<◌, ◌≤◌, ap, arith}
use Rattle.std.proofs.lemmas.Nat.{mul-add-lt}
use Rattle.std.proofs.Math.Nat.{mul-le-mul_right}
use Rattle.design_circuit.specs.Parts.{PartsFit}
use Rattle.design_circuit.specs.Filling.{IsPlace}
use Rattle.design_circuit.specs.Fits.{Fits, place_at}
use Rattle.design_circuit.specs.Handed.{IsReplay, shown_of}
use Rattle.design_circuit.specs.History.{HistoryView}
use Rattle.design_circuit.specs.Job.{Job, at, number_of, places_of}
use Rattle.design_circuit.specs.Order.{position_of}
use Rattle.design_circuit.specs.Replay.{Held, shown_at}
use Rattle.design_circuit.specs.Settled.{last_step}
use Rattle.design_circuit.proofs.Numbers.{is_place_at, number_of_place_at}
use Rattle.design_circuit.proofs.OrderLemmas.{position_within}
use Rattle.design_circuit.proofs.OrdersFit.{job_fits}
use Rattle.design_circuit.proofs.Replays.{replay_prefix}
use Rattle.cmd_job.specs.Compared.{job_for}
use Rattle.cmd_job.specs.declared.netlist.Netlist.{Netlist as ANetlist}
use Rattle.cmd_job.specs.declared.recorded.Recorded.{Recorded}
use Rattle.cmd_phases.specs.Repair.{FitsJob}

-- ---- a job that fits

pub fits_job : (n : ANetlist) (r : Recorded) → FitsJob n r → Fits (job_for n r)
fits_job n r fits =
    job_fits n.design n.order r.stim fits.netlist.design fits.netlist.order fits.recorded.stim fits.recorded.some_round fits.recorded.few_rounds

pub circuit_fits : (n : ANetlist) (r : Recorded) → FitsJob n r → PartsFit n.design n.order r.stim
circuit_fits n r fits = record { fits_job = fits_job n r fits; fits_stim = fits.recorded.stim }

module _ (j : Job) (fits : Fits j) where
  pub place_there : (number : ℕ) → number < places_of j → IsPlace j (place_at j number)
  place_there number within = is_place_at j number fits.ordering fits.all within

  pub number_back : (number : ℕ) → number < places_of j → number_of j (place_at j number) ≡ number
  number_back number within = number_of_place_at j number fits.ordering fits.all within

  -- the last step of a moment is a step
  last_within : (moment : ℕ) → moment < j.moments → last_step j moment < j.moments * j.rounds
  last_within moment within =
      let some = fits.some_round in
      let more : (moment + 1) * j.rounds ≤ j.moments * j.rounds = mul-le-mul_right j.rounds (omega arith) in
      omega (arith, some, more)

  -- A net at the last step of a moment is a place.
  pub last_place : (moment net : ℕ) → moment < j.moments → net < j.width → at j (last_step j moment) net < places_of j
  last_place moment net within net_within =
      let all = fits.all in
      let there = fits.ordering.each net (omega (arith, all)) in
      let position : position_of j.order net < j.width = (let p = position_within j.order net there.0 there.1 there.2 in omega (arith, all, p)) in
      let step = last_within moment within in
      mul-add-lt (last_step j moment) j.width (position_of j.order net) (j.moments * j.rounds) step position

-- A replay shows what the replay does.
pub replay_shown : (j : Job) (history : HistoryView) (place : ℕ) → IsReplay j history → place < places_of j
    → shown_of j history place ≡ shown_at j place
replay_shown j history place is within =
    ap (λ (h : Held). h.shown) (is.held place within) ∙ replay_prefix j (places_of j) place within
