-- The place that is found otherwise, where the walk ends early.
use Rattle.std.proofs.Common.{◌≡◌, ◌∙◌, ℕ, ◌<◌, List, refl, sym, ap, subst}
use Rattle.design_circuit.specs.Filling.{IsPlace}
use Rattle.design_circuit.specs.Fits.{Fits, place_at}
use Rattle.design_circuit.specs.History.{HistoryView}
use Rattle.design_circuit.specs.Job.{Job, job_of, places_of}
use Rattle.design_circuit.specs.declared.place.Place.{Place}
use Rattle.design_circuit.specs.declared.design.Design.{Design}
use Rattle.design_circuit.specs.declared.stim.Stim.{Stim}
use Rattle.decide_repair.specs.Repaired.{IsObjection}
use Rattle.wave_proved.specs.Contents.{job, next_number, nothing_written}
use Rattle.wave_proved.specs.declared.advance.Optimistic.{Optimistic}
use Rattle.cmd_job.specs.declared.netlist.Netlist.{Netlist as ANetlist}
use Rattle.cmd_phases.proofs.Jobs.{place_there}
use Rattle.law_model.specs.declared.limits.Limits.{Limits}

-- jobs of the same design, order and stimulus
one_job : (a b : Design) (order more : List ℕ) (s t : Stim) → a ≡ b → order ≡ more → s ≡ t → job_of a order s ≡ job_of b more t
one_job a b order more s t designs orders stims = rw (designs, orders, stims) refl

-- It is one of the job.
pub found_there : (limits : Limits) (n : ANetlist) (stim : Stim) (history : HistoryView) (otherwise : Optimistic) → Fits (job_of n.design n.order stim)
    → IsObjection (nothing_written n.design n.order stim history limits) otherwise → IsPlace (job_of n.design n.order stim) otherwise.place
found_there limits n stim history otherwise fits is =
    let of_job = is.same in
    let jobs : job is.before ≡ job_of n.design n.order stim =
    one_job is.before.design n.design is.before.order n.order is.before.stim stim of_job.design of_job.order of_job.stim in
    let next : next_number is.before < places_of (job_of n.design n.order stim) =
    subst (λ (j : Job). next_number is.before < places_of j) jobs is.next in
    let place : otherwise.place ≡ place_at (job_of n.design n.order stim) (next_number is.before) =
    is.reports.place_is ∙ ap (λ (j : Job). place_at j (next_number is.before)) jobs in
    subst (λ (p : Place). IsPlace (job_of n.design n.order stim) p) (sym place) (place_there (job_of n.design n.order stim) fits (next_number is.before) next)
