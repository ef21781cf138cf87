-- The netlist of a job, by a list of what holds each net.
use Rattle.std.proofs.Common.{◌≡◌, ◌∙◌, ℕ, ◌<◌, List, Option, length, refl, sym, ap, subst}
use Rattle.design_circuit.specs.Job.{driver_in}
use Rattle.design_circuit.specs.Order.{IsOrder}
use Rattle.design_circuit.specs.declared.design.Design.{Design}
use Rattle.design_circuit.specs.declared.stim.RegisterRules.{RegisterRules}
use Rattle.design_circuit.specs.declared.stim.Stim.{Stim}
use Rattle.recording_binding.specs.Holding.{HoldsBy, held_in}
use Rattle.recording_binding.specs.JobDesign.{holder_by, job_design, with_inputs}
use Rattle.recording_binding.specs.StimOf.{IsStimOf}
use Rattle.recording_binding.specs.declared.binding.Bound.{Bound}
use Rattle.recording_binding.specs.declared.inputs.Holder.{Holder}
use Rattle.recording_binding.specs.declared.rule.UndrivenRule.{UndrivenRule}
use Rattle.recording_binding.specs.declared.rule.UndrivenRule.TheVariants.{Released, Recorded}
use Rattle.recording_binding.proofs.JobDesigns.{inputs_same, made_fits, stim_same}
use Rattle.recording_reader.specs.Recording.{Recording}
use Rattle.cmd_job.specs.Netlist.{FitsNetlist}
use Rattle.cmd_job.specs.Recorded.{job_netlist, netlist_by}
use Rattle.cmd_job.specs.declared.netlist.Netlist.{Netlist}

-- The netlist of a job has the job's design, and its text's order.
pub job_design_is : (rule : UndrivenRule) (n : Netlist) (bound : List Bound) → (job_netlist rule n bound).design ≡ job_design rule n.design bound
job_design_is Released n bound = refl
job_design_is Recorded n bound = refl

pub job_order_is : (rule : UndrivenRule) (n : Netlist) (bound : List Bound) → (job_netlist rule n bound).order ≡ n.order
job_order_is Released n bound = refl
job_order_is Recorded n bound = refl

pub job_netlist_ordered : (rule : UndrivenRule) (n : Netlist) (bound : List Bound) → IsOrder (driver_in n.design) (length n.design.nets) n.order
    → IsOrder (driver_in (job_netlist rule n bound).design) (length (job_netlist rule n bound).design.nets) (job_netlist rule n bound).order
job_netlist_ordered Released n bound is = is
job_netlist_ordered Recorded n bound is = (let made = made_fits Recorded n.design bound in made.ordered n.order is)

-- It fits.
pub job_netlist_fits : (rule : UndrivenRule) (n : Netlist) (bound : List Bound) → FitsNetlist n → FitsNetlist (job_netlist rule n bound)
job_netlist_fits Released n bound fits = fits
job_netlist_fits Recorded n bound fits =
    let made = made_fits Recorded n.design bound in
    record { design = made.fits fits.design; order = made.ordered n.order fits.order }

pub job_netlist_by : (rule : UndrivenRule) (n : Netlist) (bound : List Bound) (holders : List (Option Holder)) → HoldsBy (holder_by rule n.design bound) n.design holders
    → netlist_by rule holders n ≡ job_netlist rule n bound
job_netlist_by Released n bound holders holds = refl
job_netlist_by Recorded n bound holders holds =
    let same : with_inputs (held_in holders) n.design ≡ with_inputs (holder_by Recorded n.design bound) n.design =
    inputs_same (held_in holders) (holder_by Recorded n.design bound) n.design holds.each in
    λ i. record { design = same i; order = n.order }

module _ (rule : UndrivenRule) (n new : Netlist) (bound : List Bound) (holders : List (Option Holder)) (holds : HoldsBy (holder_by rule n.design bound) n.design holders)
    (put : new ≡ netlist_by rule holders n) where
  pub is_job : new ≡ job_netlist rule n bound
  is_job = put ∙ job_netlist_by rule n bound holders holds

  pub design_is : new.design ≡ job_design rule n.design bound
  design_is = ap (λ (x : Netlist). x.design) is_job ∙ job_design_is rule n bound

  pub as_many_nets : length new.design.nets ≡ length n.design.nets
  as_many_nets = ap (λ (d : Design). length d.nets) design_is ∙ (let made = made_fits rule n.design bound in made.as_many)

  pub new_fits : FitsNetlist n → FitsNetlist new
  new_fits fits = subst FitsNetlist (sym is_job) (job_netlist_fits rule n bound fits)

  pub stim_is : (recording : Recording) (rounds : ℕ) (rules : RegisterRules) (stim : Stim) → IsStimOf new.design recording (held_in holders) rounds rules stim
      → IsStimOf (job_design rule n.design bound) recording (holder_by rule n.design bound) rounds rules stim
  stim_is recording rounds rules stim is =
      subst (λ (d : Design). IsStimOf d recording (holder_by rule n.design bound) rounds rules stim) design_is
      (stim_same new.design recording (held_in holders) (holder_by rule n.design bound) rounds rules stim
      (λ net within. holds.each net (subst (λ (k : ℕ). net < k) as_many_nets within)) is)
