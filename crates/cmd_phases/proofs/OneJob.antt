-- The phases of a job come to one thing each.
use Rattle.std.proofs.Common.{◌≡◌, ◌∙◌, ℕ, List, length, Ok, Err, refl, sym, ap}
use Rattle.design_circuit.specs.Job.{driver_in}
use Rattle.design_circuit.specs.Order.{IsOrder}
use Rattle.design_circuit.specs.declared.design.Design.{Design}
use Rattle.design_circuit.proofs.OrdersFit.{order_lists}
use Rattle.replay_history.specs.declared.differ.Differ.{Differ}
use Rattle.base_run.specs.Phases.{Answer, AreExact, IsOne, Phases, ◌>>=◌}
use Rattle.cmd_words.specs.Words.{JobValues}
use Rattle.cmd_job.specs.Compared.{job_for, refusal_for}
use Rattle.cmd_job.specs.Recorded.{RecordingComes, job_netlist}
use Rattle.cmd_job.specs.declared.netlist.Netlist.{Netlist as ANetlist}
use Rattle.cmd_job.specs.declared.recorded.Recorded.{Recorded}
use Rattle.cmd_job.specs.declared.rules.Rules.{Rules}
use Rattle.cmd_job.proofs.JobNetlists.{job_netlist_ordered}
use Rattle.cmd_job.proofs.OneNetlist.{one_outcome}
use Rattle.cmd_job.proofs.OneRecording.{one_recording}
use Rattle.cmd_phases.specs.Phases.{job_phases, parts, scope_of}
use Rattle.cmd_phases.specs.Repair.{CompareComes, rules_of, undriven_rule_of}
use Rattle.cmd_phases.specs.declared.cause.Refused.{Refused}
use Rattle.cmd_phases.specs.declared.parts.Parts.{Parts}
use Rattle.replay_history.proofs.Faults.{OrdersAll, no_first, one_fault}
use Rattle.cmd_phases.proofs.OneStimulus.{one_binding, one_said, one_stim}

same_recorded : (a b : Recorded) → a.recording ≡ b.recording → a.binding ≡ b.binding → a.stim ≡ b.stim → a ≡ b
same_recorded a b said bound stim = λ i. record { recording = said i; binding = bound i; stim = stim i }

pub one_recorded : (text : List ℕ) (design : Design) (scope : List (List ℕ)) (rounds most : ℕ) (rules : Rules)
    → IsOne (RecordingComes text design scope rounds most rules)
one_recorded text design scope rounds most rules (Ok a) (Ok b) first second =
    ap Ok (same_recorded a b (one_said text design scope rounds most rules a b first second) (one_binding text design scope rounds most rules a b first second)
    (one_stim text design scope rounds most rules a b first second))
one_recorded text design scope rounds most rules (Ok a) (Err f) first second = absurd (one_recording text design scope rounds most rules (Ok a) (Err f) first second)
one_recorded text design scope rounds most rules (Err e) (Ok b) first second = absurd (one_recording text design scope rounds most rules (Err e) (Ok b) first second)
one_recorded text design scope rounds most rules (Err e) (Err f) first second = ap Err (one_recording text design scope rounds most rules (Err e) (Err f) first second)

pub orders_of : (n : ANetlist) (r : Recorded) → IsOrder (driver_in n.design) (length n.design.nets) n.order → OrdersAll (job_for n r)
orders_of n r ordered = record { ordering = order_lists (driver_in n.design) (length n.design.nets) n.order ordered; all = ordered.all }

pub one_compared : (n : ANetlist) (r : Recorded) → OrdersAll (job_for n r) → IsOne (CompareComes n r)
one_compared n r orders (Ok a) (Ok b) first second = refl
one_compared n r orders (Ok a) (Err f) first second = absurd (no_first (job_for n r) r.recording r.binding second.differ first second.first)
one_compared n r orders (Err e) (Ok b) first second = absurd (no_first (job_for n r) r.recording r.binding first.differ second first.first)
one_compared n r orders (Err e) (Err f) first second =
    let same = one_fault (job_for n r) orders r.recording r.binding first.differ second.differ first.first second.first in
    ap Err (first.reported ∙ ap (λ (d : Differ). refusal_for n r d) same ∙ sym second.reported)

-- The phases of a job, and those after them.
pub job_exact : (w : JobValues) (next : Parts → Phases Answer Refused) → ((n : ANetlist) (r : Recorded) → OrdersAll (job_for n r) → AreExact (next (parts n r)))
    → AreExact (job_phases w >>= next)
job_exact w next after = λ text. (
  one_outcome text w.top,
  λ n has recording. (
    one_recorded recording n.design (scope_of w) w.rounds w.places (rules_of w),
    λ r held. (
        let job = job_netlist (undriven_rule_of w.undriven) n r.binding.bound in
        after job r (orders_of job r (job_netlist_ordered (undriven_rule_of w.undriven) n r.binding.bound has.ordered))),
  ),
)
