-- Texts that stand for a job that agrees, with a certificate that is accepted, are refused for nothing.
use Rattle.std.proofs.Common.{◌≡◌, ◌∙◌, ◌≤◌, ℕ, List, length, Result, Ok, Err, sym, ap, subst, arith}
use Rattle.cert_check.specs.Checked.{IsAccepted}
use Rattle.cert_check.proofs.OneText.{one_text}
use Rattle.cert_writer.specs.Wrong.{IsTextOf}
use Rattle.cert_writer.specs.declared.cert.Cert.{Cert}
use Rattle.cert_writer.specs.declared.cert.Form.TheVariants.{Lines}
use Rattle.design_circuit.specs.History.{HistoryView}
use Rattle.design_circuit.specs.Job.{driver_in}
use Rattle.design_circuit.specs.Order.{IsOrder}
use Rattle.design_circuit.specs.declared.waveform.Written.{Written}
use Rattle.cmd_job.specs.Compared.{IsRefusedReplay}
use Rattle.cmd_job.specs.Recorded.{RecordingComes, job_netlist}
use Rattle.cmd_job.specs.declared.compare_refusal.CompareRefusal.{CompareRefusal}
use Rattle.cmd_job.specs.declared.netlist.Netlist.{Netlist as ANetlist}
use Rattle.cmd_job.specs.declared.recorded.Recorded.{Recorded}
use Rattle.cmd_job.specs.declared.recording_refusal.RecordingRefusal.{RecordingRefusal}
use Rattle.cmd_job.proofs.JobNetlists.{job_netlist_ordered}
use Rattle.cmd_job.proofs.OneNetlist.{one_outcome}
use Rattle.base_run.proofs.Exact.{ok_err, ok_same}
use Rattle.cmd_words.specs.Words.{JobValues}
use Rattle.cmd_phases.specs.Certificate.{IsUncertified, IsWrong}
use Rattle.cmd_phases.specs.Code.{text_limit}
use Rattle.cmd_phases.specs.Phases.{parts, scope_of}
use Rattle.cmd_phases.specs.Repair.{AgreesThroughout, beginning, rules_of, undriven_rule_of}
use Rattle.cmd_phases.specs.Texts.{AreRefused, CheckFails, HasNetlist, IsJob, UpgradeFails}
use Rattle.cmd_phases.specs.declared.cause.Refused.{Refused}
use Rattle.cmd_phases.specs.declared.cause.Uncertified.{Uncertified}
use Rattle.cmd_phases.specs.declared.parts.Parts.{Parts}
use Rattle.cmd_phases.proofs.OneCheck.{accepted_certified, no_form, stands_unwrong}
use Rattle.cmd_phases.proofs.OneJob.{one_compared, one_recorded, orders_of}
use Rattle.law_model.specs.declared.limits.Limits.{Limits}

module _ (w : JobValues) (netlist recording : List ℕ) (n : ANetlist) (r : Recorded) (is : IsJob w netlist recording n r) where
  -- ---- the texts stand for no other job, and are refused for nothing but what is refused of it

  one_netlist : (m : ANetlist) → HasNetlist w netlist m → m ≡ is.elaborated
  one_netlist m has = ok_same m is.elaborated (one_outcome netlist w.top (Ok m) (Ok is.elaborated) has.is is.netlist_is.is)

  comes_there : (m : ANetlist) → HasNetlist w netlist m → (result : Result Recorded RecordingRefusal)
      → RecordingComes recording m.design (scope_of w) w.rounds w.places (rules_of w) result → result ≡ Ok r
  comes_there m has result comes =
      one_recorded recording is.elaborated.design (scope_of w) w.rounds w.places (rules_of w) result (Ok r)
      (subst (λ (x : ANetlist). RecordingComes recording x.design (scope_of w) w.rounds w.places (rules_of w) result)
      (one_netlist m has) comes) is.is

  job_unrefused : (After : Parts → Refused → Type 0) (cause : Refused) → (After (parts n r) cause → ⊥)
      → AreRefused w netlist recording After cause → ⊥
  job_unrefused After cause never (AreRefused.long_netlist long) =
      let fits = is.netlist_is.fits in absurd (omega (arith, long, fits))
  job_unrefused After cause never (AreRefused.netlist_fails {e} refused) =
      ok_err is.elaborated e (one_outcome netlist w.top (Ok is.elaborated) (Err e) is.netlist_is.is refused.is)
  job_unrefused After cause never (AreRefused.long_recording too) =
      let long = too.long in let fits = is.fits in absurd (omega (arith, long, fits))
  job_unrefused After cause never (AreRefused.recording_fails {e} refused) =
      ok_err r e (sym (comes_there refused.n refused.netlist_is (Err e) refused.is))
  job_unrefused After cause never (AreRefused.job_fails has) =
      let elaborated = one_netlist has.job.elaborated has.job.netlist_is in
      let recorded = ok_same has.r r (comes_there has.job.elaborated has.job.netlist_is (Ok has.r) has.job.is) in
      let nets : has.n ≡ n = has.job.job_is
      ∙ ap (λ (x : ANetlist). job_netlist (undriven_rule_of w.undriven) x has.r.binding.bound) elaborated
      ∙ ap (λ (x : Recorded). job_netlist (undriven_rule_of w.undriven) is.elaborated x.binding.bound) recorded
      ∙ sym is.job_is in
      never (subst (λ (x : Recorded). After (parts n x) cause) recorded
      (subst (λ (x : ANetlist). After (parts x has.r) cause) nets has.holds))

  ordered : IsOrder (driver_in n.design) (length n.design.nets) n.order
  ordered = subst (λ (x : ANetlist). IsOrder (driver_in x.design) (length x.design.nets) x.order) (sym is.job_is)
      (job_netlist_ordered (undriven_rule_of w.undriven) is.elaborated r.binding.bound is.netlist_is.is.ordered)

  -- ---- a certificate that is accepted

  module _ (limits : Limits) (text : List ℕ) (history : HistoryView) (agrees : AgreesThroughout n r history)
      (fits : length text ≤ text_limit) (cert : Cert) (stands : IsTextOf text cert) (waveform : List Written)
      (accepted : IsAccepted (beginning limits n r history) cert waveform) where
    not_compared : (e : CompareRefusal) → IsRefusedReplay n r e → ⊥
    not_compared e refused =
        ok_err tt e (one_compared n r (orders_of n r ordered) (Ok tt) (Err e) agrees.faultless refused)

    not_wrong : {cause : Uncertified} → IsWrong text cause → ⊥
    not_wrong {cause} wrong = stands_unwrong text cert wrong.at stands wrong.first

    not_refused : (other : Cert) (cause : Refused) → IsTextOf text other
        → IsUncertified limits (parts n r) other cause → ⊥
    not_refused other cause again refused =
        accepted_certified limits (parts n r) cert history waveform cause agrees.replay accepted
        (subst (λ (c : Cert). IsUncertified limits (parts n r) c cause) (one_text text other cert again stands) refused)

    check_passes : (cause : Refused) → CheckFails limits text (parts n r) cause → ⊥
    check_passes cause (CheckFails.disagrees {e} refused) = not_compared e refused
    check_passes cause (CheckFails.too_long agreed long) = absurd (omega (arith, long, fits))
    check_passes cause (CheckFails.wrong agreed wrong) = not_wrong wrong
    check_passes cause (CheckFails.unaccepted agreed other again refused) = not_refused other cause again refused

    pub check_unrefused : (cause : Refused) → AreRefused w netlist recording (CheckFails limits text) cause → ⊥
    check_unrefused cause refused = job_unrefused (CheckFails limits text) cause (check_passes cause) refused

    upgrade_passes : cert.form ≡ Lines → (cause : Refused) → UpgradeFails limits text (parts n r) cause → ⊥
    upgrade_passes form cause (UpgradeFails.disagrees {e} refused) = not_compared e refused
    upgrade_passes form cause (UpgradeFails.too_long agreed long) = absurd (omega (arith, long, fits))
    upgrade_passes form cause (UpgradeFails.wrong agreed wrong) = not_wrong wrong
    upgrade_passes form cause (UpgradeFails.turned agreed other again turned) =
        no_form (sym form ∙ ap (λ (c : Cert). c.form) (one_text text cert other stands again) ∙ turned)
    upgrade_passes form cause (UpgradeFails.unaccepted agreed other again plain refused) =
        not_refused other cause again refused

    pub upgrade_unrefused : cert.form ≡ Lines → (cause : Refused)
        → AreRefused w netlist recording (UpgradeFails limits text) cause → ⊥
    upgrade_unrefused form cause refused =
        job_unrefused (UpgradeFails limits text) cause (upgrade_passes form cause) refused
