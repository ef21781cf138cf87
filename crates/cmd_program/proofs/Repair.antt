-- `repair` is lawful.
use Rattle.std.proofs.Common.{◌≡◌, Bool, Err, IsTrue, List, Ok, Option, arith, codes, inl, inr, refl, subst, sym, ℕ}
use Rattle.std.specs.List.{AllByRecursion}
use Rattle.cmd_phases.specs.OfCert.{cert_in}
use Rattle.cert_writer.specs.Text.{cert_text}
use Rattle.cmd_program.proofs.Headlines.{Made, headline}
use Rattle.cmd_program.proofs.Inputs.{itself_in, job_among, job_sure}
use Rattle.cmd_program.proofs.OneLines.{one_lines}
use Rattle.cmd_program.specs.Headline.{SaysRepair, repair}
use Rattle.cmd_program.specs.Repair.{FailsAsRepair, GivesRepair, IsRepairable, RepairValues, forces_in, repair_answer, repair_phases, whole_report, walk_phases}
use Rattle.replay_code.specs.Written.{code_text}
use Rattle.base_line.specs.Line.{IsScopeName, Text}
use Rattle.base_line.specs.Tables.{Scope, needs}
use Rattle.recording_writer.specs.Text.{vcd_text}
use Rattle.cmd_phases.proofs.JobTexts.{JobFound, answers_one, job_found, job_passes, no_answer, refused_by}
use Rattle.cmd_phases.proofs.ObjectingOnce.{one_cause}
use Rattle.cmd_phases.proofs.OneJob.{job_exact, one_compared}
use Rattle.cmd_phases.proofs.Statuses.{IsOfTexts, job_of_texts, of_compare, of_objection}
use Rattle.cmd_phases.specs.Certificate.{form_of}
use Rattle.cmd_phases.specs.Phases.{compared_then, parts, scope_of}
use Rattle.cmd_phases.specs.Repair.{IsObjectionIn, recording_limit}
use Rattle.cmd_phases.specs.Texts.{AreRefused, HasJob, IsObjected, RepairFails, netlist_held, recording_held}
use Rattle.cmd_phases.specs.declared.cause.Objection.{Objection}
use Rattle.cmd_phases.specs.declared.cause.Refused.{Refused}
use Rattle.cmd_phases.specs.declared.cause.Refused.TheVariants.{Compare, Optimistic}
use Rattle.cmd_phases.specs.declared.parts.Parts.{Parts}
use Rattle.base_run.proofs.Exact.{err_same, never_refused, ok_err}
use Rattle.base_run.specs.Phases.{Answer, AreExact, ComesTo}
use Rattle.cmd_set.proofs.Lawful.{IsLawful}
use Rattle.cmd_set.proofs.Taken.{value_fits}
use Rattle.base_shelf.specs.Shelf.{Files}
use Rattle.cmd_words.proofs.OneJob.{one_count, one_form, one_job, some_same}
use Rattle.cmd_words.specs.Words.{JobValues, job_reads}
use Rattle.law_model.specs.declared.limits.Limits.{Limits}
use Rattle.cmd_program.proofs.OneLimits.{one_limits}

one_repair : (option : Text → Option Text) (a b : RepairValues) → GivesRepair option a → GivesRepair option b → a.job.netlists ≡ b.job.netlists → a ≡ b
one_repair option a b first second netlists =
    let job = one_job option a.job b.job first.job second.job netlists in
    let vcd = some_same a.vcd b.vcd (option (codes "vcd")) first.vcd second.vcd in
    let code = some_same a.code b.code (option (codes "code")) first.code second.code in
    let cert = some_same a.cert b.cert (option (codes "cert")) first.cert second.cert in
    let limits = one_limits option a.limits b.limits first.limits second.limits in
    let form = one_form (option (codes "form")) a.form b.form first.form second.form in
    let lines = one_lines (option (codes "report")) a.lines b.lines first.lines second.lines in
    λ i. record { job = job i; vcd = vcd i; code = code i; cert = cert i; form = form i; limits = limits i; lines = lines i }

-- ---- what it finds

module _ (told : Bool) (files : Files) (t : IsTrue told) where
  repair_says : (w : RepairValues) (answer : Answer) → AllByRecursion IsScopeName (scope_of w.job)
      → JobFound told files w.job (compared_then (walk_phases w)) answer → SaysRepair files w answer
  repair_says w answer named found = go found.more
    where
      go : ComesTo told files (compared_then (walk_phases w) (parts found.n found.r)) (Ok answer) → SaysRepair files w answer
      go (inl (e, refused, is)) = absurd (no_answer answer (Compare e) is)
      go (inr (agreed, faultless, inl (o, refused, is))) = absurd (no_answer answer (Optimistic o) is)
      go (inr (agreed, faultless, inr (there, is, inl (none, never, same)))) = absurd never
      go (inr (agreed, faultless, inr (there, is, inr (conditions, are, same)))) =
          let made : Made w (netlist_held files w.job) (recording_held files w.job) = record { n = found.n; r = found.r; job = found.job; faultless = faultless; found = there; is = is } in
          record {
            vcd = vcd_text found.n.design found.r.binding found.r.stim there.shown;
            code = code_text found.n.design found.r.stim (scope_of w.job) (forces_in there.wave);
            cert = cert_text (cert_in (form_of w.form) there.wave conditions);
            report = whole_report there.wave found.r.binding w.lines conditions;
            answer_is = answers_one answer (repair_answer w found.n found.r there conditions) same;
            headline = headline w (netlist_held files w.job) (recording_held files w.job) made named conditions are;
          }

-- ---- what it refuses

module _ (told : Bool) (files : Files) (t : IsTrue told) (job : Parts) where
  repair_fails : (w : RepairValues) (cause : Refused) → ComesTo told files (compared_then (walk_phases w) job) (Err cause) → RepairFails w.limits job cause
  repair_fails w cause (inl (e, refused, is)) = subst (RepairFails w.limits job) (sym (err_same {B = Answer} cause (Compare e) is)) (RepairFails.disagrees refused)
  repair_fails w cause (inr (agreed, faultless, inl (o, refused, is))) =
      subst (RepairFails w.limits job) (sym (err_same {B = Answer} cause (Optimistic o) is)) (RepairFails.objected record { faultless = faultless; objects = refused })
  repair_fails w cause (inr (agreed, faultless, inr (found, is, inl (none, never, same)))) = absurd never
  repair_fails w cause (inr (agreed, faultless, inr (found, is, inr (conditions, are, same)))) =
      absurd (ok_err (repair_answer w job.netlist job.recorded found conditions) cause (sym same))

-- A place that a repair finds otherwise is of a job that agrees.
objected_of : (limits : Limits) (job : Parts) (o : Objection) → RepairFails limits job (Optimistic o) → IsObjected limits o job.netlist job.recorded
objected_of limits job o (RepairFails.objected is) = is

pub job_of : (w : JobValues) (netlist recording : List ℕ) (limits : Limits) (o : Objection) → AreRefused w netlist recording (RepairFails limits) (Optimistic o)
    → HasJob w netlist recording (IsObjected limits o)
job_of w netlist recording limits o (AreRefused.job_fails has) =
    record { n = has.n; r = has.r; job = has.job; holds = objected_of limits (parts has.n has.r) o has.holds }

-- What is refused as a repair is, is refused so; and a place that is found otherwise is the one.
pub as_repair : (w : JobValues) (limits : Limits) (files : Files) (cause : Refused) → AreRefused w (netlist_held files w) (recording_held files w) (RepairFails limits) cause
    → FailsAsRepair w limits files cause
as_repair w limits files cause refused = record {
  refused = refused;
  one = one_cause w (netlist_held files w) (recording_held files w) limits cause
      (λ o is. job_of w (netlist_held files w) (recording_held files w) limits o
      (subst (AreRefused w (netlist_held files w) (recording_held files w) (RepairFails limits)) is refused));
}

pub not_objected : (w : JobValues) (limits : Limits) (netlist recording : List ℕ) (is : IsRepairable w limits netlist recording) (o : Objection)
    → IsObjectionIn limits is.n is.r.stim o → ⊥
not_objected w limits netlist recording is o objects = is.none objects.history objects.objects.otherwise objects.replay objects.objects.objects

-- ---- its laws

repair_exact : (w : RepairValues) → AreExact (repair_phases w)
repair_exact w = job_exact w.job (compared_then (walk_phases w))
    (λ n r orders. (one_compared n r orders, λ agreed faultless found is conditions are. tt))

pub lawful_repair : IsLawful IsOfTexts repair
lawful_repair = record {
  ordered = refl;
  one = λ option v w first second files. one_repair option v w first second files;
  exact = repair_exact;
  causes = λ w. job_of_texts w.job (compared_then (walk_phases w))
      (λ n r. (
        of_compare n r,
        λ agreed faultless. (
          (λ o objects. of_objection o),
          λ found is. ((λ none never. absurd never), λ conditions are. tt),
        ),
      ));
  says = λ told rest files w answer t line comes. repair_says told files t w answer
      (value_fits repair rest w line (codes "scope") w.job.scope line.gives.job.scope (needs (codes "scope") Scope) refl)
      (job_found told files t w.job (compared_then (walk_phases w)) answer comes);
  fails = λ told files w cause t comes. as_repair w.job w.limits files cause
      (refused_by told files t w.job (compared_then (walk_phases w)) (RepairFails w.limits) cause (λ n r. repair_fails told files t (parts n r) w cause) comes);
  unrefused = λ told files w t is. (let objected = not_objected w.job w.limits (netlist_held files w.job) (recording_held files w.job) is in
      never_refused told files (repair_phases w) t (repair_exact w) (job_passes files w.job (compared_then (walk_phases w)) is.n is.r is.job
      (tt, is.faultless, (objected, λ found there. ((λ none never. never), λ conditions are. tt)))));
  only = λ w. job_among (job_reads w.job) w.job (itself_in (job_reads w.job)) (compared_then (walk_phases w)) (λ job agreed found conditions. tt);
  sure = λ w name named. job_sure w.job (compared_then (walk_phases w)) name recording_limit (omega arith) named;
}
