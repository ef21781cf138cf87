-- `audit` is lawful.
use Rattle.std.proofs.Common.{◌≡◌, Bool, Err, IsTrue, Ok, Option, arith, codes, inl, inr, refl, subst, sym}
use Rattle.cmd_program.proofs.Auditing.{audits}
use Rattle.cmd_program.proofs.Inputs.{itself_in, job_among, job_sure}
use Rattle.cmd_program.specs.Audit.{AuditFails, AuditValues, GivesAudit, SaysAudit, audit, audit_phases, walk_audited}
use Rattle.base_line.specs.Line.{Text}
use Rattle.cmd_phases.proofs.JobTexts.{JobFound, answers_one, job_found, job_passes, no_answer, refused_by}
use Rattle.cmd_phases.proofs.OneJob.{job_exact, one_compared}
use Rattle.cmd_phases.proofs.Statuses.{IsOfTexts, job_of_texts, of_compare}
use Rattle.cmd_phases.specs.Phases.{compared_then, parts}
use Rattle.cmd_phases.specs.Repair.{recording_limit}
use Rattle.cmd_phases.specs.Texts.{netlist_held, recording_held}
use Rattle.cmd_phases.specs.declared.cause.Refused.{Refused}
use Rattle.cmd_phases.specs.declared.cause.Refused.TheVariants.{Compare}
use Rattle.cmd_phases.specs.declared.parts.Parts.{Parts}
use Rattle.base_run.proofs.Exact.{err_same, never_refused, ok_err}
use Rattle.base_run.specs.Phases.{Answer, AreExact, ComesTo}
use Rattle.cmd_set.proofs.Lawful.{IsLawful}
use Rattle.base_shelf.specs.Shelf.{Files}
use Rattle.cmd_words.proofs.OneJob.{one_count, one_job}
use Rattle.cmd_words.specs.Words.{job_reads}
use Rattle.cmd_program.proofs.OneLimits.{one_limits}

one_audit : (option : Text → Option Text) (a b : AuditValues) → GivesAudit option a → GivesAudit option b → a.job.netlists ≡ b.job.netlists → a ≡ b
one_audit option a b first second netlists =
    let job = one_job option a.job b.job first.job second.job netlists in
    let limits = one_limits option a.limits b.limits first.limits second.limits in
    λ i. record { job = job i; limits = limits i }

-- ---- what it finds

module _ (told : Bool) (files : Files) (t : IsTrue told) where
  audit_says : (w : AuditValues) (answer : Answer) → JobFound told files w.job (compared_then (walk_audited w)) answer
      → SaysAudit files w answer
  audit_says w answer found = go found.more
    where
      go : ComesTo told files (compared_then (walk_audited w) (parts found.n found.r)) (Ok answer) → SaysAudit files w answer
      go (inl (e, refused, is)) = absurd (no_answer answer (Compare e) is)
      go (inr (agreed, faultless, inl (none, never, is))) = absurd never
      go (inr (agreed, faultless, inr (listed, lists, same))) =
          subst (SaysAudit files w) (sym (answers_one answer listed same))
          (audits w (netlist_held files w.job) (recording_held files w.job) listed found.n found.r found.job faultless lists)

-- ---- what it refuses

audit_fails : (told : Bool) (files : Files) (job : Parts) (w : AuditValues) (cause : Refused) → ComesTo told files (compared_then (walk_audited w) job) (Err cause)
    → AuditFails job cause
audit_fails told files job w cause (inl (e, refused, is)) =
    subst (AuditFails job) (sym (err_same {B = Answer} cause (Compare e) is)) (AuditFails.disagrees refused)
audit_fails told files job w cause (inr (agreed, faultless, inl (none, never, same))) = absurd never
audit_fails told files job w cause (inr (agreed, faultless, inr (answer, lists, same))) = absurd (ok_err answer cause (sym same))

-- ---- its laws

audit_exact : (w : AuditValues) → AreExact (audit_phases w)
audit_exact w = job_exact w.job (compared_then (walk_audited w))
    (λ n r orders. (one_compared n r orders, λ agreed faultless answer lists. tt))

pub lawful_audit : IsLawful IsOfTexts audit
lawful_audit = record {
  ordered = refl;
  one = λ option v w first second files. one_audit option v w first second files;
  exact = audit_exact;
  causes = λ w. job_of_texts w.job (compared_then (walk_audited w))
      (λ n r. (of_compare n r, λ agreed faultless. ((λ none never. absurd never), λ answer lists. tt)));
  says = λ told rest files w answer t line comes. audit_says told files t w answer (job_found told files t w.job (compared_then (walk_audited w)) answer comes);
  fails = λ told files w cause t comes. refused_by told files t w.job (compared_then (walk_audited w)) AuditFails cause (λ n r. audit_fails told files (parts n r) w cause) comes;
  unrefused = λ told files w t is. never_refused told files (audit_phases w) t (audit_exact w) (job_passes files w.job (compared_then (walk_audited w)) is.n is.r is.job
      (tt, is.faultless, ((λ none never. never), λ answer lists. tt)));
  only = λ w. job_among (job_reads w.job) w.job (itself_in (job_reads w.job)) (compared_then (walk_audited w)) (λ job agreed answer. tt);
  sure = λ w name named. job_sure w.job (compared_then (walk_audited w)) name recording_limit (omega arith) named;
}
