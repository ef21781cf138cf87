-- `check` is lawful.
use Rattle.std.proofs.Common.{◌++◌, ◌∷◌, ◌≡◌, Bool, Err, IsTrue, List, Ok, Option, [], arith, codes, inl, inr, refl, subst, suc, sym, zero, ℕ}
use Rattle.std.specs.Prelude.{Contains}
use Rattle.cert_writer.specs.Wrong.{IsTextOf}
use Rattle.cmd_program.proofs.Certified.{checks}
use Rattle.cmd_program.proofs.Inputs.{cert_sure, job_among, job_sure, later, own_in}
use Rattle.cmd_program.proofs.OneLines.{one_lines}
use Rattle.cmd_program.specs.Check.{CheckValues, Checks, GivesCheck, SaysCheck, check, check_answer, check_phases, certified_phases}
use Rattle.cmd_program.specs.Repair.{forces_in}
use Rattle.base_line.specs.Line.{Text}
use Rattle.cmd_phases.proofs.JobTexts.{JobFound, answers_one, job_found, no_answer, refused_by}
use Rattle.cmd_phases.proofs.OneCheck.{one_certificate, one_check}
use Rattle.cmd_phases.proofs.OneJob.{job_exact, one_compared}
use Rattle.cmd_phases.proofs.Statuses.{IsOfTexts, job_of_texts, of_cause, of_certificate, of_compare, of_long_certificate}
use Rattle.cmd_phases.proofs.Unrefused.{check_unrefused}
use Rattle.cmd_phases.specs.Certificate.{IsWrong}
use Rattle.cmd_phases.specs.Code.{text_limit}
use Rattle.cmd_phases.specs.Phases.{compared_then, parts}
use Rattle.cmd_phases.specs.Texts.{AreRefused, CheckFails, netlist_held, recording_held}
use Rattle.cmd_phases.specs.declared.cause.Refused.{Refused}
use Rattle.cmd_phases.specs.declared.cause.Refused.TheVariants.{Certificate, Compare, LongCertificate}
use Rattle.cmd_phases.specs.declared.parts.Parts.{Parts}
use Rattle.report_bits.specs.Report.{report_text}
use Rattle.base_run.proofs.Exact.{err_same, ok_err}
use Rattle.base_run.specs.Phases.{Answer, AreExact, ComesTo, text_held}
use Rattle.base_run.specs.Reading.{ReadsSurely}
use Rattle.cmd_set.proofs.Lawful.{IsLawful}
use Rattle.base_shelf.specs.Shelf.{Files}
use Rattle.cmd_words.proofs.OneJob.{one_count, one_job, some_same}
use Rattle.cmd_words.specs.Words.{job_reads}
use Rattle.cmd_program.proofs.OneLimits.{one_limits}

one_values : (option : Text → Option Text) (a b : CheckValues) → GivesCheck option a → GivesCheck option b → a.job.netlists ≡ b.job.netlists → a ≡ b
one_values option a b first second netlists =
    let job = one_job option a.job b.job first.job second.job netlists in
    let cert = some_same a.cert b.cert (option (codes "cert")) first.cert second.cert in
    let limits = one_limits option a.limits b.limits first.limits second.limits in
    let lines = one_lines (option (codes "report")) a.lines b.lines first.lines second.lines in
    λ i. record { job = job i; cert = cert i; limits = limits i; lines = lines i }

-- ---- what it finds

module _ (told : Bool) (files : Files) (t : IsTrue told) where
  check_says : (w : CheckValues) (answer : Answer) → JobFound told files w.job (compared_then (certified_phases w)) answer → SaysCheck files w answer
  check_says w answer found = go found.more
    where
      go : ComesTo told files (compared_then (certified_phases w) (parts found.n found.r)) (Ok answer) → SaysCheck files w answer
      go (inl (e, refused, is)) = absurd (no_answer answer (Compare e) is)
      go (inr (agreed, faultless, inl first)) = absurd (no_answer answer LongCertificate first.1)
      go (inr (agreed, faultless, inr (text, read, inl (wrong, is, same)))) = absurd (no_answer answer (Certificate wrong) same)
      go (inr (agreed, faultless, inr (text, read, inr (cert, stands, inl (cause, is, same))))) = absurd (no_answer answer cause same)
      go (inr (agreed, faultless, inr (text, read, inr (cert, stands, inr (shows, is, same))))) =
          let checked = checks w found.n found.r cert shows.wave is.conditions is.certified (netlist_held files w.job) (recording_held files w.job) (text_held files (w.cert ∷ []))
          found.job faultless (subst (λ (l : List ℕ). IsTextOf l cert) (read.is t) stands) in
          record {
            report = report_text shows.wave found.r.binding w.lines (forces_in shows.wave) ++ shows.listing;
            answer_is = answers_one answer (check_answer w (parts found.n found.r) shows) same;
            checks = subst (λ (l : List ℕ). Checks w (netlist_held files w.job) (recording_held files w.job) (text_held files (w.cert ∷ []))
                (report_text shows.wave found.r.binding w.lines (forces_in shows.wave) ++ l)) (sym is.listing_is) checked;
          }

-- ---- what it refuses

module _ (told : Bool) (files : Files) (t : IsTrue told) (job : Parts) where
  check_fails : (w : CheckValues) (cause : Refused) → ComesTo told files (compared_then (certified_phases w) job) (Err cause) → CheckFails w.limits (text_held files (w.cert ∷ [])) job cause
  check_fails w cause (inl (e, refused, is)) =
      subst (CheckFails w.limits (text_held files (w.cert ∷ [])) job) (sym (err_same {B = Answer} cause (Compare e) is)) (CheckFails.disagrees refused)
  check_fails w cause (inr (agreed, faultless, inl first)) =
      subst (CheckFails w.limits (text_held files (w.cert ∷ [])) job) (sym (err_same {B = Answer} cause LongCertificate first.1)) (CheckFails.too_long faultless (first.0 t))
  check_fails w cause (inr (agreed, faultless, inr (text, read, inl (wrong, is, same)))) =
      subst (CheckFails w.limits (text_held files (w.cert ∷ [])) job) (sym (err_same {B = Answer} cause (Certificate wrong) same))
      (CheckFails.wrong faultless (subst (λ (l : List ℕ). IsWrong l wrong) (read.is t) is))
  check_fails w cause (inr (agreed, faultless, inr (text, read, inr (cert, stands, inl (refused, is, same))))) =
      subst (CheckFails w.limits (text_held files (w.cert ∷ [])) job) (sym (err_same {B = Answer} cause refused same))
      (CheckFails.unaccepted faultless cert (subst (λ (l : List ℕ). IsTextOf l cert) (read.is t) stands) is)
  check_fails w cause (inr (agreed, faultless, inr (text, read, inr (cert, stands, inr (shows, is, same))))) = absurd (ok_err (check_answer w job shows) cause (sym same))

module _ (told : Bool) (files : Files) (t : IsTrue told) where
  check_refused : (w : CheckValues) (cause : Refused) → ComesTo told files (check_phases w) (Err cause)
      → AreRefused w.job (netlist_held files w.job) (recording_held files w.job) (CheckFails w.limits (text_held files (w.cert ∷ []))) cause
  check_refused w cause comes =
      refused_by told files t w.job (compared_then (certified_phases w)) (CheckFails w.limits (text_held files (w.cert ∷ []))) cause
      (λ n r. check_fails told files t (parts n r) w cause) comes

-- ---- its laws

check_sure : (w : CheckValues) (name : Text) → Contains (w.cert ∷ job_reads w.job) name → ReadsSurely name text_limit (check_phases w)
check_sure w name (zero, less, is) = cert_sure w.job (compared_then (certified_phases w)) name text_limit (λ job agreed. inl ((0, omega arith, is), omega arith))
check_sure w name (suc k, less, is) = job_sure w.job (compared_then (certified_phases w)) name text_limit (omega arith) (k, omega (arith, less), is)

check_exact : (w : CheckValues) → AreExact (check_phases w)
check_exact w = job_exact w.job (compared_then (certified_phases w))
    (λ n r orders. (one_compared n r orders, λ agreed faultless text. (one_certificate text, λ cert stands. (one_check w.limits (parts n r) cert, λ wave is. tt))))

pub lawful_check : IsLawful IsOfTexts check
lawful_check = record {
  ordered = refl;
  one = λ option v w first second files. one_values option v w first second files;
  exact = check_exact;
  causes = λ w. job_of_texts w.job (compared_then (certified_phases w))
      (λ n r. (
        of_compare n r,
        λ agreed faultless. (
          of_long_certificate,
          λ text. (
            (λ wrong is. of_certificate wrong),
            λ cert stands. ((λ cause is. of_cause (parts n r) is.refusal cause is.is), λ wave is. tt),
          ),
        ),
      ));
  says = λ told rest files w answer t line comes. check_says told files t w answer (job_found told files t w.job (compared_then (certified_phases w)) answer comes);
  fails = λ told files w cause t comes. check_refused told files t w cause comes;
  unrefused = λ told files w t is. λ cause comes.
      check_unrefused w.job (netlist_held files w.job) (recording_held files w.job) is.n is.r is.job w.limits
      (text_held files (w.cert ∷ [])) is.replay is.agrees is.fits is.certificate is.stands is.waveform is.accepted cause
      (check_refused told files t w cause comes);
  only = λ w. job_among (w.cert ∷ job_reads w.job) w.job (later w.cert (job_reads w.job)) (compared_then (certified_phases w)) (λ job agreed. (own_in w.cert (job_reads w.job), λ text cert shows. tt));
  sure = check_sure;
}
