-- `upgrade` is lawful.
use Rattle.std.proofs.Common.{◌∙◌, ◌∷◌, ◌≡◌, Bool, Err, IsTrue, List, Ok, Option, [], ap, arith, codes, inl, inr, refl, subst, suc, sym, zero, ℕ}
use Rattle.std.specs.Prelude.{Contains}
use Rattle.cmd_phases.specs.OfCert.{cert_in}
use Rattle.cert_writer.specs.Text.{cert_text}
use Rattle.cert_writer.specs.Wrong.{IsTextOf}
use Rattle.cert_writer.specs.declared.cert.Form.TheVariants.{Turns}
use Rattle.cmd_program.proofs.Certified.{upgrades}
use Rattle.cmd_program.proofs.Inputs.{cert_sure, job_among, job_sure, later, own_in}
use Rattle.cmd_program.proofs.OneLines.{one_lines}
use Rattle.cmd_program.specs.Repair.{whole_report}
use Rattle.cmd_program.specs.Upgrade.{GivesUpgrade, SaysUpgrade, UpgradeValues, upgrade, upgrade_answer, upgrade_phases, certified_upgrade}
use Rattle.base_line.specs.Line.{Text}
use Rattle.cmd_phases.proofs.JobTexts.{JobFound, answers_one, job_found, no_answer, refused_by}
use Rattle.cmd_phases.proofs.OneCheck.{one_certificate, one_check, one_form}
use Rattle.cmd_phases.proofs.OneJob.{job_exact, one_compared}
use Rattle.cmd_phases.proofs.Statuses.{IsOfTexts, job_of_texts, of_cause, of_certificate, of_compare, of_long_certificate}
use Rattle.cmd_phases.proofs.Unrefused.{upgrade_unrefused}
use Rattle.cmd_phases.specs.Certificate.{IsWrong}
use Rattle.cmd_phases.specs.Code.{text_limit}
use Rattle.cmd_phases.specs.Phases.{compared_then, parts}
use Rattle.cmd_phases.specs.Texts.{AreRefused, UpgradeFails, netlist_held, recording_held}
use Rattle.cmd_phases.specs.declared.cause.Refused.{Refused}
use Rattle.cmd_phases.specs.declared.cause.Refused.TheVariants.{Certificate, Compare, LongCertificate}
use Rattle.cmd_phases.specs.declared.cause.Uncertified.{Uncertified}
use Rattle.cmd_phases.specs.declared.parts.Parts.{Parts}
use Rattle.base_run.proofs.Exact.{err_same, ok_err}
use Rattle.base_run.specs.Phases.{Answer, AreExact, ComesTo, text_held}
use Rattle.base_run.specs.Reading.{ReadsSurely}
use Rattle.cmd_set.proofs.Lawful.{IsLawful}
use Rattle.base_shelf.specs.Shelf.{Files}
use Rattle.cmd_words.proofs.OneJob.{one_count, one_job, some_same}
use Rattle.cmd_words.specs.Words.{job_reads}
use Rattle.cmd_program.proofs.OneLimits.{one_limits}

one_upgrade : (option : Text → Option Text) (a b : UpgradeValues) → GivesUpgrade option a → GivesUpgrade option b → a.job.netlists ≡ b.job.netlists → a ≡ b
one_upgrade option a b first second netlists =
    let job = one_job option a.job b.job first.job second.job netlists in
    let cert = some_same a.cert b.cert (option (codes "cert")) first.cert second.cert in
    let to = some_same a.to b.to (option (codes "to")) first.to second.to in
    let limits = one_limits option a.limits b.limits first.limits second.limits in
    let lines = one_lines (option (codes "report")) a.lines b.lines first.lines second.lines in
    λ i. record { job = job i; cert = cert i; to = to i; limits = limits i; lines = lines i }

-- ---- what it finds

module _ (told : Bool) (files : Files) (t : IsTrue told) where
  upgrade_says : (w : UpgradeValues) (answer : Answer) → JobFound told files w.job (compared_then (certified_upgrade w)) answer → SaysUpgrade files w answer
  upgrade_says w answer found = go found.more
    where
      go : ComesTo told files (compared_then (certified_upgrade w) (parts found.n found.r)) (Ok answer) → SaysUpgrade files w answer
      go (inl (e, refused, is)) = absurd (no_answer answer (Compare e) is)
      go (inr (agreed, faultless, inl first)) = absurd (no_answer answer LongCertificate first.1)
      go (inr (agreed, faultless, inr (text, read, inl (wrong, is, same)))) = absurd (no_answer answer (Certificate wrong) same)
      go (inr (agreed, faultless, inr (text, read, inr (cert, stands, inl (wrong, is, same))))) = absurd (no_answer answer (Certificate wrong) same)
      go (inr (agreed, faultless, inr (text, read, inr (cert, stands, inr (plain, form, inl (cause, is, same)))))) = absurd (no_answer answer cause same)
      go (inr (agreed, faultless, inr (text, read, inr (cert, stands, inr (plain, form, inr (shows, is, inl (none, never, same))))))) = absurd never
      go (inr (agreed, faultless, inr (text, read, inr (cert, stands, inr (plain, form, inr (shows, is, inr (conditions, are, same))))))) =
          record {
            upgraded = cert_text (cert_in Turns shows.wave conditions);
            report = whole_report shows.wave found.r.binding w.lines conditions;
            answer_is = answers_one answer (upgrade_answer w (parts found.n found.r) shows.wave conditions) same;
            upgrades = upgrades w found.n found.r cert shows.wave is.conditions is.certified conditions are (netlist_held files w.job) (recording_held files w.job)
                (text_held files (w.cert ∷ [])) found.job faultless (subst (λ (l : List ℕ). IsTextOf l cert) (read.is t) stands) form;
          }

-- ---- what it refuses

module _ (told : Bool) (files : Files) (t : IsTrue told) (job : Parts) where
  upgrade_fails : (w : UpgradeValues) (cause : Refused) → ComesTo told files (compared_then (certified_upgrade w) job) (Err cause)
      → UpgradeFails w.limits (text_held files (w.cert ∷ [])) job cause
  upgrade_fails w cause (inl (e, refused, is)) =
      subst (UpgradeFails w.limits (text_held files (w.cert ∷ [])) job) (sym (err_same {B = Answer} cause (Compare e) is)) (UpgradeFails.disagrees refused)
  upgrade_fails w cause (inr (agreed, faultless, inl first)) =
      subst (UpgradeFails w.limits (text_held files (w.cert ∷ [])) job) (sym (err_same {B = Answer} cause LongCertificate first.1)) (UpgradeFails.too_long faultless (first.0 t))
  upgrade_fails w cause (inr (agreed, faultless, inr (text, read, inl (wrong, is, same)))) =
      subst (UpgradeFails w.limits (text_held files (w.cert ∷ [])) job) (sym (err_same {B = Answer} cause (Certificate wrong) same))
      (UpgradeFails.wrong faultless (subst (λ (l : List ℕ). IsWrong l wrong) (read.is t) is))
  upgrade_fails w cause (inr (agreed, faultless, inr (text, read, inr (cert, stands, inl (wrong, is, same))))) =
      subst (UpgradeFails w.limits (text_held files (w.cert ∷ [])) job)
      (sym (err_same {B = Answer} cause (Certificate wrong) same ∙ ap (λ (u : Uncertified). Certificate u) is.1))
      (UpgradeFails.turned faultless cert (subst (λ (l : List ℕ). IsTextOf l cert) (read.is t) stands) is.0)
  upgrade_fails w cause (inr (agreed, faultless, inr (text, read, inr (cert, stands, inr (plain, form, inl (refused, is, same)))))) =
      subst (UpgradeFails w.limits (text_held files (w.cert ∷ [])) job) (sym (err_same {B = Answer} cause refused same))
      (UpgradeFails.unaccepted faultless cert (subst (λ (l : List ℕ). IsTextOf l cert) (read.is t) stands) form is)
  upgrade_fails w cause (inr (agreed, faultless, inr (text, read, inr (cert, stands, inr (plain, form, inr (shows, is, inl (none, never, same))))))) = absurd never
  upgrade_fails w cause (inr (agreed, faultless, inr (text, read, inr (cert, stands, inr (plain, form, inr (shows, is, inr (conditions, are, same))))))) =
      absurd (ok_err (upgrade_answer w job shows.wave conditions) cause (sym same))

module _ (told : Bool) (files : Files) (t : IsTrue told) where
  upgrade_refused : (w : UpgradeValues) (cause : Refused) → ComesTo told files (upgrade_phases w) (Err cause)
      → AreRefused w.job (netlist_held files w.job) (recording_held files w.job) (UpgradeFails w.limits (text_held files (w.cert ∷ []))) cause
  upgrade_refused w cause comes =
      refused_by told files t w.job (compared_then (certified_upgrade w)) (UpgradeFails w.limits (text_held files (w.cert ∷ []))) cause
      (λ n r. upgrade_fails told files t (parts n r) w cause) comes

-- ---- its laws

upgrade_sure : (w : UpgradeValues) (name : Text) → Contains (w.cert ∷ job_reads w.job) name → ReadsSurely name text_limit (upgrade_phases w)
upgrade_sure w name (zero, less, is) = cert_sure w.job (compared_then (certified_upgrade w)) name text_limit (λ job agreed. inl ((0, omega arith, is), omega arith))
upgrade_sure w name (suc k, less, is) = job_sure w.job (compared_then (certified_upgrade w)) name text_limit (omega arith) (k, omega (arith, less), is)

upgrade_exact : (w : UpgradeValues) → AreExact (upgrade_phases w)
upgrade_exact w = job_exact w.job (compared_then (certified_upgrade w))
    (λ n r orders. (
      one_compared n r orders,
      λ agreed faultless text. (
        one_certificate text,
        λ cert stands. (one_form cert, λ plain form. (one_check w.limits (parts n r) cert, λ shows is conditions are. tt)),
      ),
    ))

pub lawful_upgrade : IsLawful IsOfTexts upgrade
lawful_upgrade = record {
  ordered = refl;
  one = λ option v w first second files. one_upgrade option v w first second files;
  exact = upgrade_exact;
  causes = λ w. job_of_texts w.job (compared_then (certified_upgrade w))
      (λ n r. (
        of_compare n r,
        λ agreed faultless. (
          of_long_certificate,
          λ text. (
            (λ wrong is. of_certificate wrong),
            λ cert stands. (
              (λ wrong is. of_certificate wrong),
              λ plain form. (
                (λ cause is. of_cause (parts n r) is.refusal cause is.is),
                λ shows is. ((λ none never. absurd never), λ conditions are. tt),
              ),
            ),
          ),
        ),
      ));
  says = λ told rest files w answer t line comes. upgrade_says told files t w answer (job_found told files t w.job (compared_then (certified_upgrade w)) answer comes);
  fails = λ told files w cause t comes. upgrade_refused told files t w cause comes;
  unrefused = λ told files w t is. λ cause comes.
      upgrade_unrefused w.job (netlist_held files w.job) (recording_held files w.job) is.n is.r is.job w.limits
      (text_held files (w.cert ∷ [])) is.replay is.agrees is.fits is.certificate is.stands is.waveform is.accepted is.form_is cause
      (upgrade_refused told files t w cause comes);
  only = λ w. job_among (w.cert ∷ job_reads w.job) w.job (later w.cert (job_reads w.job)) (compared_then (certified_upgrade w)) (λ job agreed. (own_in w.cert (job_reads w.job), λ text cert plain shows conditions. tt));
  sure = upgrade_sure;
}
