-- `fix` is lawful.
use Rattle.std.proofs.Common.{◌∙◌, ◌≡◌, Bool, Err, IsTrue, Ok, Option, ap, arith, codes, inl, inr, length, refl, subst, sym, ℕ}
use Rattle.std.specs.List.{AllByRecursion}
use Rattle.cmd_program.proofs.Headlines.{wave_is}
use Rattle.cmd_program.proofs.Inputs.{itself_in, job_among, job_sure}
use Rattle.cmd_program.specs.Fix.{FixValues, GivesFix, HasWave, SaysFix, fix, fix_answer, fix_phases, wave_under, set_phases}
use Rattle.design_circuit.specs.declared.stim.Stim.{Stim}
use Rattle.cmd_job.specs.declared.netlist.Netlist.{Netlist as ANetlist}
use Rattle.base_line.specs.Line.{IsSet, Text, pieces_of}
use Rattle.base_line.specs.Tables.{Sets, needs}
use Rattle.cmd_phases.specs.OfListing.{fix_text}
use Rattle.cmd_phases.proofs.JobTexts.{JobFound, answers_one, job_found, job_passes, no_answer, refused_by}
use Rattle.cmd_phases.proofs.ObjectingOnce.{one_fix_cause}
use Rattle.cmd_phases.proofs.OneJob.{job_exact, one_compared}
use Rattle.cmd_phases.proofs.OneStart.{one_started}
use Rattle.cmd_phases.proofs.SetTexts.{sets_text}
use Rattle.cmd_phases.proofs.Statuses.{IsOfTexts, job_of_texts, of_compare, of_objection, of_start}
use Rattle.cmd_phases.specs.Phases.{compared_then, parts}
use Rattle.cmd_phases.specs.Repair.{IsWalked, Walked, recording_limit}
use Rattle.cmd_phases.specs.Sets.{sets_of}
use Rattle.cmd_phases.specs.Texts.{FixFails, netlist_held, recording_held}
use Rattle.cmd_phases.specs.declared.cause.Refused.{Refused}
use Rattle.cmd_phases.specs.declared.cause.Refused.TheVariants.{Compare, Optimistic, Start}
use Rattle.cmd_phases.specs.declared.parts.Parts.{Parts}
use Rattle.base_run.proofs.Exact.{err_same, never_refused, ok_err}
use Rattle.base_run.specs.Phases.{Answer, AreExact, ComesTo}
use Rattle.cmd_set.proofs.Lawful.{IsLawful}
use Rattle.cmd_set.proofs.Taken.{value_fits}
use Rattle.base_shelf.specs.Shelf.{Files}
use Rattle.wave_proved.specs.Contents.{Contents, IsFinished, IsWave}
use Rattle.cmd_words.proofs.OneJob.{one_count, one_job, some_same}
use Rattle.cmd_words.specs.Words.{job_reads}
use Rattle.law_model.specs.declared.limits.Limits.{Limits}
use Rattle.cmd_program.proofs.OneLimits.{one_limits}

one_fix : (option : Text → Option Text) (a b : FixValues) → GivesFix option a → GivesFix option b → a.job.netlists ≡ b.job.netlists → a ≡ b
one_fix option a b first second netlists =
    let job = one_job option a.job b.job first.job second.job netlists in
    let sets = some_same a.sets b.sets (option (codes "set")) first.sets second.sets in
    let limits = one_limits option a.limits b.limits first.limits second.limits in
    λ i. record { job = job i; sets = sets i; limits = limits i }

-- ---- a walk's wave

module _ (limits : Limits) (n : ANetlist) (stim : Stim) (walked : Walked) (is : IsWalked limits n stim walked) where
  wave_same : walked.wave ≡ wave_under n stim walked.history limits walked.wave.written walked.wave.lines
  wave_same =
      let of_job = is.repaired.of_job in
      wave_is walked.wave n.design n.order stim walked.history limits of_job.design of_job.order of_job.stim of_job.history of_job.limits

  abbrev has_wave : HasWave limits n stim
  has_wave = record {
    history = walked.history;
    replay = is.replay;
    waveform = walked.wave.written;
    lines = walked.wave.lines;
    whole = subst IsFinished wave_same is.repaired.finished;
    holds = (subst IsWave wave_same is.repaired.sound).holds;
  }

-- ---- what it finds

module _ (told : Bool) (files : Files) (t : IsTrue told) where
  fix_says : (w : FixValues) (answer : Answer) → AllByRecursion IsSet (pieces_of 44 w.sets)
      → JobFound told files w.job (compared_then (set_phases w)) answer → SaysFix files w answer
  fix_says w answer sets found = go found.more
    where
      go : ComesTo told files (compared_then (set_phases w) (parts found.n found.r)) (Ok answer) → SaysFix files w answer
      go (inl (e, refused, is)) = absurd (no_answer answer (Compare e) is)
      go (inr (agreed, faultless, inl (fault, first, is))) = absurd (no_answer answer (Start fault) is)
      go (inr (agreed, faultless, inr (stim, started, inl (o, objects, is)))) = absurd (no_answer answer (Optimistic o) is)
      go (inr (agreed, faultless, inr (stim, started, inr (before, walked, inl (o, objects, is))))) = absurd (no_answer answer (Optimistic o) is)
      go (inr (agreed, faultless, inr (stim, started, inr (before, walked, inr (after, again, same))))) =
          let answered = answers_one answer (fix_answer w found.r before.wave after.wave) same in
          record {
            n = found.n;
            r = found.r;
            job = found.job;
            before = has_wave w.limits found.n found.r.stim before walked;
            agrees = record { replay = walked.replay; faultless = faultless };
            list_is = sets_text (pieces_of 44 w.sets) sets;
            stim = stim;
            started = started;
            after = has_wave w.limits found.n stim after again;
            files_are = ap (λ (a : Answer). a.files) answered;
            printed_is = ap (λ (a : Answer). a.printed) answered
                ∙ ap (λ (c : Contents). fix_text (length (sets_of w.sets)) c after.wave found.r.binding) (wave_same w.limits found.n found.r.stim before walked)
                ∙ ap (λ (c : Contents). fix_text (length (sets_of w.sets)) (wave_under found.n found.r.stim before.history w.limits before.wave.written before.wave.lines) c found.r.binding)
                (wave_same w.limits found.n stim after again);
          }

-- ---- what it refuses

fix_fails : (told : Bool) (files : Files) (job : Parts) (w : FixValues) (cause : Refused) → ComesTo told files (compared_then (set_phases w) job) (Err cause)
    → FixFails w.limits (sets_of w.sets) job cause
fix_fails told files job w cause (inl (e, refused, is)) =
    subst (FixFails w.limits (sets_of w.sets) job) (sym (err_same {B = Answer} cause (Compare e) is)) (FixFails.disagrees refused)
fix_fails told files job w cause (inr (agreed, faultless, inl (fault, first, is))) =
    subst (FixFails w.limits (sets_of w.sets) job) (sym (err_same {B = Answer} cause (Start fault) is)) (FixFails.unset faultless first)
fix_fails told files job w cause (inr (agreed, faultless, inr (stim, started, inl (o, objects, is)))) =
    subst (FixFails w.limits (sets_of w.sets) job) (sym (err_same {B = Answer} cause (Optimistic o) is))
    (FixFails.objected stim started record { faultless = faultless; objects = objects })
fix_fails told files job w cause (inr (agreed, faultless, inr (stim, started, inr (before, walked, inl (o, objects, is))))) =
    subst (FixFails w.limits (sets_of w.sets) job) (sym (err_same {B = Answer} cause (Optimistic o) is))
    (FixFails.objected_set record { agreed = faultless; before = before; walked = walked; found = record { stim = stim; started = started; objects = objects } })
fix_fails told files job w cause (inr (agreed, faultless, inr (stim, started, inr (before, walked, inr (after, again, same))))) =
    absurd (ok_err (fix_answer w job.recorded before.wave after.wave) cause (sym same))

-- ---- its laws

fix_exact : (w : FixValues) → AreExact (fix_phases w)
fix_exact w = job_exact w.job (compared_then (set_phases w))
    (λ n r orders. (
      one_compared n r orders,
      λ agreed faultless. (one_started n r.stim (sets_of w.sets), λ stim started before walked after again. tt),
    ))

pub lawful_fix : IsLawful IsOfTexts fix
lawful_fix = record {
  ordered = refl;
  one = λ option v w first second files. one_fix option v w first second files;
  exact = fix_exact;
  causes = λ w. job_of_texts w.job (compared_then (set_phases w))
      (λ n r. (
        of_compare n r,
        λ agreed faultless. (
          (λ fault first. of_start fault),
          λ stim started. (
            (λ o objects. of_objection o),
            λ before walked. ((λ o objects. of_objection o), λ after again. tt),
          ),
        ),
      ));
  says = λ told rest files w answer t line comes. fix_says told files t w answer
      (value_fits fix rest w line (codes "set") w.sets line.gives.sets (needs (codes "set") Sets) refl)
      (job_found told files t w.job (compared_then (set_phases w)) answer comes);
  fails = λ told files w cause t comes. (let refused = refused_by told files t w.job (compared_then (set_phases w)) (FixFails w.limits (sets_of w.sets)) cause (λ n r. fix_fails told files (parts n r) w cause) comes in
      record { refused = refused; one = one_fix_cause w.limits (sets_of w.sets) w.job (netlist_held files w.job) (recording_held files w.job) cause refused });
  unrefused = λ told files w t is. never_refused told files (fix_phases w) t (fix_exact w) (job_passes files w.job (compared_then (set_phases w)) is.n is.r is.job
      (tt, is.faultless, (is.stim, is.started, (is.none, λ before walked. (is.none_set, λ after again. tt)))));
  only = λ w. job_among (job_reads w.job) w.job (itself_in (job_reads w.job)) (compared_then (set_phases w)) (λ job agreed stim before after. tt);
  sure = λ w name named. job_sure w.job (compared_then (set_phases w)) name recording_limit (omega arith) named;
}
