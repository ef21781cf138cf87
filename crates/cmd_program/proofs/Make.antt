-- `make` is lawful.
use Rattle.std.proofs.Common.{◌∙◌, ◌≡◌, ◌≤◌, Bool, Err, List, None, Option, Some, arith, codes, inl, inr, length, refl, subst, sym, true, ℕ}
use Rattle.cmd_program.proofs.Making.{made_is_one, make_says, one_length, one_made}
use Rattle.cmd_program.proofs.Repair.{job_of}
use Rattle.cmd_program.specs.Make.{GivesMake, IsMadeOf, IsMadeRefused, IsMakeable, IsNumberTo, IsOneMade, IsRecordingOf, MakeValues, made_limits, made_job, made_netlist, make, make_answer, make_phases, recorded_made, repaired_made}
use Rattle.cmd_job.proofs.OneNetlist.{one_outcome}
use Rattle.cmd_job.specs.Compared.{job_for}
use Rattle.cmd_job.specs.declared.netlist.Netlist.{Netlist as ANetlist}
use Rattle.cmd_job.specs.declared.recorded.Recorded.{Recorded}
use Rattle.base_line.specs.Line.{Text}
use Rattle.cmd_phases.proofs.JobTexts.{netlist_there}
use Rattle.cmd_phases.proofs.ObjectingOnce.{one_cause}
use Rattle.cmd_phases.proofs.OneJob.{one_compared, one_recorded, orders_of}
use Rattle.cmd_phases.proofs.Statuses.{IsOfTexts, of_compare, of_long, of_long_recording, of_netlist, of_objection, of_recording}
use Rattle.cmd_phases.specs.Phases.{parts, scope_of}
use Rattle.cmd_phases.specs.Repair.{IsObjectionIn, netlist_limit, recording_limit, rules_of}
use Rattle.cmd_phases.specs.Texts.{AreRefused, HasNetlist, RepairFails}
use Rattle.cmd_phases.specs.declared.cause.Objection.{Objection}
use Rattle.cmd_phases.specs.declared.cause.Refused.{Refused}
use Rattle.cmd_phases.specs.declared.cause.Refused.TheVariants.{Compare, LongNetlist, LongRecording, Netlist, Optimistic, Recording}
use Rattle.replay_history.specs.Fault.{IsFaultless}
use Rattle.base_run.proofs.Exact.{err_same, never_refused, ok_err}
use Rattle.base_run.specs.Phases.{Answer, AreExact, ComesTo, PassesAll}
use Rattle.cmd_set.proofs.Lawful.{IsLawful}
use Rattle.base_shelf.specs.Shelf.{Files}
use Rattle.cmd_words.proofs.OneJob.{some_same}

one_number : (o : Option Text) (most m n : ℕ) → IsNumberTo o most m → IsNumberTo o most n → m ≡ n
one_number None most m n first second = absurd first
one_number (Some text) most m n first second = first.0.value ∙ sym second.0.value

one_make : (option : Text → Option Text) (a b : MakeValues) → GivesMake option a → GivesMake option b → a ≡ b
one_make option a b first second =
    let number = one_number (option (codes "number")) 18446744073709551615 a.number b.number first.number second.number in
    let gates = one_number (option (codes "gates")) 100000 a.gates b.gates first.gates second.gates in
    let netlist = some_same a.netlist b.netlist (option (codes "netlist")) first.netlist second.netlist in
    let recording = some_same a.recording b.recording (option (codes "record")) first.recording second.recording in
    λ i. record { number = number i; gates = gates i; netlist = netlist i; recording = recording i }

-- ---- what it refuses

module _ (told : Bool) (files : Files) (w : MakeValues) (cause : Refused) where
  abbrev MadeBy : List ℕ → Refused → Type 0
  MadeBy text c = AreRefused made_job (made_netlist w) text (RepairFails made_limits) c

  repair_of_made_fails : (text : List ℕ) (n : ANetlist) (r : Recorded) → ComesTo told files (repaired_made w text n r) (Err cause)
      → RepairFails made_limits (parts n r) cause
  repair_of_made_fails text n r (inl (e, refused, is)) =
      subst (RepairFails made_limits (parts n r)) (sym (err_same {B = Answer} cause (Compare e) is)) (RepairFails.disagrees refused)
  repair_of_made_fails text n r (inr (agreed, faultless, inl (o, refused, is))) =
      subst (RepairFails made_limits (parts n r)) (sym (err_same {B = Answer} cause (Optimistic o) is))
      (RepairFails.objected record { faultless = faultless; objects = refused })
  repair_of_made_fails text n r (inr (agreed, faultless, inr (found, is, same))) = absurd (ok_err (make_answer w text found.wave) cause (sym same))

  made_recording_fails : (n : ANetlist) → HasNetlist made_job (made_netlist w) n → (text : List ℕ) → length text ≤ recording_limit
      → ComesTo told files (recorded_made w n text) (Err cause) → MadeBy text cause
  made_recording_fails n has text fits (inl (e, refused, is)) =
      subst (MadeBy text) (sym (err_same {B = Answer} cause (Recording e) is))
      (AreRefused.recording_fails record { n = n; netlist_is = has; fits = fits; is = refused })
  made_recording_fails n has text fits (inr (r, held, more)) =
      AreRefused.job_fails record {
        n = n;
        r = r;
        job = record { elaborated = n; netlist_is = has; fits = fits; is = held; job_is = refl };
        holds = repair_of_made_fails text n r more;
      }

  make_refused : ComesTo told files (make_phases w) (Err cause) → IsMadeRefused w cause
  make_refused (inl (long, is, same)) = subst (IsMadeRefused w) (sym (err_same {B = Answer} cause LongNetlist same)) (IsMadeRefused.long_netlist is)
  make_refused (inr (short, fits, inl (e, refused, same))) =
      subst (IsMadeRefused w) (sym (err_same {B = Answer} cause (Netlist e) same)) (IsMadeRefused.netlist_fails record { fits = fits; is = refused })
  make_refused (inr (short, fits, inr (n, has, inl (none, never, same)))) = absurd never
  make_refused (inr (short, fits, inr (n, has, inr (text, made, inl (long, is, same))))) =
      let there = netlist_there made_job (made_netlist w) n fits has in
      IsMadeRefused.recording_fails text record { n = n; netlist_is = there; made = made }
      (subst (MadeBy text) (sym (err_same {B = Answer} cause LongRecording same)) (AreRefused.long_recording record { n = n; netlist_is = there; long = is }))
  make_refused (inr (short, fits, inr (n, has, inr (text, made, inr (few, within, more))))) =
      let there = netlist_there made_job (made_netlist w) n fits has in
      IsMadeRefused.recording_fails text record { n = n; netlist_is = there; made = made } (made_recording_fails n there text within more)

-- A place that is found otherwise in a made job is of the one recording.
made_objected : (w : MakeValues) (o : Objection) → IsMadeRefused w (Optimistic o) → (recording : List ℕ) → IsMadeOf w recording
    → AreRefused made_job (made_netlist w) recording (RepairFails made_limits) (Optimistic o)
made_objected w o (IsMadeRefused.recording_fails text of refused) recording is =
    subst (λ (l : List ℕ). AreRefused made_job (made_netlist w) l (RepairFails made_limits) (Optimistic o)) (made_is_one w text recording of is) refused

the_one_made : (w : MakeValues) (cause : Refused) → IsMadeRefused w cause → IsOneMade w cause
the_one_made w cause refused = λ recording is.
    one_cause made_job (made_netlist w) recording made_limits cause
    (λ o same. job_of made_job (made_netlist w) recording made_limits o (made_objected w o (subst (IsMadeRefused w) same refused) recording is))

made_not_objected : (w : MakeValues) (is : IsMakeable w) (o : Objection) → IsObjectionIn made_limits is.n is.r.stim o → ⊥
made_not_objected w is o objects = is.none objects.history objects.objects.otherwise objects.replay objects.objects.objects

-- ---- its laws

make_exact : (w : MakeValues) → AreExact (make_phases w)
make_exact w = (
  one_length netlist_limit (made_netlist w),
  λ short fits. (
    one_outcome (made_netlist w) made_job.top,
    λ n has. (
      one_made w n (made_netlist w) has,
      λ text made. (
        one_length recording_limit text,
        λ few within. (
          one_recorded text n.design (scope_of made_job) made_job.rounds made_job.places (rules_of made_job),
          λ r held. (one_compared n r (orders_of n r has.ordered), λ agreed faultless found is. tt),
        ),
      ),
    ),
  ),
)

-- What is made of the netlist's design stands for a job of that design.
made_passes : (files : Files) (w : MakeValues) → IsMakeable w → PassesAll files (make_phases w)
made_passes files w is = (
  tt,
  is.job.netlist_is.fits,
  (
    is.job.elaborated,
    is.job.netlist_is.is,
    (is.recording, made, (tt, is.job.fits, (is.r, is.job.is, (tt, faultless, (not_found, λ found there. tt))))),
  ),
)
  where
    made : IsRecordingOf w is.job.elaborated is.recording
    made = subst (λ (x : ANetlist). IsRecordingOf w x is.recording) is.job.job_is is.made

    faultless : IsFaultless (job_for is.job.elaborated is.r) is.r.recording is.r.binding
    faultless = subst (λ (x : ANetlist). IsFaultless (job_for x is.r) is.r.recording is.r.binding) is.job.job_is is.faultless

    not_found : (o : Objection) → IsObjectionIn made_limits is.job.elaborated is.r.stim o → ⊥
    not_found = subst (λ (x : ANetlist). (o : Objection) → IsObjectionIn made_limits x is.r.stim o → ⊥) is.job.job_is (made_not_objected w is)

pub lawful_make : IsLawful IsOfTexts make
lawful_make = record {
  ordered = refl;
  one = λ option v w first second files. one_make option v w first second;
  exact = make_exact;
  causes = λ w. (
    (λ long is. of_long),
    λ short fits. (
      of_netlist (made_netlist w) made_job.top,
      λ n has. (
        (λ none is. absurd none),
        λ text made. (
          (λ long is. of_long_recording),
          λ few within. (
            of_recording text n.design (scope_of made_job) made_job.rounds made_job.places,
            λ r held. (of_compare n r, λ agreed faultless. ((λ o objects. of_objection o), λ found is. tt)),
          ),
        ),
      ),
    ),
  );
  says = λ told rest files w answer t line comes. make_says told files w answer comes;
  fails = λ told files w cause t comes. (let refused = make_refused told files w cause comes in
      record { refused = refused; one = the_one_made w cause refused });
  unrefused = λ told files w t is. never_refused true files (make_phases w) refl (make_exact w) (made_passes files w is);
  only = λ w. λ short n text short_too r agreed found. tt;
  sure = λ w name (k, less, is). absurd (omega (arith, less));
}
