-- What the phases of a job found, or refuse, of the texts that the files hold.
use Rattle.std.proofs.Common.{◌≡◌, ℕ, ◌≤◌, List, [], ◌∷◌, length, IsTrue, Bool, Result, Ok, Err, inl, inr, refl, sym, subst}
use Rattle.base_shelf.specs.Shelf.{Files}
use Rattle.base_run.specs.Phases.{Answer, ComesTo, IsRead, PassesAll, Phases, ◌>>=◌}
use Rattle.base_run.proofs.Exact.{err_same}
use Rattle.cmd_job.specs.Netlist.{NetlistComes}
use Rattle.cmd_job.specs.Recorded.{job_netlist}
use Rattle.cmd_job.specs.declared.netlist.Netlist.{Netlist as ANetlist}
use Rattle.cmd_job.specs.declared.recorded.Recorded.{Recorded}
use Rattle.cmd_words.specs.Words.{JobValues}
use Rattle.cmd_phases.specs.Texts.{netlist_held, recording_held, AreRefused, HasNetlist, IsJob}
use Rattle.cmd_phases.specs.Phases.{job_phases, parts}
use Rattle.cmd_phases.specs.Repair.{netlist_limit, recording_limit, undriven_rule_of}
use Rattle.cmd_phases.specs.declared.cause.Refused.{Refused}
use Rattle.cmd_phases.specs.declared.cause.Refused.TheVariants.{LongNetlist, LongRecording, Netlist, Recording}
use Rattle.cmd_phases.specs.declared.parts.Parts.{Parts}

-- ---- found

pub answers_one : (a b : Answer) → ◌≡◌ {A = Result Answer Refused} (Ok a) (Ok b) → a ≡ b
answers_one a b same = cc

pub no_answer : (a : Answer) (c : Refused) → ◌≡◌ {A = Result Answer Refused} (Ok a) (Err c) → ⊥
no_answer a c same = cc

-- What the phases of a job found, of the texts that the files hold, and what those after them come to.
pub record JobFound (told : Bool) (files : Files) (w : JobValues) (next : Parts → Phases Answer Refused) (answer : Answer) : Type 0 where
  pub n : ANetlist
  pub r : Recorded
  pub job : IsJob w (netlist_held files w) (recording_held files w) n r
  pub more : ComesTo told files (next (parts n r)) (Ok answer)

module _ (told : Bool) (files : Files) (t : IsTrue told) (w : JobValues) (next : Parts → Phases Answer Refused) (answer : Answer) where
  pub job_found : ComesTo told files (job_phases w >>= next) (Ok answer) → JobFound told files w next answer
  job_found (inl first) = absurd (no_answer answer LongNetlist first.1)
  job_found (inr (text, read, inl (e, refused, is))) = absurd (no_answer answer (Netlist e) is)
  job_found (inr (text, read, inr (n, has, inl first))) = absurd (no_answer answer LongRecording first.1)
  job_found (inr (text, read, inr (n, has, inr (recording, again, inl (e, refused, is))))) = absurd (no_answer answer (Recording e) is)
  job_found (inr (text, read, inr (n, has, inr (recording, again, inr (r, held, more))))) =
      let m = job_netlist (undriven_rule_of w.undriven) n r.binding.bound in
      let job : IsJob w text recording m r = record { elaborated = n; netlist_is = record { fits = read.fits; is = has }; fits = again.fits; is = held; job_is = refl } in
      record {
        n = m;
        r = r;
        job = subst (λ (l : List ℕ). IsJob w (netlist_held files w) l m r) (again.is t) (subst (λ (l : List ℕ). IsJob w l recording m r) (read.is t) job);
        more = more;
      }

-- ---- refused

pub netlist_there : (w : JobValues) (text : List ℕ) (n : ANetlist) → length text ≤ netlist_limit → NetlistComes text w.top (Ok n) → HasNetlist w text n
netlist_there w text n fits has = record { fits = fits; is = has }

module _ (told : Bool) (files : Files) (t : IsTrue told) (w : JobValues) (next : Parts → Phases Answer Refused) (After : Parts → Refused → Type 0) (cause : Refused)
    (after : (n : ANetlist) (r : Recorded) → ComesTo told files (next (parts n r)) (Err cause) → After (parts n r) cause) where
  abbrev AreBy : List ℕ → List ℕ → Refused → Type 0
  AreBy netlist recording c = AreRefused w netlist recording After c

  by_cause : (netlist recording : List ℕ) (is : Refused) → ◌≡◌ {A = Result Answer Refused} (Err cause) (Err is) → AreBy netlist recording is → AreBy netlist recording cause
  by_cause netlist recording is same refused = subst (AreBy netlist recording) (sym (err_same {B = Answer} cause is same)) refused

  -- The texts that were read are those that the files hold.
  at_netlist : (text : List ℕ) → IsRead told files w.netlists netlist_limit text → AreBy text (recording_held files w) cause
      → AreBy (netlist_held files w) (recording_held files w) cause
  at_netlist text read refused = subst (λ (l : List ℕ). AreBy l (recording_held files w) cause) (read.is t) refused

  at_both : (text recording : List ℕ) → IsRead told files w.netlists netlist_limit text → IsRead told files (w.recording ∷ []) recording_limit recording
      → AreBy text recording cause → AreBy (netlist_held files w) (recording_held files w) cause
  at_both text recording read again refused = at_netlist text read (subst (λ (l : List ℕ). AreBy text l cause) (again.is t) refused)

  -- What the phases of a job and those after them refuse, by its cause.
  pub refused_by : ComesTo told files (job_phases w >>= next) (Err cause) → AreBy (netlist_held files w) (recording_held files w) cause
  refused_by (inl first) = by_cause (netlist_held files w) (recording_held files w) LongNetlist first.1 (AreRefused.long_netlist (first.0 t))
  refused_by (inr (text, read, inl (e, refused, is))) =
      at_netlist text read (by_cause text (recording_held files w) (Netlist e) is (AreRefused.netlist_fails record { fits = read.fits; is = refused }))
  refused_by (inr (text, read, inr (n, has, inl first))) =
      at_netlist text read
      (by_cause text (recording_held files w) LongRecording first.1 (AreRefused.long_recording record { n = n; netlist_is = netlist_there w text n read.fits has; long = first.0 t }))
  refused_by (inr (text, read, inr (n, has, inr (recording, again, inl (e, refused, is))))) =
      at_both text recording read again
      (by_cause text recording (Recording e) is (AreRefused.recording_fails record { n = n; netlist_is = netlist_there w text n read.fits has; fits = again.fits; is = refused }))
  refused_by (inr (text, read, inr (n, has, inr (recording, again, inr (r, held, more))))) =
      at_both text recording read again
      (let m = job_netlist (undriven_rule_of w.undriven) n r.binding.bound in
      AreRefused.job_fails record {
        n = m;
        r = r;
        job = record { elaborated = n; netlist_is = netlist_there w text n read.fits has; fits = again.fits; is = held; job_is = refl };
        holds = after m r more;
      })

-- ---- in order

pub job_passes : (files : Files) (w : JobValues) (next : Parts → Phases Answer Refused) (n : ANetlist) (r : Recorded) → IsJob w (netlist_held files w) (recording_held files w) n r
    → PassesAll files (next (parts n r)) → PassesAll files (job_phases w >>= next)
job_passes files w next n r is after =
    let there = subst (λ (x : ANetlist). PassesAll files (next (parts x r))) is.job_is after in
    (is.netlist_is.fits, (is.elaborated, is.netlist_is.is, (is.fits, (r, is.is, there))))
