-- `replay` is lawful.
use Rattle.std.proofs.Common.{◌∷◌, ◌≡◌, Bool, Err, IsTrue, List, Ok, Option, [], arith, codes, inl, inr, refl, subst, suc, sym, zero, ℕ}
use Rattle.std.specs.Prelude.{Contains}
use Rattle.cmd_program.proofs.Inputs.{cert_sure, job_among, job_sure, later, own_in}
use Rattle.cmd_program.specs.Replay.{GivesReplay, ReplayValues, SaysReplay, coded_phases, replay, replay_answer, replay_phases}
use Rattle.replay_code.specs.Says.{CodeSays, FirstFault}
use Rattle.base_line.specs.Line.{Text}
use Rattle.recording_writer.specs.Text.{vcd_text}
use Rattle.cmd_phases.proofs.JobTexts.{JobFound, answers_one, job_found, job_passes, no_answer, refused_by}
use Rattle.cmd_phases.proofs.OneCode.{one_code}
use Rattle.cmd_phases.proofs.OneJob.{job_exact}
use Rattle.cmd_phases.proofs.Statuses.{IsOfTexts, job_of_texts, of_code, of_long_code}
use Rattle.cmd_phases.specs.Code.{code_in, moments_line, text_limit}
use Rattle.cmd_phases.specs.Phases.{parts, scope_of}
use Rattle.cmd_phases.specs.Texts.{CodeFails}
use Rattle.cmd_phases.specs.declared.cause.Refused.{Refused}
use Rattle.cmd_phases.specs.declared.cause.Refused.TheVariants.{Code, LongCode}
use Rattle.cmd_phases.specs.declared.parts.Parts.{Parts}
use Rattle.base_run.proofs.Exact.{err_same, never_refused, ok_err}
use Rattle.base_run.specs.Phases.{Answer, AreExact, ComesTo, text_held}
use Rattle.base_run.specs.Reading.{ReadsSurely}
use Rattle.cmd_set.proofs.Lawful.{IsLawful}
use Rattle.base_shelf.specs.Shelf.{Files}
use Rattle.cmd_words.proofs.OneJob.{one_job, some_same}
use Rattle.cmd_words.specs.Words.{job_reads}

one_replay : (option : Text → Option Text) (a b : ReplayValues) → GivesReplay option a → GivesReplay option b → a.job.netlists ≡ b.job.netlists → a ≡ b
one_replay option a b first second netlists =
    let job = one_job option a.job b.job first.job second.job netlists in
    let code = some_same a.code b.code (option (codes "code")) first.code second.code in
    let vcd = some_same a.vcd b.vcd (option (codes "vcd")) first.vcd second.vcd in
    λ i. record { job = job i; code = code i; vcd = vcd i }

-- ---- what it finds

module _ (told : Bool) (files : Files) (t : IsTrue told) where
  replay_says : (w : ReplayValues) (answer : Answer) → JobFound told files w.job (coded_phases w) answer → SaysReplay files w answer
  replay_says w answer found = go found.more
    where
      go : ComesTo told files (coded_phases w (parts found.n found.r)) (Ok answer) → SaysReplay files w answer
      go (inl first) = absurd (no_answer answer LongCode first.1)
      go (inr (text, read, inl (fault, first, is))) = absurd (no_answer answer (Code fault) is)
      go (inr (text, read, inr (forces, says, inl (none, never, is)))) = absurd never
      go (inr (text, read, inr (forces, says, inr (history, forced, same)))) =
          record {
            vcd = vcd_text found.n.design found.r.binding found.r.stim history;
            printed = moments_line found.r.stim;
            answer_is = answers_one answer (replay_answer w (parts found.n found.r) history) same;
            replays = record {
              n = found.n;
              r = found.r;
              job = found.job;
              events = forces;
              says = subst (λ (l : List ℕ). CodeSays (code_in (parts found.n found.r) l (scope_of w.job)) forces) (read.is t) says;
              history = history;
              forced = forced;
              vcd_is = refl;
              printed_is = refl;
            };
          }

-- ---- what it refuses

module _ (told : Bool) (files : Files) (t : IsTrue told) (job : Parts) where
  code_fails : (w : ReplayValues) (cause : Refused) → ComesTo told files (coded_phases w job) (Err cause)
      → CodeFails (text_held files (w.code ∷ [])) (scope_of w.job) job cause
  code_fails w cause (inl first) =
      subst (CodeFails (text_held files (w.code ∷ [])) (scope_of w.job) job) (sym (err_same {B = Answer} cause LongCode first.1)) (CodeFails.too_long (first.0 t))
  code_fails w cause (inr (text, read, inl (fault, first, is))) =
      subst (CodeFails (text_held files (w.code ∷ [])) (scope_of w.job) job) (sym (err_same {B = Answer} cause (Code fault) is))
      (CodeFails.faulty (subst (λ (l : List ℕ). FirstFault (code_in job l (scope_of w.job)) fault) (read.is t) first))
  code_fails w cause (inr (text, read, inr (forces, says, inl (none, never, is)))) = absurd never
  code_fails w cause (inr (text, read, inr (forces, says, inr (history, is, same)))) = absurd (ok_err (replay_answer w job history) cause (sym same))

-- ---- its laws

replay_sure : (w : ReplayValues) (name : Text) → Contains (w.code ∷ job_reads w.job) name → ReadsSurely name text_limit (replay_phases w)
replay_sure w name (zero, less, is) = cert_sure w.job (coded_phases w) name text_limit (λ job. inl ((0, omega arith, is), omega arith))
replay_sure w name (suc k, less, is) = job_sure w.job (coded_phases w) name text_limit (omega arith) (k, omega (arith, less), is)

replay_exact : (w : ReplayValues) → AreExact (replay_phases w)
replay_exact w = job_exact w.job (coded_phases w)
    (λ n r orders text. (one_code (code_in (parts n r) text (scope_of w.job)), λ forces says history is. tt))

pub lawful_replay : IsLawful IsOfTexts replay
lawful_replay = record {
  ordered = refl;
  one = λ option v w first second files. one_replay option v w first second files;
  exact = replay_exact;
  causes = λ w. job_of_texts w.job (coded_phases w)
      (λ n r. (of_long_code, λ text. ((λ fault first. of_code fault), λ forces says. ((λ none is. absurd none), λ history is. tt))));
  says = λ told rest files w answer t line comes. replay_says told files t w answer (job_found told files t w.job (coded_phases w) answer comes);
  fails = λ told files w cause t comes. refused_by told files t w.job (coded_phases w) (CodeFails (text_held files (w.code ∷ [])) (scope_of w.job)) cause
      (λ n r. code_fails told files t (parts n r) w cause) comes;
  unrefused = λ told files w t is. never_refused told files (replay_phases w) t (replay_exact w) (job_passes files w.job (coded_phases w) is.n is.r is.job
      (is.fits, (is.events, is.says, ((λ none never. never), λ history there. tt))));
  only = λ w. job_among (w.code ∷ job_reads w.job) w.job (later w.code (job_reads w.job)) (coded_phases w) (λ job. (own_in w.code (job_reads w.job), λ text forces history. tt));
  sure = replay_sure;
}
