-- `prove` is lawful.
use Rattle.std.proofs.Common.{◌∷◌, ◌≡◌, ◌≤◌, Bool, Err, IsTrue, List, Ok, Option, [], arith, codes, inl, inr, length, refl, subst, suc, sym, zero, ℕ}
use Rattle.std.specs.Prelude.{Contains}
use Rattle.cmd_program.proofs.Inputs.{all_in, later, own_in}
use Rattle.cmd_program.specs.Prove.{GivesProve, IsUnproved, ProveValues, SaysProve, prove, prove_answer, prove_phases, refuted_line}
use Rattle.base_line.specs.Line.{Text}
use Rattle.cmd_phases.proofs.JobTexts.{answers_one, no_answer}
use Rattle.cmd_phases.proofs.Statuses.{IsOfTexts, of_long_cnf, of_long_log, of_proof}
use Rattle.cmd_phases.specs.Code.{text_limit}
use Rattle.cmd_phases.specs.declared.cause.Refused.{Refused}
use Rattle.cmd_phases.specs.declared.cause.Refused.TheVariants.{LongCnf, LongLog, Proof}
use Rattle.sat_prove.proofs.OneProof.{one_proof}
use Rattle.sat_prove.specs.Proof.{IsProof}
use Rattle.base_run.proofs.Exact.{err_same, never_refused, ok_err}
use Rattle.base_run.specs.Phases.{Answer, AreExact, ComesTo, IsRead, text_held}
use Rattle.base_run.specs.Reading.{ReadsSurely}
use Rattle.cmd_set.proofs.Lawful.{IsLawful}
use Rattle.base_shelf.specs.Shelf.{Files}
use Rattle.cmd_words.proofs.OneJob.{some_same}

one_prove : (option : Text → Option Text) (a b : ProveValues) → GivesProve option a → GivesProve option b → a ≡ b
one_prove option a b first second =
    let cnf = some_same a.cnf b.cnf (option (codes "cnf")) first.cnf second.cnf in
    let log = some_same a.log b.log (option (codes "log")) first.log second.log in
    λ i. record { cnf = cnf i; log = log i }

-- ---- what it finds

module _ (told : Bool) (files : Files) (t : IsTrue told) where
  prove_says : (w : ProveValues) (answer : Answer) → ComesTo told files (prove_phases w) (Ok answer) → SaysProve files w answer
  prove_says w answer (inl first) = absurd (no_answer answer LongCnf first.1)
  prove_says w answer (inr (cnf, read, inl first)) = absurd (no_answer answer LongLog first.1)
  prove_says w answer (inr (cnf, read, inr (log, again, inl (fault, is, same)))) = absurd (no_answer answer (Proof fault) same)
  prove_says w answer (inr (cnf, read, inr (log, again, inr (count, is, same)))) =
      let here = subst (λ (l : List ℕ). IsProof l log count) (read.is t) is in
      record {
        printed = refuted_line count;
        answer_is = answers_one answer (prove_answer count) same;
        proves = record {
          count = count;
          proof = subst (λ (l : List ℕ). IsProof (text_held files (w.cnf ∷ [])) l count) (again.is t) here;
          printed_is = refl;
        };
      }

-- ---- what it refuses

module _ (told : Bool) (files : Files) (t : IsTrue told) (w : ProveValues) (cause : Refused) where
  abbrev cnf_held : List ℕ
  cnf_held = text_held files (w.cnf ∷ [])

  abbrev log_held : List ℕ
  log_held = text_held files (w.log ∷ [])

  unproved_there : (cnf log : List ℕ) → IsRead told files (w.cnf ∷ []) text_limit cnf → IsRead told files (w.log ∷ []) text_limit log → IsUnproved cnf log cause
      → IsUnproved cnf_held log_held cause
  unproved_there cnf log read again is =
      subst (λ (l : List ℕ). IsUnproved cnf_held l cause) (again.is t) (subst (λ (l : List ℕ). IsUnproved l log cause) (read.is t) is)

  prove_refused : ComesTo told files (prove_phases w) (Err cause) → IsUnproved cnf_held log_held cause
  prove_refused (inl first) = subst (IsUnproved cnf_held log_held) (sym (err_same {B = Answer} cause LongCnf first.1)) (IsUnproved.long_cnf (first.0 t))
  prove_refused (inr (cnf, read, inl first)) =
      subst (IsUnproved cnf_held log_held) (sym (err_same {B = Answer} cause LongLog first.1))
      (IsUnproved.long_log (subst (λ (l : List ℕ). length l ≤ text_limit) (read.is t) read.fits) (first.0 t))
  prove_refused (inr (cnf, read, inr (log, again, inl (fault, is, same)))) =
      unproved_there cnf log read again
      (subst (IsUnproved cnf log) (sym (err_same {B = Answer} cause (Proof fault) same))
      (IsUnproved.unproved record { cnf_fits = read.fits; log_fits = again.fits } is))
  prove_refused (inr (cnf, read, inr (log, again, inr (count, is, same)))) = absurd (ok_err (prove_answer count) cause (sym same))

-- ---- its laws

prove_sure : (w : ProveValues) (name : Text) → Contains (w.cnf ∷ w.log ∷ []) name → ReadsSurely name text_limit (prove_phases w)
prove_sure w name (zero, less, is) = inl ((0, omega arith, is), omega arith)
prove_sure w name (suc zero, less, is) = inr (λ cnf. inl ((0, omega arith, is), omega arith))
prove_sure w name (suc (suc k), less, is) = absurd (omega (arith, less))

prove_exact : (w : ProveValues) → AreExact (prove_phases w)
prove_exact w = λ cnf log. (one_proof cnf log, λ count is. tt)

pub lawful_prove : IsLawful IsOfTexts prove
lawful_prove = record {
  ordered = refl;
  one = λ option v w first second files. one_prove option v w first second;
  exact = prove_exact;
  causes = λ w. (of_long_cnf, λ cnf. (of_long_log, λ log. ((λ fault is. of_proof fault), λ count is. tt)));
  says = λ told rest files w answer t line comes. prove_says told files t w answer comes;
  fails = λ told files w cause t comes. prove_refused told files t w cause comes;
  unrefused = λ told files w t is. never_refused told files (prove_phases w) t (prove_exact w) (is.short.cnf_fits, (is.short.log_fits, (is.count, is.proof, tt)));
  only = λ w. (own_in w.cnf (w.log ∷ []), λ cnf. (all_in (w.cnf ∷ w.log ∷ []) (w.log ∷ []) (later w.cnf (w.log ∷ [])), λ log count. tt));
  sure = prove_sure;
}
