-- `export` is lawful.
use Rattle.std.proofs.Common.{◌≡◌, Bool, Err, IsTrue, List, Ok, Option, [], arith, codes, inl, inr, refl, subst, sym, ℕ}
use Rattle.cmd_program.proofs.Headlines.{Made}
use Rattle.cmd_program.proofs.Inputs.{itself_in, job_among, job_sure}
use Rattle.cmd_program.proofs.Repair.{as_repair, not_objected}
use Rattle.cmd_program.specs.Export.{ExportValues, Exported, GivesExport, SaysExport, export, export_phases, repair_for, walk_exported}
use Rattle.cert_export.specs.Export.{Exports}
use Rattle.base_line.specs.Line.{Text}
use Rattle.cmd_phases.proofs.JobTexts.{JobFound, answers_one, job_found, job_passes, no_answer, refused_by}
use Rattle.cmd_phases.proofs.OneJob.{job_exact, one_compared}
use Rattle.cmd_phases.proofs.Statuses.{IsOfTexts, job_of_texts, of_compare, of_objection}
use Rattle.cmd_phases.specs.Phases.{compared_then, parts}
use Rattle.cmd_phases.specs.Repair.{recording_limit}
use Rattle.cmd_phases.specs.Texts.{RepairFails, netlist_held, recording_held}
use Rattle.cmd_phases.specs.declared.cause.Refused.{Refused}
use Rattle.cmd_phases.specs.declared.cause.Refused.TheVariants.{Compare, Optimistic}
use Rattle.cmd_phases.specs.declared.parts.Parts.{Parts}
use Rattle.base_run.proofs.Exact.{err_same, never_refused, ok_err}
use Rattle.base_run.specs.Phases.{Answer, AreExact, ComesTo}
use Rattle.cmd_set.proofs.Lawful.{IsLawful}
use Rattle.base_shelf.specs.Shelf.{Files}
use Rattle.wave_proved.specs.Contents.{Contents}
use Rattle.cmd_words.proofs.OneJob.{one_count, one_job, some_same}
use Rattle.cmd_words.specs.Words.{job_reads}
use Rattle.cmd_program.proofs.Headlines as headlines
use Rattle.cmd_program.proofs.OneLimits.{one_limits}

one_export : (option : Text → Option Text) (a b : ExportValues) → GivesExport option a → GivesExport option b → a.job.netlists ≡ b.job.netlists → a ≡ b
one_export option a b first second netlists =
    let job = one_job option a.job b.job first.job second.job netlists in
    let prefix = some_same a.prefix b.prefix (option (codes "to")) first.prefix second.prefix in
    let limits = one_limits option a.limits b.limits first.limits second.limits in
    λ i. record { job = job i; prefix = prefix i; limits = limits i }

-- ---- what it finds

exported : (w : ExportValues) (netlist recording : List ℕ) (answer : Answer) (is : Made (repair_for w) netlist recording) → Exports w.prefix is.found.wave answer
    → Exported w netlist recording answer
exported w netlist recording answer is exports =
    record {
      job = headlines.repaired_job (repair_for w) netlist recording is;
      certifies = headlines.certifies_so (repair_for w) netlist recording is [] refl;
      exports = subst (λ (c : Contents). Exports w.prefix c answer) (headlines.same (repair_for w) netlist recording is) exports;
    }

module _ (told : Bool) (files : Files) (t : IsTrue told) where
  export_says : (w : ExportValues) (answer : Answer) → JobFound told files w.job (compared_then (walk_exported w)) answer
      → SaysExport files w answer
  export_says w answer found = go found.more
    where
      go : ComesTo told files (compared_then (walk_exported w) (parts found.n found.r)) (Ok answer) → SaysExport files w answer
      go (inl (e, refused, is)) = absurd (no_answer answer (Compare e) is)
      go (inr (agreed, faultless, inl (o, refused, is))) = absurd (no_answer answer (Optimistic o) is)
      go (inr (agreed, faultless, inr (there, is, inl (none, never, same)))) = absurd never
      go (inr (agreed, faultless, inr (there, is, inr (written, exports, same)))) =
          let made : Made (repair_for w) (netlist_held files w.job) (recording_held files w.job) =
          record { n = found.n; r = found.r; job = found.job; faultless = faultless; found = there; is = is } in
          subst (SaysExport files w) (sym (answers_one answer written same))
          (exported w (netlist_held files w.job) (recording_held files w.job) written made exports)

-- ---- what it refuses

export_fails : (told : Bool) (files : Files) (job : Parts) (w : ExportValues) (cause : Refused) → ComesTo told files (compared_then (walk_exported w) job) (Err cause)
    → RepairFails w.limits job cause
export_fails told files job w cause (inl (e, refused, is)) =
    subst (RepairFails w.limits job) (sym (err_same {B = Answer} cause (Compare e) is)) (RepairFails.disagrees refused)
export_fails told files job w cause (inr (agreed, faultless, inl (o, refused, is))) =
    subst (RepairFails w.limits job) (sym (err_same {B = Answer} cause (Optimistic o) is)) (RepairFails.objected record { faultless = faultless; objects = refused })
export_fails told files job w cause (inr (agreed, faultless, inr (found, is, inl (none, never, same)))) = absurd never
export_fails told files job w cause (inr (agreed, faultless, inr (found, is, inr (answer, written, same)))) = absurd (ok_err answer cause (sym same))

-- ---- its laws

export_exact : (w : ExportValues) → AreExact (export_phases w)
export_exact w = job_exact w.job (compared_then (walk_exported w))
    (λ n r orders. (one_compared n r orders, λ agreed faultless found is answer written. tt))

pub lawful_export : IsLawful IsOfTexts export
lawful_export = record {
  ordered = refl;
  one = λ option v w first second files. one_export option v w first second files;
  exact = export_exact;
  causes = λ w. job_of_texts w.job (compared_then (walk_exported w))
      (λ n r. (
        of_compare n r,
        λ agreed faultless. (
          (λ o objects. of_objection o),
          λ found is. ((λ none never. absurd never), λ answer written. tt),
        ),
      ));
  says = λ told rest files w answer t line comes. export_says told files t w answer (job_found told files t w.job (compared_then (walk_exported w)) answer comes);
  fails = λ told files w cause t comes. as_repair w.job w.limits files cause
      (refused_by told files t w.job (compared_then (walk_exported w)) (RepairFails w.limits) cause (λ n r. export_fails told files (parts n r) w cause) comes);
  unrefused = λ told files w t is. (let objected = not_objected w.job w.limits (netlist_held files w.job) (recording_held files w.job) is in
      never_refused told files (export_phases w) t (export_exact w) (job_passes files w.job (compared_then (walk_exported w)) is.n is.r is.job
      (tt, is.faultless, (objected, λ found there. ((λ none never. never), λ answer written. tt)))));
  only = λ w. job_among (job_reads w.job) w.job (itself_in (job_reads w.job)) (compared_then (walk_exported w)) (λ job agreed found answer. tt);
  sure = λ w name named. job_sure w.job (compared_then (walk_exported w)) name recording_limit (omega arith) named;
}
