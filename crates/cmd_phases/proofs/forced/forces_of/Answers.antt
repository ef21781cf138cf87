-- The code is read, then judged.
use Rattle.std.proofs.Common.{◌∙◌, ℕ, List, [], ◌∷◌, subst}
use Rattle.base_run.specs.Phases.{judges}
use Rattle.base_run.specs.Prepared.{Judged}
use Rattle.base_run.proofs.Then.{judged_prepared, read_then}
use Rattle.cmd_words.specs.Words.{job_values}
use Rattle.cmd_phases.specs.Code.{CodeComes, code_in, text_limit}
use Rattle.cmd_phases.specs.Phases.{code_cause, itself, scope_of}
use Rattle.cmd_phases.specs.declared.cause.Refused.TheVariants.{LongCode}
use Rattle.cmd_phases.proofs.forced.forces_of.Goals as goal

pub returns-clause-prepared : goal.returns-clause-prepared
returns-clause-prepared g c =
    let told = g.S.Shelf.told in
    let w = job_values c.args.words.now in
    let job = c.args.job.now.parts in
    let old = g.S.Shelf.view c.args.shelf.now in
    let new = g.S.Shelf.view c.read_input.new.shelf in
    let text = c.in_ok-text.text in
    let a = subst (λ (l : List ℕ). Judged (CodeComes (code_in job l c.as_slice-2.result.now)) code_cause itself c.forces_in.result)
    c.as_slice.ensures.value c.forces_in.ensures.judged in
    let b = subst (λ (s : List (List ℕ)). Judged (CodeComes (code_in job text.items s)) code_cause itself c.forces_in.result)
    (c.as_slice-2.ensures.value ∙ c.in_ok-scope.ensures.pieces) a in
    read_then told (c.args.name.now ∷ []) text_limit LongCode (λ (l : List ℕ). judges (CodeComes (code_in job l (scope_of w))) code_cause) itself old new new
    text c.forces_in.result c.in_ok-text.ensures
    (judged_prepared told (CodeComes (code_in job text.items (scope_of w))) code_cause itself new c.forces_in.result b)
