-- The certificate is checked, and its report.
use Rattle.std.proofs.Common.{◌∙◌, List, ap, subst, sym}
use Rattle.std.specs.List.{AllByRecursion}
use Rattle.cmd_phases.specs.OfCond.{ConditionView}
use Rattle.cmd_phases.specs.OfListing.{IsSomeCondition}
use Rattle.cmd_program.specs.Check.{check_values, check_answer}
use Rattle.cmd_phases.specs.Certificate.{check_shows}
use Rattle.cmd_phases.proofs.CheckedPlaces.{certified_of_job}
use Rattle.cmd_program.proofs.Needing.{are_some}
use Rattle.cmd_program.proofs.Walk.{check_found}
use Rattle.cmd_program.proofs.checked.checked.Goals as goal

pub returns : goal.returns
returns c =
    let checked = c.in_ok-checked.checked in
    check_found (check_values c.args.words.now) c.args.agreed.now.parts c.args.cert checked.wave checked.conditions
    c.in_ok-report_of.field-0 c.in_ok-checked.ensures.certified
    (c.in_ok-report_of.ensures ∙ ap (λ (views : List ConditionView). check_answer (check_values c.args.words.now) c.args.agreed.now.parts (check_shows checked.wave views)) c.as_slice-conditions.ensures)

pub report_of-requires-clause-wave : goal.report_of-requires-clause-wave
report_of-requires-clause-wave c =
    let checked = c.in_ok-checked.checked in
    certified_of_job c.args.words.now.limits c.args.agreed.now.parts c.args.cert checked.wave checked.conditions c.in_ok-checked.ensures.certified

pub report_of-requires-clause-conditions : goal.report_of-requires-clause-conditions
report_of-requires-clause-conditions c =
    let checked = c.in_ok-checked.checked in
    subst (AllByRecursion (IsSomeCondition checked.wave)) (sym c.as_slice-conditions.ensures)
    (are_some c.args.cert.form checked.wave checked.conditions c.in_ok-checked.ensures.certified.checked.conditions_are)
