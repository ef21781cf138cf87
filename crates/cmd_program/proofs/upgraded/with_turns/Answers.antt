-- The certificate is checked, and then the conditions are found.
use Rattle.std.proofs.Common.{◌∙◌, List, ap, subst, sym}
use Rattle.std.specs.List.{AllByRecursion}
use Rattle.cert_writer.specs.declared.cert.Form.TheVariants.{Turns}
use Rattle.cmd_phases.specs.OfCond.{ConditionView}
use Rattle.cmd_phases.specs.OfListing.{IsSomeCondition}
use Rattle.cmd_program.specs.Upgrade.{upgrade_values, upgrade_answer}
use Rattle.cmd_phases.proofs.CheckedPlaces.{certified_of_job}
use Rattle.cmd_program.proofs.Needing.{are_some}
use Rattle.cmd_program.proofs.Walk.{upgrade_found}
use Rattle.cmd_program.proofs.upgraded.with_turns.Goals as goal

pub texts_of-requires-clause-wave : goal.texts_of-requires-clause-wave
texts_of-requires-clause-wave c =
    let checked = c.in_ok-checked.checked in
    certified_of_job c.args.words.now.limits c.args.agreed.now.parts c.args.cert checked.wave checked.conditions c.in_ok-checked.ensures.certified

pub texts_of-requires-clause-conditions : goal.texts_of-requires-clause-conditions
texts_of-requires-clause-conditions c =
    let wave = c.in_ok-checked.checked.wave in
    subst (AllByRecursion (IsSomeCondition wave)) (sym c.as_slice.ensures.value)
    (are_some Turns wave c.in_ok-conditions.conditions.items c.in_ok-conditions.ensures)

pub returns : goal.returns
returns c =
    let w = upgrade_values c.args.words.now in
    let checked = c.in_ok-checked.checked in
    upgrade_found w c.args.agreed.now.parts c.args.cert checked.wave checked.conditions c.in_ok-conditions.conditions.items
    c.in_ok-texts_of.field-0 c.in_ok-checked.ensures.certified c.in_ok-conditions.ensures
    (c.in_ok-texts_of.ensures ∙ ap (λ (views : List ConditionView). upgrade_answer w c.args.agreed.now.parts checked.wave views) c.as_slice.ensures.value)
