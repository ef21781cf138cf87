-- The forces are those of what the wave shows, and can be written.
use Rattle.std.proofs.Common.{◌∙◌, subst, sym}
use Rattle.std.specs.List.{AllByRecursion}
use Rattle.design_circuit.specs.declared.design.Design.{Design}
use Rattle.cmd_phases.specs.OfListing.{IsSomeCondition}
use Rattle.recording_binding.specs.Binding.{FitsBinding}
use Rattle.recording_shown.specs.History.{shown_history}
use Rattle.recording_shown.proofs.Showing.{shows_wave}
use Rattle.cmd_program.specs.Repair.{repair_values}
use Rattle.cmd_program.proofs.Needing.{are_some}
use Rattle.cmd_program.proofs.TextsOf.{wave_forces_written, wave_texts, wave_vcd}
use Rattle.cmd_program.proofs.Walk.{forces_are}
use Rattle.cmd_program.proofs.texts.texts_of.Goals as goal

pub wave_text-requires-clause-binding : goal.wave_text-requires-clause-binding
wave_text-requires-clause-binding c =
    subst (λ (d : Design). FitsBinding d c.args.agreed.now.parts.recorded.binding) (sym c.requires.wave.design) c.args.agreed.now.fits.recorded.binding

pub write_code-requires : goal.write_code-requires
write_code-requires c = wave_forces_written c.args.agreed.now.parts.netlist c.args.agreed.now.parts.recorded c.args.wave.now c.in_ok-forces.forces c.args.agreed.now.fits c.requires.wave c.in_ok-forces.ensures

pub report_with-requires-clause-conditions : goal.report_with-requires-clause-conditions
report_with-requires-clause-conditions c =
    subst (AllByRecursion (IsSomeCondition c.args.wave.now)) (sym c.as_slice-listed.ensures.value)
    (are_some c.form_of-form.result c.args.wave.now c.in_ok-conditions.conditions.items c.in_ok-conditions.ensures)

pub returns : goal.returns
returns c = wave_texts (repair_values c.args.words.now) c.args.agreed.now.parts.netlist c.args.agreed.now.parts.recorded c.args.wave.now (shown_history c.args.wave.now)
    c.in_ok-forces.forces c.as_slice.result.now c.in_ok-vcd.vcd.items c.in_ok-code.code.items c.in_ok-cert.cert.items c.in_ok-report.report.items
    c.form_of-form.result c.in_ok-conditions.conditions.items c.as_slice-listed.result.now
    (shows_wave c.args.wave.now) (forces_are c.args.wave.now c.in_ok-forces.forces c.in_ok-forces.ensures)
    (c.as_slice.ensures.value ∙ c.in_ok-scope.ensures.pieces) (c.in_ok-vcd.ensures ∙ wave_vcd c.args.agreed.now.parts.netlist c.args.agreed.now.parts.recorded c.args.wave.now (shown_history c.args.wave.now) c.requires.wave)
    c.in_ok-code.ensures c.form_of-form.ensures c.in_ok-conditions.ensures
    c.as_slice-listed.ensures.value c.in_ok-cert.ensures c.in_ok-report.ensures
    c.ready_of.result c.ready_of.ensures
