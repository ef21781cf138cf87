-- Within a moment inputs are recorded as one step before; at its start, what isn't due didn't change.
use Rattle.std.proofs.Common.{◌<◌, ◌%◌, ◌/◌, ℕ, [], length, slice_index_or, ap, arith, refl, subst}
use Rattle.std.proofs.lemmas.Grind.{common_steps}
use Rattle.design_cell.specs.declared.value.Value.TheVariants.{X}
use Rattle.design_circuit.specs.Circuit.{job_in}
use Rattle.base_ledger.specs.Change.{AreInWidth}
use Rattle.replay_fans.proofs.Marking.{inputs_due}
use Rattle.replay_fans.proofs.Moments.{later_moment, moment_before, same_moment}
use Rattle.replay_fans.proofs.marks.mark_inputs.Goals as goal

pub returns-then-step-circuit-ne0-clause-inputs : goal.returns-then-step-circuit-ne0-clause-inputs
returns-then-step-circuit-ne0-clause-inputs c = λ net low clear.
    (let test = c.if-step-circuit-ne0.true in
    let rest : 0 < c.args.step % c.args.circuit.now.stim.now.rounds = omega (arith, test) in
    let same = same_moment c.args.step c.args.circuit.now.stim.now.rounds c.args.circuit.now.fits.fits_job.some_round rest in
    ap (λ (m : ℕ). slice_index_or (slice_index_or c.args.circuit.now.stim.now.inputs m []) net X) same)

pub changed-requires-clause-later : goal.changed-requires-clause-later
changed-requires-clause-later c = later_moment c.args.step c.args.circuit.now.stim.now.rounds c.requires.later
    c.if-step-circuit-ne0.false

pub mark_changes-requires-clause-nets : goal.mark_changes-requires-clause-nets
mark_changes-requires-clause-nets c =
    let moment = c.args.step / c.args.circuit.now.stim.now.rounds in
    let within : moment < length c.args.circuit.now.stim.now.inputs = grind (arith, common_steps) in
    subst (λ (n : ℕ). AreInWidth n c.changed.result.now) (c.args.circuit.now.fits.fits_stim.values moment within)
    c.changed.ensures.nets

pub returns-clause-inputs : goal.returns-clause-inputs
returns-clause-inputs c =
    let rounds = c.args.circuit.now.stim.now.rounds in
    let moment = c.args.step / rounds in
    let within : moment < length c.args.circuit.now.stim.now.inputs = grind (arith, common_steps) in
    let long = c.args.circuit.now.fits.fits_stim.values moment within in
    let earlier = moment_before c.args.step rounds c.args.circuit.now.fits.fits_job.some_round c.requires.later
    c.if-step-circuit-ne0.false in
    inputs_due (job_in c.args.circuit.now) c.args.step c.args.circuit.now.stim.now.inputs c.changed.result.now
    c.mark_changes.new.due
    (λ m net. refl) long earlier c.changed.ensures c.mark_changes.ensures.changes
