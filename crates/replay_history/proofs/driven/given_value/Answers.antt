-- Where the driver stands, and what it reads of the history.
use Rattle.std.proofs.Common.{◌∙◌, ap, sym}
use Rattle.design_cell.specs.declared.value.Value.{Value}
use Rattle.design_circuit.specs.Handed.{shown_of}
use Rattle.design_circuit.specs.Replay.{driven, seen}
use Rattle.replay_history.specs.Going.{job_at}
use Rattle.replay_history.proofs.Seeing.{driven_seen, driver_fits, reads_before, shows_below, spot_at}
use Rattle.replay_history.proofs.driven.given_value.Goals as goal

pub driven_value-requires-clause-spot : goal.driven_value-requires-clause-spot
driven_value-requires-clause-spot c =
    rw c.width_of.ensures (spot_at (job_at c.args.step.now) c.args.step.now.circuit.now.fits.fits_job c.args.step.now.number c.args.position c.args.net c.args.step.now.fits.within c.requires.position c.requires.net)

pub driven_value-requires-clause-before : goal.driven_value-requires-clause-before
driven_value-requires-clause-before c = reads_before (job_at c.args.step.now) c.args.step.now.circuit.now.fits.fits_job c.args.position c.args.net c.args.driver.now c.requires.position c.requires.net c.requires.driver

pub driven_value-requires-clause-driver : goal.driven_value-requires-clause-driver
driven_value-requires-clause-driver c = driver_fits (job_at c.args.step.now) c.args.step.now.circuit.now.fits.fits_job c.args.position c.args.net c.args.driver.now c.requires.position c.requires.net c.requires.driver

pub driven_value-requires-clause-has : goal.driven_value-requires-clause-has
driven_value-requires-clause-has c =
    rw c.width_of.ensures (shows_below c.args.step.now.circuit.now c.args.writer.now.history c.requires.places c.args.step.now.number c.args.position c.args.step.now.fits.within c.requires.position)

pub returns : goal.returns
returns c =
    let j = job_at c.args.step.now in
    c.driven_value.ensures
    ∙ ap (λ (was : Value). driven j (seen (shown_of j c.args.writer.now.history) was) c.args.step.now.number c.args.net c.args.driver.now) c.was_kept-was.ensures
    ∙ sym (driven_seen c.args.step.now.circuit.now c.args.writer.now.history c.args.step.now.number c.args.net c.args.driver.now)
