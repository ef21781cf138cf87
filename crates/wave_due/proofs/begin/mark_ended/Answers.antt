-- Two blank steps show the same; else all is due.
use Rattle.design_circuit.specs.Circuit.{job_in}
use Rattle.design_circuit.specs.Handed.{shown_of}
use Rattle.wave_due.proofs.Histories.{all_shows, blank_shows}
use Rattle.wave_due.proofs.begin.mark_ended.Goals as goal

pub returns-then-is_blank_before-clause-shows : goal.returns-then-is_blank_before-clause-shows
returns-then-is_blank_before-clause-shows c =
    blank_shows (job_in c.args.circuit.now) c.args.circuit.now.fits.fits_job c.args.history.now c.args.step c.args.due.now
    c.requires.places c.requires.later c.requires.step c.requires.blank
    (c.is_blank_before.ensures c.if-is_blank_before.true)

pub returns-clause-shows : goal.returns-clause-shows
returns-clause-shows c =
    let j = job_in c.args.circuit.now in
    all_shows j (shown_of j c.args.history.now) c.args.step c.mark_every.new.due c.mark_every.ensures.all
