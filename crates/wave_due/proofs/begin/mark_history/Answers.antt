-- What isn't due is as the history has it one step before.
use Rattle.std.proofs.Common.{ℕ, subst}
use Rattle.design_circuit.specs.Circuit.{job_in}
use Rattle.base_ledger.specs.Change.{AreInWidth}
use Rattle.wave_due.proofs.Histories.{written_shows}
use Rattle.wave_due.proofs.begin.mark_history.Goals as goal

pub mark_changes-requires-clause-nets : goal.mark_changes-requires-clause-nets
mark_changes-requires-clause-nets c =
    subst (λ (n : ℕ). AreInWidth n c.in-Some.changes.now) c.requires.places.nets c.in-Some.ensures.some.inside

pub returns-in-Some-clause-shows : goal.returns-in-Some-clause-shows
returns-in-Some-clause-shows c =
    written_shows (job_in c.args.circuit.now) c.args.circuit.now.fits.fits_job c.args.history.now c.args.step
    c.in-Some.changes.now
    c.mark_changes.new.due c.requires.places c.requires.later c.requires.step c.in-Some.ensures.some
    c.mark_changes.ensures.changes
