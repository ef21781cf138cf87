-- The readers of the net become due, and what was due still is.
use Rattle.std.proofs.Common.{ℕ, arith, subst, sym}
use Rattle.std.specs.Prelude.{Contains}
use Rattle.replay_history.proofs.Watching.{gains_due, gains_more}
use Rattle.replay_due.specs.Readers.{readers_of}
use Rattle.recording_shown.proofs.marks.mark_position.Goals as goal

pub net-net-requires : goal.net-net-requires
net-net-requires c =
    let all = c.args.circuit.now.fits.fits_job.all in
    let low = c.requires.position in
    omega (arith, all, low)

pub mark_all-requires-clause-net : goal.mark_all-requires-clause-net
mark_all-requires-clause-net c =
    let fits = c.args.circuit.now.fits.fits_job in
    let all = fits.all in
    let position = c.requires.position in
    let low = fits.ordering.below c.args.position (omega (arith, all, position)) in
    let room = c.requires.readers.inside in
    let is = c.net-net.ensures in
    omega (arith, low, all, room, is)

pub returns-clause-more : goal.returns-clause-more
returns-clause-more c = gains_more c.args.due.now c.mark_all.new.due _ c.mark_all.ensures.gains

pub returns-clause-due : goal.returns-clause-due
returns-clause-due c = λ reader has.
    gains_due c.args.due.now c.mark_all.new.due (readers_of c.args.readers.now.table c.net-net.result) reader
    c.mark_all.ensures.gains
    (subst (λ (n : ℕ). Contains (readers_of c.args.readers.now.table n) reader) (sym c.net-net.ensures) has)
