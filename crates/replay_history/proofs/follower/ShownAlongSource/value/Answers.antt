-- The place of a number is one of the history's.
use Rattle.design_circuit.specs.Circuit.{job_in}
use Rattle.design_circuit.specs.Fits.{place_at}
use Rattle.design_circuit.proofs.Handed.{has_place}
use Rattle.design_circuit.proofs.Numbers.{is_place_at}
use Rattle.replay_history.proofs.follower.ShownAlongSource.value.Goals as goal

pub shown-requires-clause-place : goal.shown-requires-clause-place
shown-requires-clause-place c =
    let j = job_in c.args.self.now.circuit in
    let shows = c.requires.shows in
    let fits = c.args.self.now.circuit.fits.fits_job in
    rw c.place_of.ensures (has_place j c.args.self.now.follower.now.row.history (place_at j c.args.place) shows.places (is_place_at j c.args.place fits.ordering fits.all shows.within))
