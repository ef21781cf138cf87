-- A history has the place of a number.
use Rattle.std.proofs.Common.{ℕ}
use Rattle.design_circuit.specs.Circuit.{job_in}
use Rattle.design_circuit.specs.declared.circuit.Circuit.{Circuit}
use Rattle.design_circuit.specs.Fits.{place_at}
use Rattle.design_circuit.specs.Handed.{ShowsPlace}
use Rattle.design_circuit.specs.History.{HasPlace, HistoryView}
use Rattle.design_circuit.proofs.Handed.{has_place}
use Rattle.design_circuit.proofs.Numbers.{is_place_at}

pub shows_there : (circuit : Circuit) (history : HistoryView) (place : ℕ) → ShowsPlace circuit history place → HasPlace history (place_at (job_in circuit) place)
shows_there circuit history place shows =
    let j = job_in circuit in
    has_place j history (place_at j place) shows.places (is_place_at j place circuit.fits.fits_job.ordering circuit.fits.fits_job.all shows.within)
